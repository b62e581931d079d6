-- Blocks that are laid out.
use Rattle.std.proofs.Common.{◌≡◌, ℕ, zero, suc, ◌+◌, ◌<◌, ◌≤◌, List, [], ◌∷◌, ◌++◌, length, get_or, map, refl, sym, ap, subst, ◌∙◌, arith}
use Rattle.std.specs.Prelude.{All}
use Rattle.std.proofs.lemmas.List.{append-nil, length-append, length-map, map-append}
use Rattle.std.proofs.lemmas.List.Concat.{flat_map-append}
use Rattle.regalloc2_function.specs.FunctionValue.{BlockValue, InstValue}
use Rattle.regalloc2_serialize.specs.declared.table_function.table.TableInst.{TableInst}
use Rattle.regalloc2_serialize.specs.declared.table_function.table.TableBlock.{TableBlock}
use Rattle.regalloc2_serialize.specs.declared.table_function.builder.BlockDraft.{BlockDraft}
use Rattle.regalloc2_serialize.specs.declared.table_function.builder.BuildError.{BuildError}
use Rattle.regalloc2_serialize.specs.declared.table_function.builder.BuildError.TheVariants.{Memory, NoBlock, TooManyBlocks, TooManyInsts, TooManyVRegs}
use Rattle.regalloc2_serialize.specs.TableFunction.Table.{inst_of_table, block_of_table}
use Rattle.regalloc2_serialize.specs.TableFunction.Draft.{DraftValue, declared_with, draft_of, draft_at}
use Rattle.regalloc2_serialize.specs.TableFunction.Built.{placed_block, blocks_from, insts_of, without_preds, preds_from, IsAstray, IsUnbuilt}
use Rattle.regalloc2_serialize.specs.TableFunction.Steps.{preds_at, succs_at, IsUnplaced, AreUnlinked}

-- laying out one more block puts it last, at the instruction at which the others end
pub blocks_from-push : (s : ℕ) (ds : List DraftValue) (d : DraftValue) → blocks_from s (ds ++ d ∷ []) ≡ blocks_from s ds
    ++ placed_block (s + length (insts_of ds)) d ∷ []
blocks_from-push s [] d = let e : s + 0 ≡ s = omega arith in rw e refl
blocks_from-push s (x ∷ ds) d =
    let e : s + length (insts_of (x ∷ ds)) ≡ s + length x.insts + length (insts_of ds) = rw length-append (omega arith) in
    rw e (ap (λ (bs : List BlockValue). placed_block s x ∷ bs) (blocks_from-push (s + length x.insts) ds d))

-- the instructions of partial blocks and one more are theirs, followed by the instructions of the one more
pub insts_of-push : (ds : List DraftValue) (d : DraftValue) → insts_of (ds ++ d ∷ []) ≡ insts_of ds ++ d.insts
insts_of-push ds d = flat_map-append (λ (x : DraftValue). x.insts) ds (d ∷ []) ∙ ap (λ (is : List InstValue). insts_of ds ++ is) (append-nil d.insts)

-- there are as many blocks laid out as there are partial blocks
pub length-blocks_from : (s : ℕ) (ds : List DraftValue) → length (blocks_from s ds) ≡ length ds
length-blocks_from s [] = refl
length-blocks_from s (d ∷ ds) = ap suc (length-blocks_from (s + length d.insts) ds)

-- blocks that are laid out have no predecessors to take away
pub bare-blocks_from : (s : ℕ) (ds : List DraftValue) → map without_preds (blocks_from s ds) ≡ blocks_from s ds
bare-blocks_from s [] = refl
bare-blocks_from s (d ∷ ds) = ap (λ (bs : List BlockValue). placed_block s d ∷ bs) (bare-blocks_from (s + length d.insts) ds)

-- blocks that are laid out have the successors of their partial blocks, list for list
pub succs-blocks_from : (s : ℕ) (ds : List DraftValue) → map (λ b. b.succs) (blocks_from s ds) ≡ map (λ d. d.succs) ds
succs-blocks_from s [] = refl
succs-blocks_from s (d ∷ ds) = ap (λ (ss : List (List ℕ)). d.succs ∷ ss) (succs-blocks_from (s + length d.insts) ds)

-- a block that is laid out has no predecessors yet
pub preds-blocks_from : (s : ℕ) (ds : List DraftValue) (b : ℕ) → preds_at (blocks_from s ds) b ≡ []
preds-blocks_from s [] b = refl
preds-blocks_from s (d ∷ ds) zero = refl
preds-blocks_from s (d ∷ ds) (suc b) = preds-blocks_from (s + length d.insts) ds b

-- the block of a number has the successors of the partial block of that number
pub succs_at-blocks_from : (s : ℕ) (ds : List DraftValue) (b : ℕ) → succs_at (blocks_from s ds) b ≡ (get_or ds b (declared_with [])).succs
succs_at-blocks_from s [] b = refl
succs_at-blocks_from s (d ∷ ds) zero = refl
succs_at-blocks_from s (d ∷ ds) (suc b) = succs_at-blocks_from (s + length d.insts) ds b

-- a reason for which some instructions can't be laid out is one for which more of them can't
pub unplaced_more : (m n : ℕ) (e : BuildError) → m ≤ n → IsUnplaced m e → IsUnplaced n e
unplaced_more m n Memory l h = tt
unplaced_more m n TooManyInsts l h = omega (arith, l, h)
unplaced_more m n (NoBlock c) l h = h
unplaced_more m n TooManyBlocks l h = h
unplaced_more m n TooManyVRegs l h = h

-- some partial blocks and the next have no more instructions than all partial blocks
pub insts_within : {A : Type 0} (ys zs all : List (BlockDraft A)) (d : BlockDraft A) → ys ++ d ∷ zs ≡ all →
    length (insts_of (map draft_of ys)) + length (draft_of d).insts ≤ length (insts_of (map draft_of all))
insts_within {A = A} ys zs all d e =
    let split : insts_of (map draft_of all) ≡ insts_of (map draft_of ys) ++ ((draft_of d).insts ++ insts_of (map draft_of zs)) =
    ap (λ (ds : List (BlockDraft A)). insts_of (map draft_of ds)) (sym e) ∙ ap insts_of (map-append draft_of ys (d ∷ zs))
    ∙ flat_map-append (λ (x : DraftValue). x.insts) (map draft_of ys) (draft_of d ∷ map draft_of zs) in
    rw (split, length-append, length-append) (omega arith)

-- laying out the next block behind the first partial blocks gives the blocks of the partial blocks with it
pub blocks_more : {A B : Type 0} (bs cs : List BlockValue) (is : List (TableInst A)) (ys : List (BlockDraft B)) (d : BlockDraft B) →
    map inst_of_table is ≡ insts_of (map draft_of ys) → bs ≡ blocks_from 0 (map draft_of ys) →
    cs ≡ bs ++ placed_block (length is) (draft_of d) ∷ [] → cs ≡ blocks_from 0 (map draft_of (ys ++ d ∷ []))
blocks_more bs cs is ys d i b c =
    let n : length is ≡ 0 + length (insts_of (map draft_of ys)) = omega (arith, sym (length-map is inst_of_table) ∙ ap length i) in
    rw (c, b, n, map-append) (sym (blocks_from-push 0 (map draft_of ys) (draft_of d)))

-- the instructions of the first partial blocks, and then of the next, are the instructions of the partial blocks with
-- it
pub insts_more : {A B : Type 0} (js is : List (TableInst A)) (ys : List (BlockDraft B)) (d : BlockDraft B) → map inst_of_table is ≡ insts_of (map draft_of ys) →
    map inst_of_table js ≡ map inst_of_table is ++ (draft_of d).insts → map inst_of_table js ≡ insts_of (map draft_of (ys ++ d ∷ []))
insts_more js is ys d i j = rw (j, i, map-append) (sym (insts_of-push (map draft_of ys) (draft_of d)))

-- a table with the blocks of partial blocks has as many blocks as there are partial blocks
pub count_from : {A B : Type 0} (bs : List (TableBlock A)) (ds : List (BlockDraft B)) → map block_of_table bs ≡ blocks_from 0 (map draft_of ds) →
    length bs ≡ length ds
count_from bs ds e = sym (length-map bs block_of_table) ∙ ap length e ∙ length-blocks_from 0 (map draft_of ds) ∙ length-map ds draft_of

-- an error in adding predecessors to the blocks of partial blocks is an error of the partial blocks
pub unbuilt_from_unlinked : (bs : List BlockValue) (ds : List DraftValue) (n : ℕ) (e : BuildError) → bs ≡ blocks_from 0 ds → AreUnlinked bs e → IsUnbuilt ds n e
unbuilt_from_unlinked bs ds n Memory b h = tt
unbuilt_from_unlinked bs ds n (NoBlock s) b h =
    let P : List (List ℕ) → Type 0 = λ ss. IsAstray ss s in
    subst P (ap (λ (xs : List BlockValue). map (λ x. x.succs) xs) b ∙ succs-blocks_from 0 ds) h
unbuilt_from_unlinked bs ds n TooManyBlocks b h = absurd h
unbuilt_from_unlinked bs ds n TooManyInsts b h = absurd h
unbuilt_from_unlinked bs ds n TooManyVRegs b h = absurd h

-- an error in laying out the instructions of partial blocks is an error of the partial blocks
pub unbuilt_from_unplaced : (ds : List DraftValue) (n : ℕ) (e : BuildError) → IsUnplaced (length (insts_of ds)) e → IsUnbuilt ds n e
unbuilt_from_unplaced ds n Memory h = tt
unbuilt_from_unplaced ds n TooManyInsts h = h
unbuilt_from_unplaced ds n (NoBlock s) h = absurd h
unbuilt_from_unplaced ds n TooManyBlocks h = absurd h
unbuilt_from_unplaced ds n TooManyVRegs h = absurd h

-- blocks that got predecessors and nothing else are the blocks of the partial blocks, up to predecessors
pub built_blocks : (bs new : List BlockValue) (ds : List DraftValue) → bs ≡ blocks_from 0 ds → map without_preds new ≡ map without_preds bs →
    map without_preds new ≡ blocks_from 0 ds
built_blocks bs new ds b e = e ∙ ap (map without_preds) b ∙ bare-blocks_from 0 ds

-- what is added as predecessors of the blocks laid out, which had none, is what the partial blocks' successors say
pub built_preds : (bs new : List BlockValue) (ds : List DraftValue) (b : ℕ) → bs ≡ blocks_from 0 ds → preds_at new b ≡ preds_at bs b
    ++ preds_from b 0 (map (λ x. x.succs) bs) → preds_at new b ≡ preds_from b 0 (map (λ d. d.succs) ds)
built_preds bs new ds b e h =
    let none : preds_at bs b ≡ [] = ap (λ (xs : List BlockValue). preds_at xs b) e ∙ preds-blocks_from 0 ds b in
    let succs : map (λ (x : BlockValue). x.succs) bs ≡ map (λ d. d.succs) ds = ap (λ (xs : List BlockValue). map (λ x. x.succs) xs) e
    ∙ succs-blocks_from 0 ds in
    rw (none, succs) at h

-- if the successors of the blocks laid out are in range, the successors of the partial blocks are
pub built_succs : (bs : List BlockValue) (ds : List DraftValue) (n b : ℕ) → bs ≡ blocks_from 0 ds → n ≡ length ds → All (λ s. s < n) (succs_at bs b) →
    All (λ s. s < length ds) (draft_at ds b).succs
built_succs bs ds n b e c h =
    let at : succs_at bs b ≡ (draft_at ds b).succs = ap (λ (xs : List BlockValue). succs_at xs b) e ∙ succs_at-blocks_from 0 ds b in
    rw (c, at) at h

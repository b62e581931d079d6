-- Where the blocks and instructions of partial blocks are laid out, and that the function is structurally valid.
use Rattle.std.proofs.Common.{◌≡◌, ◌∙◌, ℕ, zero, suc, ◌+◌, ◌-◌, ◌<◌, List, [], ◌∷◌, ◌++◌, length, get_or, take, refl, sym, ap, arith}
use Rattle.std.specs.Prelude.{slice_index, slice_index_or}
use Rattle.std.proofs.Math.ListN.{get_or-map as get_or_map}
use Rattle.std.proofs.lemmas.List.{append-nil, get_or_append_left, get_or-append-add, length-append, length-map, take_all, take_more}
use Rattle.std.proofs.lemmas.List.Concat.{flat_map-append}
use Rattle.regalloc2_function.specs.FunctionValue.{FunctionValue, BlockValue, InstValue, block_at, inst_at, no_block, no_inst, last_of}
use Rattle.regalloc2_function.specs.WellFormed.{EndsAt, FollowsAt, CountedAt, IsFramed}
use Rattle.regalloc2_serialize.specs.TableFunction.Draft.{DraftValue, declared_with, draft_at}
use Rattle.regalloc2_serialize.specs.TableFunction.Built.{without_preds, placed_block, blocks_from, insts_of}
use Rattle.regalloc2_serialize.specs.Rewrite.Laid.{HasDrafts, IsFramedDraft, start_of}

abbrev no_draft : DraftValue
no_draft = declared_with []

insts-push : (ds : List DraftValue) (d : DraftValue) → insts_of (ds ++ d ∷ []) ≡ insts_of ds ++ d.insts
insts-push ds d = flat_map-append (λ (x : DraftValue). x.insts) ds (d ∷ []) ∙ ap (λ (is : List InstValue). insts_of ds ++ is) (append-nil d.insts)

many-placed : (s : ℕ) (ds : List DraftValue) → length (blocks_from s ds) ≡ length ds
many-placed s [] = refl
many-placed s (d ∷ ds) = ap suc (many-placed (s + length d.insts) ds)

-- a block has the successors of its partial block
pub succs-placed : (s : ℕ) (ds : List DraftValue) (n : ℕ) → (get_or (blocks_from s ds) n no_block).succs ≡ (draft_at ds n).succs
succs-placed s [] n = refl
succs-placed s (d ∷ ds) zero = refl
succs-placed s (d ∷ ds) (suc n) = succs-placed (s + length d.insts) ds n

placed-at : (s : ℕ) (ds : List DraftValue) (n : ℕ) → n < length ds →
    get_or (blocks_from s ds) n no_block ≡ placed_block (s + start_of ds n) (draft_at ds n)
placed-at s [] n less = absurd (omega arith)
placed-at s (d ∷ ds) zero less = let e : s ≡ s + 0 = omega arith in ap (λ (k : ℕ). placed_block k d) e
placed-at s (d ∷ ds) (suc n) less =
    let long : length (d.insts ++ insts_of (take n ds)) ≡ length d.insts + length (insts_of (take n ds)) = length-append d.insts (insts_of (take n ds)) in
    let e : s + length d.insts + length (insts_of (take n ds)) ≡ s + length (d.insts ++ insts_of (take n ds)) = omega (arith, long) in
    placed-at (s + length d.insts) ds n (omega arith) ∙ ap (λ (k : ℕ). placed_block k (draft_at ds n)) e

inst-placed : (ds : List DraftValue) (n j : ℕ) → n < length ds → j < length (draft_at ds n).insts →
    get_or (insts_of ds) (start_of ds n + j) no_inst ≡ get_or (draft_at ds n).insts j no_inst
inst-placed [] n j less within = absurd (omega arith)
inst-placed (d ∷ ds) zero j less within =
    let e : 0 + j ≡ j = omega arith in
    ap (λ (k : ℕ). get_or (d.insts ++ insts_of ds) k no_inst) e ∙ get_or_append_left d.insts (insts_of ds) no_inst j within
inst-placed (d ∷ ds) (suc n) j less within =
    let long : length (d.insts ++ insts_of (take n ds)) ≡ length d.insts + length (insts_of (take n ds)) = length-append d.insts (insts_of (take n ds)) in
    let e : length (d.insts ++ insts_of (take n ds)) + j ≡ length d.insts + (start_of ds n + j) = omega (arith, long) in
    ap (λ (k : ℕ). get_or (d.insts ++ insts_of ds) k no_inst) e
    ∙ get_or-append-add d.insts (insts_of ds) (start_of ds n + j) no_inst ∙ inst-placed ds n j (omega arith) within

-- the block after ends where this one does
pub start-next : (ds : List DraftValue) (n : ℕ) → n < length ds → start_of ds (n + 1) ≡ start_of ds n + length (draft_at ds n).insts
start-next ds n less =
    let split : take (n + 1) ds ≡ take n ds ++ draft_at ds n ∷ [] = take_more ds n no_draft less in
    ap (λ (xs : List DraftValue). length (insts_of xs)) split ∙ ap length (insts-push (take n ds) (draft_at ds n))
    ∙ length-append (insts_of (take n ds)) (draft_at ds n).insts

zero-more : (n : ℕ) → 0 + n ≡ n
zero-more n = omega arith

-- what a function has of the partial block of a number
pub record IsLaidAt (ds : List DraftValue) (f : FunctionValue) (n : ℕ) : Type 0 where
  pub first : (block_at f n).range.first ≡ start_of ds n
  pub end : (block_at f n).range.end ≡ start_of ds n + length (draft_at ds n).insts
  pub succs : (block_at f n).succs ≡ (draft_at ds n).succs
  pub params : (block_at f n).params ≡ (draft_at ds n).params
  pub arguments : (block_at f n).arguments ≡ (draft_at ds n).arguments
  pub insts : (j : ℕ) → j < length (draft_at ds n).insts → inst_at f (start_of ds n + j) ≡ slice_index_or (draft_at ds n).insts j no_inst

module _ (ds : List DraftValue) (f : FunctionValue) (h : HasDrafts ds f) where
  -- there are as many blocks as partial blocks
  pub count-laid : length f.blocks ≡ length ds
  count-laid = sym (length-map f.blocks without_preds) ∙ ap length h.blocks ∙ many-placed 0 ds

  -- each block has the parts of its partial block
  pub laid-at : (n : ℕ) → n < length ds → IsLaidAt ds f n
  laid-at n less =
      let same : without_preds (block_at f n) ≡ placed_block (start_of ds n) (draft_at ds n) =
      sym (get_or_map without_preds f.blocks n no_block) ∙ ap (λ (bs : List BlockValue). get_or bs n no_block) h.blocks ∙ placed-at 0 ds n less
      ∙ ap (λ (k : ℕ). placed_block k (draft_at ds n)) (zero-more (start_of ds n)) in
      record {
        first = ap (λ (b : BlockValue). b.range.first) same;
        end = ap (λ (b : BlockValue). b.range.end) same;
        succs = ap (λ (b : BlockValue). b.succs) same;
        params = ap (λ (b : BlockValue). b.params) same;
        arguments = ap (λ (b : BlockValue). b.arguments) same;
        insts = λ j within. ap (λ (is : List InstValue). get_or is (start_of ds n + j) no_inst) h.insts ∙ inst-placed ds n j less within;
      }

  follows : ((n : ℕ) → n < length ds → IsFramedDraft ds (draft_at ds n)) → (n : ℕ) → n < length ds → FollowsAt f n (block_at f n)
  follows framed n less =
      let here = laid-at n less in (
        omega (arith, here.first, here.end, (framed n less).nonempty),
        begins,
        continues,
        stops,
      )
    where
      begins : n ≡ 0 → (block_at f n).range.first ≡ 0
      begins zero-th = (laid-at n less).first ∙ ap (λ (k : ℕ). start_of ds k) zero-th

      continues : 0 < n → (block_at f n).range.first ≡ (block_at f (n - 1)).range.end
      continues some =
          let back : n ≡ n - 1 + 1 = omega arith in
          (laid-at n less).first ∙ ap (λ (k : ℕ). start_of ds k) back ∙ start-next ds (n - 1) (omega arith) ∙ sym (laid-at (n - 1) (omega arith)).end

      stops : n + 1 ≡ length f.blocks → (block_at f n).range.end ≡ length f.insts
      stops last =
          let all : take (n + 1) ds ≡ ds = take_all (n + 1) ds (omega (arith, last, count-laid)) in
          (laid-at n less).end ∙ sym (start-next ds n less) ∙ ap (λ (xs : List DraftValue). length (insts_of xs)) all ∙ ap length (sym h.insts)

  ends : (n : ℕ) → n < length ds → IsFramedDraft ds (draft_at ds n) → EndsAt f n (block_at f n)
  ends n less framed =
      let here = laid-at n less in
      let long : ℕ = length (draft_at ds n).insts in
      let last : last_of (block_at f n) ≡ start_of ds n + (long - 1) = omega (arith, here.end, framed.nonempty) in
      let at-last : inst_at f (last_of (block_at f n)) ≡ slice_index_or (draft_at ds n).insts (long - 1) no_inst =
      ap (inst_at f) last ∙ here.insts (long - 1) (omega (arith, framed.nonempty)) in (
        rw (at-last, here.succs) framed.last,
        λ i from below before.
            let j : ℕ = i - start_of ds n in
            let at : i ≡ start_of ds n + j = omega (arith, here.first, from) in
            let is : inst_at f i ≡ slice_index_or (draft_at ds n).insts j no_inst =
            ap (inst_at f) at ∙ here.insts j (omega (arith, here.first, here.end, from, below)) in
            rw is (framed.others j (omega (arith, here.first, from, before, last, framed.nonempty))),
      )

  counts : (n : ℕ) → n < length ds → IsFramedDraft ds (draft_at ds n) → CountedAt f n (block_at f n)
  counts n less framed k within =
      let here = laid-at n less in
      let inside : k < length (draft_at ds n).succs = omega (arith, ap length here.succs, within) in
      let t : ℕ = slice_index (draft_at ds n).succs k in
      let target : slice_index (block_at f n).succs k ≡ t = ap (λ (ss : List ℕ). slice_index ss k) here.succs in
      rw (here.arguments, target, (laid-at t (h.succs n less k 0 inside)).params) (framed.counted k inside)

  -- a function of such partial blocks is structurally valid
  pub framed-laid : ((n : ℕ) → n < length ds → IsFramedDraft ds (draft_at ds n)) → f.entry < length ds → IsFramed f
  framed-laid framed entry = record {
    successors = (
      omega (arith, count-laid, entry),
      λ b less. rw ((laid-at b (omega (arith, count-laid, less))).succs, count-laid) (h.succs b (omega (arith, count-laid, less))),
    );
    follow = λ b less. follows framed b (omega (arith, count-laid, less));
    end = λ b less. ends b (omega (arith, count-laid, less)) (framed b (omega (arith, count-laid, less)));
    counted = λ b less. counts b (omega (arith, count-laid, less)) (framed b (omega (arith, count-laid, less)));
  }

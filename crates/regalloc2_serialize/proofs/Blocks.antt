-- Blocks from five lists, and blocks of a table.
use Rattle.std.proofs.Common.{◌≡◌, ◌∙◌, ℕ, ◌<◌, List, [], length, map, get_or, ap, sym, subst, arith, refl}
use Rattle.std.specs.List.{range_with_len}
use Rattle.std.proofs.lemmas.List.{ext_get_or, get_or-map, length-map, map-id}
use Rattle.std.proofs.lemmas.Simd.{map-map}
use Rattle.std.proofs.lemmas.List.FromFn.{get_or-map-range_with_len, length-map-range_with_len}
use Rattle.regalloc2_index.specs.Range.{Span}
use Rattle.regalloc2_names.specs.Register.{VirtualRegister}
use Rattle.regalloc2_names.specs.RegisterBits.{vreg_of_bits}
use Rattle.regalloc2_function.specs.FunctionValue.{BlockValue, no_block}
use Rattle.regalloc2_serialize.specs.Decoded.{stored_block, stored_range}
use Rattle.regalloc2_serialize.specs.declared.data.StoredFunction.{StoredFunction}
use Rattle.regalloc2_serialize.specs.declared.table_function.table.TableBlock.{TableBlock}
use Rattle.regalloc2_serialize.specs.TableFunction.Table.{block_of_table}

long-map : {X Y : Type 0} (f : X → Y) (xs : List X) → length (map f xs) ≡ length xs
long-map f xs = length-map xs f

under-at : {X Y Z : Type 0} (f : X → Z) (h : Y → Z) (xs : List X) (ys : List Y) (i : ℕ) (d : X) (e : Y) →
    i < length ys → map f xs ≡ map h ys → f (get_or xs i d) ≡ h (get_or ys i e)
under-at {Z = Z} f h xs ys i d e less same =
    let long : length xs ≡ length ys = sym (long-map f xs) ∙ ap length same ∙ long-map h ys in
    sym (get_or-map f xs i d (h e) (omega (arith, less, long))) ∙ ap (λ (l : List Z). get_or l i (h e)) same ∙ get_or-map h ys i e (h e) less

-- a block is the one made of its range, successors, predecessors, parameters and arguments
pub same-block : (b : BlockValue) (r : Span) (ss ps : List ℕ) (vs : List VirtualRegister) (args : List (List VirtualRegister)) →
    r ≡ b.range → ss ≡ b.succs → ps ≡ b.preds → vs ≡ b.params → args ≡ b.arguments →
    b ≡ record { range = r; succs = ss; preds = ps; params = vs; arguments = args }
same-block b r ss ps vs args hr hs hp hv ha = rw (hr, hs, hp, hv, ha) refl

-- blocks whose parts stand in five lists are the blocks that the lists name
pub read-blocks : {A X : Type 0} (s : StoredFunction A) (view : X → BlockValue) (xs : List X) →
    map stored_range s.blocks.items ≡ map (λ x. (view x).range) xs →
    map (λ l. l.items) s.block_succs.items ≡ map (λ x. (view x).succs) xs →
    map (λ l. l.items) s.block_preds.items ≡ map (λ x. (view x).preds) xs →
    map (λ l. map vreg_of_bits l.items) s.block_params_in.items ≡ map (λ x. (view x).params) xs →
    map (λ l. map (λ k. map vreg_of_bits k.items) l.items) s.block_params_out.items ≡ map (λ x. (view x).arguments) xs →
    map view xs ≡ map (stored_block s) (range_with_len 0 (length s.blocks.items))
read-blocks s view xs hr hs hp hv ha = ext_get_or no_block bs named (long ∙ sym (length-map-range_with_len (stored_block s) 0 count)) at
  where
    count : ℕ
    count = length s.blocks.items

    bs : List BlockValue
    bs = map view xs

    named : List BlockValue
    named = map (stored_block s) (range_with_len 0 count)

    long : length bs ≡ count
    long = long-map view xs ∙ sym (long-map (λ x. (view x).range) xs) ∙ sym (ap length hr) ∙ long-map stored_range s.blocks.items

    at : (i : ℕ) → i < length bs → get_or bs i no_block ≡ get_or named i no_block
    at i less =
        same-block (get_or bs i no_block) _ _ _ _ _
        (under-at stored_range (λ b. b.range) s.blocks.items bs i (0, 0) no_block less (hr ∙ sym (map-map (λ b. b.range) view xs)))
        (under-at (λ l. l) (λ b. b.succs) (map (λ l. l.items) s.block_succs.items) bs i [] no_block less (map-id _ ∙ hs ∙ sym (map-map (λ b. b.succs) view xs)))
        (under-at (λ l. l) (λ b. b.preds) (map (λ l. l.items) s.block_preds.items) bs i [] no_block less (map-id _ ∙ hp ∙ sym (map-map (λ b. b.preds) view xs)))
        (under-at (map vreg_of_bits) (λ b. b.params) (map (λ l. l.items) s.block_params_in.items) bs i [] no_block less
        (map-map (map vreg_of_bits) (λ l. l.items) s.block_params_in.items ∙ hv ∙ sym (map-map (λ b. b.params) view xs)))
        (under-at (map (λ k. map vreg_of_bits k.items)) (λ b. b.arguments) (map (λ l. l.items) s.block_params_out.items) bs i [] no_block less
        (map-map (map (λ k. map vreg_of_bits k.items)) (λ l. l.items) s.block_params_out.items ∙ ha ∙ sym (map-map (λ b. b.arguments) view xs)))
        ∙ sym (get_or-map-range_with_len (stored_block s) 0 count i i no_block (omega (arith, less, long)) (omega arith))

-- the block that is read at a number is the function's
pub block-read : {A : Type 0} (blocks : List (TableBlock A)) (i j : ℕ) (b : TableBlock A) → i < length (map block_of_table blocks) → j ≡ i →
    b ≡ get_or blocks j b → block_of_table b ≡ get_or (map block_of_table blocks) i no_block
block-read {A} blocks i j b less same is =
    let at : b ≡ get_or blocks i b = subst (λ (k : ℕ). b ≡ get_or blocks k b) same is in
    ap block_of_table at ∙ sym (get_or-map block_of_table blocks i b no_block (rw length-map at less))

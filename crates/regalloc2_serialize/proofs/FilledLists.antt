-- Lists that are filled by number.
use Rattle.std.proofs.Common.{◌≡◌, ◌∙◌, ℕ, ◌+◌, ◌<◌, ◌≤◌, List, [], ◌∷◌, ◌++◌, length, map, get_or, sym, arith, refl}
use Rattle.std.specs.List.{range_with_len}
use Rattle.std.specs.Prelude.{All}
use Rattle.regalloc2_function.specs.FunctionValue.{FunctionValue, BlockValue, no_block}
use Rattle.regalloc2_serialize.specs.CopyOfFunction.{shown_block, shown_inst, shown_function, HasNonemptyBlocks}
use Rattle.regalloc2_serialize.proofs.Lists.{all-under}
use Rattle.std.proofs.lemmas.List.{ext_get_or, get_or_default, get_or-map, length-map, map-append}
use Rattle.std.proofs.lemmas.List.FromFn.{get_or-map-range_with_len, length-map-range_with_len, map-range_with_len_more}

-- the parts of a function are each what is shown of another
pub record HasShownParts (f g : FunctionValue) : Type 0 where
  pub blocks : g.blocks ≡ map shown_block f.blocks
  pub insts : g.insts ≡ map shown_inst f.insts
  pub entry : g.entry ≡ f.entry
  pub num_vregs : g.num_vregs ≡ f.num_vregs
  pub int : g.slot_sizes.int ≡ f.slot_sizes.int
  pub float : g.slot_sizes.float ≡ f.slot_sizes.float
  pub vector : g.slot_sizes.vector ≡ f.slot_sizes.vector
  pub named_by_last_slot : g.named_by_last_slot ≡ f.named_by_last_slot
  pub labels : g.labels ≡ f.labels
  pub allows_multiple_defs : g.allows_multiple_defs ≡ f.allows_multiple_defs

-- a function of parts that are each what is shown
pub same-function : (f g : FunctionValue) → HasShownParts f g → g ≡ shown_function f
same-function f g h =
    let whole : ◌≡◌ {A = FunctionValue} (record {
      blocks = g.blocks;
      insts = g.insts;
      entry = g.entry;
      num_vregs = g.num_vregs;
      slot_sizes = record { int = g.slot_sizes.int; float = g.slot_sizes.float; vector = g.slot_sizes.vector };
      named_by_last_slot = g.named_by_last_slot;
      labels = g.labels;
      allows_multiple_defs = g.allows_multiple_defs;
    }) (shown_function f) =
    rw (h.blocks, h.insts, h.entry, h.num_vregs, h.int, h.float, h.vector, h.named_by_last_slot, h.labels, h.allows_multiple_defs) refl in
    whole

-- what is shown of blocks ends among the instructions
pub ends-shown : {X : Type 0} (f : FunctionValue) (view : X → BlockValue) (xs : List X) → HasNonemptyBlocks f → map view xs ≡ map shown_block f.blocks →
    All (λ x. (view x).range.end ≤ length f.insts) xs
ends-shown f view xs has same = all-under (λ b. b.range.end ≤ length f.insts) view shown_block xs f.blocks same (λ k d less.
    rw (get_or_default f.blocks k d no_block less) ((has k less).1))

-- what is shown of blocks rises
pub rises-shown : {X : Type 0} (f : FunctionValue) (view : X → BlockValue) (xs : List X) → HasNonemptyBlocks f → map view xs ≡ map shown_block f.blocks →
    All (λ x. (view x).range.first ≤ (view x).range.end) xs
rises-shown f view xs has same = all-under (λ b. b.range.first ≤ b.range.end) view shown_block xs f.blocks same (λ k d less.
    rw (get_or_default f.blocks k d no_block less) (omega (arith, (has k less).0)))

-- what is shown of blocks has as many lists of arguments as successors
pub counted-shown : {X : Type 0} (f : FunctionValue) (view : X → BlockValue) (xs : List X) → map view xs ≡ map shown_block f.blocks →
    All (λ x. length (view x).arguments ≡ length (view x).succs) xs
counted-shown f view xs same = all-under (λ b. length b.arguments ≡ length b.succs) view shown_block xs f.blocks same (λ k d less.
    let b : BlockValue = get_or f.blocks k d in
    length-map-range_with_len (λ i. get_or b.arguments i []) 0 (length b.succs))

-- one more number
pub map-next : {X Y : Type 0} (view : X → Y) (f : ℕ → Y) (xs : List X) (k : ℕ) (x : X) → view x ≡ f k →
    map view xs ≡ map f (range_with_len 0 k) → map view (xs ++ x ∷ []) ≡ map f (range_with_len 0 (k + 1))
map-next view f xs k x here before = rw (map-append view xs (x ∷ []), map-range_with_len_more f 0 k k (omega arith), before, here) refl

-- all numbers
pub all-numbers : {X Y : Type 0} (h : X → Y) (xs : List X) (d : X) → map (λ i. h (get_or xs i d)) (range_with_len 0 (length xs)) ≡ map h xs
all-numbers {Y = Y} h xs d = ext_get_or (h d) by-number (map h xs) (length-map-range_with_len f 0 (length xs) ∙ sym (length-map xs h)) at
  where
    f : ℕ → Y
    f i = h (get_or xs i d)

    by-number : List Y
    by-number = map f (range_with_len 0 (length xs))

    at : (i : ℕ) → i < length by-number → get_or by-number i (h d) ≡ get_or (map h xs) i (h d)
    at i less =
        let inside : i < length xs = omega (arith, less, length-map-range_with_len f 0 (length xs)) in
        get_or-map-range_with_len f 0 (length xs) i i (h d) inside (omega arith) ∙ sym (get_or-map h xs i d (h d) inside)

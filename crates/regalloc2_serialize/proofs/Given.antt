-- What the lists of a sound stored function have for a block.
use Rattle.std.proofs.Common.{◌≡◌, ◌∙◌, ℕ, ◌<◌, ◌≤◌, List, [], length, map, get_or, slice_index_or, ap, sym, subst, refl, arith}
use Rattle.std.specs.Prelude.{All}
use Rattle.std.proofs.lemmas.List.{get_or-map, get_or_read, length-map}
use Rattle.std.proofs.lemmas.List.FromFn.{get_or-range_with_len, length-range_with_len}
use Rattle.std.proofs.lemmas.Simd.{map-map}
use Rattle.regalloc2_names.specs.RegisterBits.{vreg_of_bits}
use Rattle.std.specs.List.{range_with_len}
use Rattle.std.specs.Vec.{vec_len}
use Rattle.std.specs.declared.vec.Vec.{Vec}
use Rattle.regalloc2_index.specs.Range.{Span}
use Rattle.regalloc2_serialize.specs.Validity.{HasAllOfEachBlock, IsSoundStored}
use Rattle.regalloc2_function.specs.FunctionValue.{BlockValue}
use Rattle.regalloc2_serialize.specs.Decoded.{stored_block, stored_range}
use Rattle.regalloc2_serialize.proofs.Lists.{all-under}
use Rattle.regalloc2_serialize.specs.declared.data.StoredFunction.{StoredFunction}

-- a block has an item in each list by block
pub record HasBlock {A : Type 0} (s : StoredFunction A) (b : ℕ) : Type 0 where
  pub succs : b < length s.block_succs.items
  pub preds : b < length s.block_preds.items
  pub params : b < length s.block_params_in.items
  pub arguments : b < length s.block_params_out.items

-- in a valid stored function each block has its item in the lists of successors, predecessors, parameters and arguments
pub has-block : {A : Type 0} (s : StoredFunction A) (b : ℕ) → IsSoundStored s → b < length s.blocks.items → HasBlock s b
has-block s b sound less = record {
  succs = rw long.succs less;
  preds = rw long.preds less;
  params = rw long.params less;
  arguments = rw (
    sym (length-map s.block_params_out.items (λ l. length l.items)) ∙ ap length long.arguments
        ∙ length-map s.block_succs.items (λ l. length l.items),
    long.succs,
  ) less;
}
  where
    long : HasAllOfEachBlock s
    long = sound.lengths.blocks

-- what the block of each number has, each block has that is read by its number
by-number : {A X : Type 0} (P : BlockValue → Type 0) (s : StoredFunction A) (view : X → BlockValue) (xs : List X) →
    map view xs ≡ map (stored_block s) (range_with_len 0 (length s.blocks.items)) →
    ((k : ℕ) → k < length s.blocks.items → P (stored_block s k)) → All (λ x. P (view x)) xs
by-number P s view xs same each = all-under P view (stored_block s) xs (range_with_len 0 count) same at
  where
    count : ℕ
    count = length s.blocks.items

    at : All (λ b. P (stored_block s b)) (range_with_len 0 count)
    at k d less =
        let inside : k < count = omega (arith, less, length-range_with_len 0 count) in
        let is : get_or (range_with_len 0 count) k d ≡ k = get_or-range_with_len 0 count k d inside ∙ omega arith in
        rw is (each k inside)

-- a valid stored function's ranges rise
pub rises : {A X : Type 0} (s : StoredFunction A) (view : X → BlockValue) (xs : List X) → IsSoundStored s →
    map view xs ≡ map (stored_block s) (range_with_len 0 (length s.blocks.items)) → All (λ x. (view x).range.first ≤ (view x).range.end) xs
rises s view xs sound same = by-number (λ b. b.range.first ≤ b.range.end) s view xs same (λ k less. (sound.within.ranges k (0, 0) less).0)

-- a valid stored function's ranges end among the instructions
pub ends-within : {A X : Type 0} (s : StoredFunction A) (view : X → BlockValue) (xs : List X) → IsSoundStored s →
    map view xs ≡ map (stored_block s) (range_with_len 0 (length s.blocks.items)) → All (λ x. (view x).range.end ≤ length s.insts.items) xs
ends-within s view xs sound same =
    by-number (λ b. b.range.end ≤ length s.insts.items) s view xs same (λ k less. (sound.within.ranges k (0, 0) less).1)

long-item : {X Y : Type 0} (f : X → List Y) (xs : List X) (k : ℕ) → k < length xs →
    length (slice_index_or (map f xs) k []) ≡ get_or (map (λ x. length (f x)) xs) k 0
long-item f xs k less =
    sym (get_or-map length (map f xs) k [] 0 (rw length-map less)) ∙ ap (λ (l : List ℕ). get_or l k 0) (map-map length f xs)

-- a valid stored function's blocks have as many lists of arguments as successors
pub counted : {A X : Type 0} (s : StoredFunction A) (view : X → BlockValue) (xs : List X) → IsSoundStored s →
    map view xs ≡ map (stored_block s) (range_with_len 0 (length s.blocks.items)) → All (λ x. length (view x).arguments ≡ length (view x).succs) xs
counted s view xs sound same = by-number (λ b. length b.arguments ≡ length b.succs) s view xs same at
  where
    at : (k : ℕ) → k < length s.blocks.items → length (stored_block s k).arguments ≡ length (stored_block s k).succs
    at k less =
        let has = has-block s k sound less in
        length-map (slice_index_or (map (λ l. l.items) s.block_params_out.items) k []) (λ l. map vreg_of_bits l.items)
        ∙ long-item (λ l. l.items) s.block_params_out.items k has.arguments
        ∙ ap (λ (l : List ℕ). get_or l k 0) sound.lengths.blocks.arguments
        ∙ sym (long-item (λ l. l.items) s.block_succs.items k has.succs)

-- an index of a list is one of the vector that keeps it
pub in-vec : {X A : Type 0} (v : Vec X A) (i : ℕ) → i < length v.items → i < vec_len v
in-vec v i less = omega (arith, less, v.ok.0)

-- what each item has, the one that is read has
pub item-has : {X : Type 0} (P : X → Type 0) (xs : List X) (i : ℕ) (x : X) → All P xs → i < length xs → x ≡ get_or xs i x → P x
item-has P xs i x all less is = subst P (sym is) (all i x less)

-- a list that is read among others
pub list-read : {X Y : Type 0} (f : X → List Y) (xs : List X) (i : ℕ) (x : X) → i < length xs → x ≡ get_or xs i x → f x ≡ slice_index_or (map f xs) i []
list-read f xs i x less is = ap f is ∙ sym (get_or-map f xs i x [] less)

-- a range that is read among others
pub range-read : (rs : List (ℕ × ℕ)) (i : ℕ) (r : ℕ × ℕ) (first end : ℕ) → i < length rs → r ≡ get_or rs i r → first ≡ r.0 → end ≡ r.1 →
    ◌≡◌ {A = Span} (record { first = first; end = end }) (stored_range (slice_index_or rs i (0, 0)))
range-read rs i r first end less is hf he = rw (hf, he, ← get_or_read rs i r less is (0, 0)) refl

-- Registers in words of bits.
use Rattle.std.proofs.Common.{ℕ, zero, suc, eqb-true, eq-eqb, ◌≡◌, ◌≢◌, ◌<◌, ◌≤◌, ◌+◌, ◌-◌, ◌*◌, ◌%◌, ◌^◌, min, max, refl, arith, bit_or, bit_and, sym, ap}
use Rattle.std.proofs.Common.{length, List, [], ◌∷◌, Bool, true, false, not, nat_lt, ◌||◌, ◌&&◌, nat_eq, w64, slice_set, slice_index_or, get_or-set_same}
use Rattle.std.proofs.Common.{get_or-set_other, ◌∙◌, inl, inr}
use Rattle.std.specs.Prelude.{slice_index, ◌⊎◌}
use Rattle.std.specs.Int.{bit_at}
use Rattle.std.proofs.lemmas.Bool.Decides.{nat_tests}
use Rattle.std.proofs.Math.Nat.{zero-mul, one-mul}
use Rattle.regalloc2_names.specs.declared.RegClass.{RegClass}
use Rattle.regalloc2_names.specs.declared.RegClass.TheVariants.{Int, Float, Vector}
use Rattle.std.proofs.lemmas.Nat.{one_shl, pow_pos, and_le_l}
use Rattle.std.proofs.lemmas.Nat.Bits.{and_pow, bit_at-lt, bit_at_set_same, bit_at_set_other, bit_at_clear_same, bit_at_clear_other, bit_at_or, bit_at_and}
use Rattle.std.proofs.lemmas.Nat.Bits.{bit_at_above, bit_at_not, bit_at_ones, bit_at_ones_above}
use Rattle.std.proofs.lemmas.Bool.{cases_lt}
use Rattle.std.proofs.Math.Bool.{and_comm}
use Rattle.regalloc2_names.specs.RegisterBits.{words_have}
use Rattle.regalloc2_names.specs.Register.{class_code, Register}

scaled : (b p : ℕ) → b < 2 → 0 < p → not (nat_eq (b * p) 0) ≡ nat_eq b 1
scaled zero p hb hp = rw zero-mul refl
scaled (suc zero) p hb hp = rw one-mul (grind (arith, nat_tests))
scaled (suc (suc n)) p hb hp = absurd (omega arith)

-- the test of one bit
pub tests_bit : (w k : ℕ) → k < 64 → not (nat_eq (bit_and w (1 * 2 ^ k % 18446744073709551616)) 0) ≡ nat_eq (bit_at w k) 1
tests_bit w k h = rw (one_shl k 64 h, and_pow w k) (scaled (bit_at w k) (2 ^ k) (bit_at-lt w k) (pow_pos k))

sets_by : (b : Bool) (w k j : ℕ) → k < 64 → nat_eq k j ≡ b → nat_eq (bit_at (bit_or w (1 * 2 ^ k % 18446744073709551616)) j) 1 ≡ b || nat_eq (bit_at w j) 1
sets_by true w k j h e = rw (sym (eqb-true k j e), bit_at_set_same w64 w k h) refl
sets_by false w k j h e = ap (λ n. nat_eq n 1) (bit_at_set_other w64 w k h j (λ q. let f : nat_eq k j ≡ true = eq-eqb k j (sym q) in cc))

-- a bit of a word with one bit set
pub sets_bit : (w k j : ℕ) → k < 64 → nat_eq (bit_at (bit_or w (1 * 2 ^ k % 18446744073709551616)) j) 1 ≡ nat_eq k j || nat_eq (bit_at w j) 1
sets_bit w k j h = sets_by (nat_eq k j) w k j h refl

clears_by : (b : Bool) (w k j : ℕ) → k < 64 → j < 64 → nat_eq k j ≡ b →
    nat_eq (bit_at (bit_and w (18446744073709551615 - 1 * 2 ^ k % 18446744073709551616)) j) 1 ≡ not b && nat_eq (bit_at w j) 1
clears_by true w k j h g e = rw (sym (eqb-true k j e), bit_at_clear_same w64 w k h) refl
clears_by false w k j h g e = ap (λ n. nat_eq n 1) (bit_at_clear_other w64 w k h j g (λ q. let f : nat_eq k j ≡ true = eq-eqb k j (sym q) in cc))

-- a bit of a word with one bit cleared
pub clears_bit : (w k j : ℕ) → k < 64 → j < 64 → nat_eq (bit_at (bit_and w (18446744073709551615 - 1 * 2 ^ k % 18446744073709551616)) j) 1 ≡ not (nat_eq k j)
    && nat_eq (bit_at w j) 1
clears_bit w k j h g = clears_by (nat_eq k j) w k j h g refl

clears_sized : (w k j : ℕ) → w < 18446744073709551616 → k < 64 → ((j < 64) ⊎ (64 ≤ j)) →
    nat_eq (bit_at (bit_and w (18446744073709551615 - 1 * 2 ^ k % 18446744073709551616)) j) 1 ≡ not (nat_eq k j) && nat_eq (bit_at w j) 1
clears_sized w k j fits h (inl l) = clears_bit w k j h l
clears_sized w k j fits h (inr g) =
    let less : bit_and w (18446744073709551615 - 1 * 2 ^ k % 18446744073709551616) < 18446744073709551616 = omega (
      arith,
      and_le_l w (18446744073709551615 - 1 * 2 ^ k % 18446744073709551616),
    ) in
    let other : nat_eq k j ≡ false = grind (arith, nat_tests) in
    rw (bit_at_above w 64 j fits g, bit_at_above (bit_and w (18446744073709551615 - 1 * 2 ^ k % 18446744073709551616)) 64 j less g, other) refl

-- clearing the bit k of a word of 64 bits leaves every other bit
pub clears_any : (w k j : ℕ) → w < 18446744073709551616 → k < 64 → nat_eq (bit_at (bit_and w (18446744073709551615 - 1 * 2 ^ k % 18446744073709551616)) j)
    1 ≡ not (nat_eq k j) && nat_eq (bit_at w j) 1
clears_any w k j fits h = clears_sized w k j fits h (cases_lt j 64)

-- a bit is set in the union of two words exactly if it is set in either
pub joins_bit : (v w j : ℕ) → nat_eq (bit_at (bit_or v w) j) 1 ≡ nat_eq (bit_at v j) 1 || nat_eq (bit_at w j) 1
joins_bit v w j = rw (bit_at_or v w j) (larger _ _ (bit_at-lt v j) (bit_at-lt w j))
  where
    larger : (a b : ℕ) → a < 2 → b < 2 → nat_eq (max a b) 1 ≡ nat_eq a 1 || nat_eq b 1
    larger a b g h = grind (arith, nat_tests)

-- a bit is set in the intersection of two words exactly if it is set in both
pub meets_bit : (v w j : ℕ) → nat_eq (bit_at (bit_and v w) j) 1 ≡ nat_eq (bit_at v j) 1 && nat_eq (bit_at w j) 1
meets_bit v w j = rw (bit_at_and v w j) (smaller _ _ (bit_at-lt v j) (bit_at-lt w j))
  where
    smaller : (a b : ℕ) → a < 2 → b < 2 → nat_eq (min a b) 1 ≡ nat_eq a 1 && nat_eq b 1
    smaller a b g h = grind (arith, nat_tests)

-- the union of two sets
pub words_join : (v w : List ℕ) (class : RegClass) (n : ℕ) →
    words_have (bit_or (slice_index v 0) (slice_index w 0) ∷ bit_or (slice_index v 1) (slice_index w 1) ∷ bit_or (slice_index v 2) (slice_index w 2) ∷ [])
    (record { number = n; class = class })
    ≡ words_have v (record { number = n; class = class }) || words_have w (record { number = n; class = class })
words_join v w Int n = joins_bit (slice_index v 0) (slice_index w 0) n
words_join v w Float n = joins_bit (slice_index v 1) (slice_index w 1) n
words_join v w Vector n = joins_bit (slice_index v 2) (slice_index w 2) n

-- the intersection of two sets
pub words_meet : (v w : List ℕ) (class : RegClass) (n : ℕ) →
    words_have (bit_and (slice_index v 0) (slice_index w 0) ∷ bit_and (slice_index v 1) (slice_index w 1) ∷ bit_and (slice_index v 2) (slice_index w 2) ∷ [])
    (record { number = n; class = class })
    ≡ words_have v (record { number = n; class = class }) && words_have w (record { number = n; class = class })
words_meet v w Int n = meets_bit (slice_index v 0) (slice_index w 0) n
words_meet v w Float n = meets_bit (slice_index v 1) (slice_index w 1) n
words_meet v w Vector n = meets_bit (slice_index v 2) (slice_index w 2) n

add_by : (b : Bool) (ws : List ℕ) (i k : ℕ) (r : Register) → i < length ws → k < 64 → nat_eq i (class_code r.class) ≡ b →
    words_have (slice_set ws i (bit_or (slice_index_or ws i 0) (1 * 2 ^ k % 18446744073709551616))) r ≡ b && nat_eq k r.number || words_have ws r
add_by true ws i k r hi hk e = let q : i ≡ class_code r.class = eqb-true i (class_code r.class) e in
    rw (← q, get_or-set_same) (sets_bit (slice_index_or ws i 0) k r.number hk)
add_by false ws i k r hi hk e =
    let q : class_code r.class ≢ i = λ q. let f : nat_eq i (class_code r.class) ≡ true = eq-eqb i (class_code r.class) (sym q) in cc in
    rw get_or-set_other refl

-- one more register
pub words_add : (ws : List ℕ) (i k : ℕ) (r : Register) → i < length ws → k < 64 →
    words_have (slice_set ws i (bit_or (slice_index_or ws i 0) (1 * 2 ^ k % 18446744073709551616))) r ≡ nat_eq i (class_code r.class) && nat_eq k r.number
    || words_have ws r
words_add ws i k r hi hk = add_by (nat_eq i (class_code r.class)) ws i k r hi hk refl

remove_by : (b : Bool) (ws : List ℕ) (i k : ℕ) (r : Register) → i < length ws → k < 64 → slice_index_or ws i 0 < 18446744073709551616 →
    nat_eq i (class_code r.class) ≡ b →
    words_have (slice_set ws i (bit_and (slice_index_or ws i 0) (18446744073709551615 - 1 * 2 ^ k % 18446744073709551616))) r ≡ not (b && nat_eq k r.number)
    && words_have ws r
remove_by true ws i k r hi hk hr e = let q : i ≡ class_code r.class = eqb-true i (class_code r.class) e in
    rw (← q, get_or-set_same) (clears_any (slice_index_or ws i 0) k r.number hr hk)
remove_by false ws i k r hi hk hr e =
    let q : class_code r.class ≢ i = λ q. let f : nat_eq i (class_code r.class) ≡ true = eq-eqb i (class_code r.class) (sym q) in cc in
    rw get_or-set_other refl

-- one register fewer
pub words_remove : (ws : List ℕ) (i k : ℕ) (r : Register) → i < length ws → k < 64 → slice_index_or ws i 0 < 18446744073709551616 →
    words_have (slice_set ws i (bit_and (slice_index_or ws i 0) (18446744073709551615 - 1 * 2 ^ k % 18446744073709551616)))
    r ≡ not (nat_eq i (class_code r.class) && nat_eq k r.number) && words_have ws r
words_remove ws i k r hi hk hr = remove_by (nat_eq i (class_code r.class)) ws i k r hi hk hr refl

-- the words of the set of the others
inverts_bit : (w n : ℕ) → w < 2 ^ 64 → n < 64 → nat_eq (bit_at (18446744073709551615 - w) n) 1 ≡ not (nat_eq (bit_at w n) 1)
inverts_bit w n fits small = rw (bit_at_not w64 w n fits small) (other (bit_at w n) (bit_at-lt w n))
  where
    other : (b : ℕ) → b < 2 → nat_eq (1 - b) 1 ≡ not (nat_eq b 1)
    other b h = grind (arith, nat_tests)

-- the complements of three words have exactly the registers that the words don't have, of numbers below 64
pub words_invert : (v : List ℕ) → ((i : ℕ) → slice_index v i < 2 ^ 64) → (class : RegClass) (n : ℕ) → n < 64 →
    words_have ((18446744073709551615 - slice_index v 0) ∷ (18446744073709551615 - slice_index v 1) ∷ (18446744073709551615 - slice_index v 2) ∷ [])
    (record { number = n; class = class })
    ≡ not (words_have v (record { number = n; class = class }))
words_invert v fits Int n small = inverts_bit (slice_index v 0) n (fits 0) small
words_invert v fits Float n small = inverts_bit (slice_index v 1) n (fits 1) small
words_invert v fits Vector n small = inverts_bit (slice_index v 2) n (fits 2) small

-- the bits below one
low_by : (t n : ℕ) → (n < t) ⊎ (t ≤ n) → nat_eq (bit_at (2 ^ t - 1) n) 1 ≡ nat_lt n t
low_by t n (inl l) = rw (bit_at_ones t n l) (let e : nat_lt n t ≡ true = grind (arith, nat_tests) in sym e)
low_by t n (inr g) = rw (bit_at_ones_above t n g) (let e : nat_lt n t ≡ false = grind (arith, nat_tests) in sym e)

low_bits : (w t n : ℕ) → t < 64 → nat_eq (bit_at (bit_or w (1 * 2 ^ t % 18446744073709551616 - 1)) n) 1 ≡ nat_lt n t || nat_eq (bit_at w n) 1
low_bits w t n h =
    rw (one_shl t 64 h, joins_bit w (2 ^ t - 1) n, low_by t n (cases_lt n t)) (or_comm_bool (nat_eq (bit_at w n) 1) (nat_lt n t))
  where
    or_comm_bool : (a b : Bool) → a || b ≡ b || a
    or_comm_bool true true = refl
    or_comm_bool true false = refl
    or_comm_bool false true = refl
    or_comm_bool false false = refl

all_bits : (n : ℕ) → n < 64 → nat_eq (bit_at 18446744073709551615 n) 1 ≡ true
all_bits n h = eq-eqb _ _ (bit_at_ones 64 n h)

-- the words with every register of a lower index than one
pub words_up_int : (v : List ℕ) (t : ℕ) → t < 64 → (class : RegClass) (n : ℕ) → n < 64 →
    words_have (bit_or (slice_index v 0) (1 * 2 ^ t % 18446744073709551616 - 1) ∷ slice_index v 1 ∷ slice_index v 2 ∷ []) (record { number = n; class = class })
    ≡ nat_lt (class_code class * 64 + n) (0 * 64 + t) || words_have v (record { number = n; class = class })
words_up_int v t h Int n small =
    let e : nat_lt (0 * 64 + n) (0 * 64 + t) ≡ nat_lt n t = grind (arith, nat_tests) in
    rw e (low_bits (slice_index v 0) t n h)
words_up_int v t h Float n small = let e : nat_lt (1 * 64 + n) (0 * 64 + t) ≡ false = grind (arith, nat_tests) in rw e refl
words_up_int v t h Vector n small = let e : nat_lt (2 * 64 + n) (0 * 64 + t) ≡ false = grind (arith, nat_tests) in rw e refl

-- setting all Int bits and the Float bits below t adds exactly the registers whose index is below the index of Float t
pub words_up_float : (v : List ℕ) (t : ℕ) → t < 64 → (class : RegClass) (n : ℕ) → n < 64 →
    words_have (18446744073709551615 ∷ bit_or (slice_index v 1) (1 * 2 ^ t % 18446744073709551616 - 1) ∷ slice_index v 2 ∷ [])
    (record { number = n; class = class })
    ≡ nat_lt (class_code class * 64 + n) (1 * 64 + t) || words_have v (record { number = n; class = class })
words_up_float v t h Int n small = let e : nat_lt (0 * 64 + n) (1 * 64 + t) ≡ true = grind (arith, nat_tests) in rw e (all_bits n small)
words_up_float v t h Float n small =
    let e : nat_lt (1 * 64 + n) (1 * 64 + t) ≡ nat_lt n t = grind (arith, nat_tests) in
    rw e (low_bits (slice_index v 1) t n h)
words_up_float v t h Vector n small = let e : nat_lt (2 * 64 + n) (1 * 64 + t) ≡ false = grind (arith, nat_tests) in rw e refl

-- setting all Int and Float bits and the Vector bits below t adds exactly the registers whose index is below the index of Vector t
pub words_up_vector : (v : List ℕ) (t : ℕ) → t < 64 → (class : RegClass) (n : ℕ) → n < 64 →
    words_have (18446744073709551615 ∷ 18446744073709551615 ∷ bit_or (slice_index v 2) (1 * 2 ^ t % 18446744073709551616 - 1) ∷ [])
    (record { number = n; class = class })
    ≡ nat_lt (class_code class * 64 + n) (2 * 64 + t) || words_have v (record { number = n; class = class })
words_up_vector v t h Int n small = let e : nat_lt (0 * 64 + n) (2 * 64 + t) ≡ true = grind (arith, nat_tests) in rw e (all_bits n small)
words_up_vector v t h Float n small = let e : nat_lt (1 * 64 + n) (2 * 64 + t) ≡ true = grind (arith, nat_tests) in rw e (all_bits n small)
words_up_vector v t h Vector n small =
    let e : nat_lt (2 * 64 + n) (2 * 64 + t) ≡ nat_lt n t = grind (arith, nat_tests) in
    rw e (low_bits (slice_index v 2) t n h)

-- a bit is set in a word less another exactly if it is set in the first alone
differs_bit : (v w n : ℕ) → v < 18446744073709551616 → w < 2 ^ 64 → ((n < 64) ⊎ (64 ≤ n)) →
    nat_eq (bit_at (bit_and v (18446744073709551615 - w)) n) 1 ≡ not (nat_eq (bit_at w n) 1) && nat_eq (bit_at v n) 1
differs_bit v w n fits small (inl l) = meets_bit v (18446744073709551615 - w) n ∙ ap (λ (b : Bool). nat_eq (bit_at v n) 1 && b) (inverts_bit w n small l)
    ∙ and_comm (nat_eq (bit_at v n) 1) (not (nat_eq (bit_at w n) 1))
differs_bit v w n fits small (inr g) =
    let less : bit_and v (18446744073709551615 - w) < 18446744073709551616 = omega (arith, and_le_l v (18446744073709551615 - w)) in
    rw (bit_at_above v 64 n fits g, bit_at_above (bit_and v (18446744073709551615 - w)) 64 n less g) (
    sym (and_comm (not (nat_eq (bit_at w n) 1)) false))

-- the registers of three words that three others don't have
pub words_differ : (v w : List ℕ) → ((i : ℕ) → slice_index v i < 2 ^ 64) → ((i : ℕ) → slice_index w i < 2 ^ 64) → (class : RegClass) (n : ℕ) →
    words_have (bit_and (slice_index v 0) (18446744073709551615 - slice_index w 0)
    ∷ bit_and (slice_index v 1) (18446744073709551615 - slice_index w 1) ∷ bit_and (slice_index v 2) (18446744073709551615 - slice_index w 2) ∷ [])
    (record { number = n; class = class })
    ≡ not (words_have w (record { number = n; class = class })) && words_have v (record { number = n; class = class })
words_differ v w fits small Int n = differs_bit (slice_index v 0) (slice_index w 0) n (fits 0) (small 0) (cases_lt n 64)
words_differ v w fits small Float n = differs_bit (slice_index v 1) (slice_index w 1) n (fits 1) (small 1) (cases_lt n 64)
words_differ v w fits small Vector n = differs_bit (slice_index v 2) (slice_index w 2) n (fits 2) (small 2) (cases_lt n 64)

-- The walk over a set lists each of its registers once, by rising index.
use Rattle.std.specs.Prelude.{ℕ, zero, suc, ◌≡◌, ◌≢◌, ◌<◌, ◌≤◌, ◌+◌, ◌*◌, refl, Bool, true, false, cond, nat_eq, List, [], ◌∷◌, ◌++◌, length, Contains}
use Rattle.std.specs.Prelude.{slice_index, slice_index_or, ◌⊎◌, ◌↔◌}
use Rattle.std.specs.Int.{bit_at}
use Rattle.std.proofs.Common.{arith, eqb-true, eq-eqb, inl, inr}
use Rattle.std.proofs.lemmas.Bool.{cases_eq, cases_lt}
use Rattle.std.proofs.lemmas.Nat.Bits.{bit_at_above}
use Rattle.std.proofs.lemmas.List.Elements.{Contains-append_left, Contains-append_right, Contains-append_cases}
use Rattle.regalloc2_names.specs.declared.RegClass.{RegClass}
use Rattle.regalloc2_names.specs.declared.RegClass.TheVariants.{Int, Float, Vector}
use Rattle.regalloc2_names.specs.declared.sets.PRegSet.{PRegSet}
use Rattle.regalloc2_names.specs.Register.{Register, class_code, has_register, registers_of, registers_of_words, word_members}
use Rattle.regalloc2_names.specs.RegisterBits.{bits_of_register}

-- each register of a list has a greater index than the registers before it
abbrev pub IsRising : List Register → Type 0
IsRising xs = (i j : ℕ) (d : Register) → i < j → j < length xs → bits_of_register (slice_index_or xs i d) < bits_of_register (slice_index_or xs j d)

-- the indexes of a list rise from one bound on, and stay below another
unfoldable RisesWithin : ℕ → List Register → ℕ → Type 0
RisesWithin low [] high = low ≤ high
RisesWithin low (x ∷ xs) high = (low ≤ bits_of_register x) × RisesWithin (bits_of_register x + 1) xs high

rises-wider : (l low : ℕ) (xs : List Register) (high : ℕ) → l ≤ low → RisesWithin low xs high → RisesWithin l xs high
unfolding RisesWithin
rises-wider l low [] high le h = omega arith
rises-wider l low (x ∷ xs) high le h = (omega arith, h.1)

rises-append : (low : ℕ) (xs : List Register) (mid : ℕ) (ys : List Register) (high : ℕ) → RisesWithin low xs mid → RisesWithin mid ys high →
    RisesWithin low (xs ++ ys) high
unfolding RisesWithin
rises-append low [] mid ys high h g = rises-wider low mid ys high h g
rises-append low (x ∷ xs) mid ys high h g = (h.0, rises-append (bits_of_register x + 1) xs mid ys high h.1 g)

-- an element is at the lower bound or above
rises-at : (low : ℕ) (xs : List Register) (high j : ℕ) (d : Register) → RisesWithin low xs high → j < length xs → low ≤ bits_of_register (slice_index_or xs j d)
unfolding RisesWithin
rises-at low [] high j d h less = absurd (omega arith)
rises-at low (x ∷ xs) high zero d h less = h.0
rises-at low (x ∷ xs) high (suc j) d h less = let r = rises-at (bits_of_register x + 1) xs high j d h.1 (omega arith) in omega arith

IsRising-from : (low : ℕ) (xs : List Register) (high : ℕ) → RisesWithin low xs high → IsRising xs
unfolding RisesWithin
IsRising-from low [] high h i j d ij less = absurd (omega arith)
IsRising-from low (x ∷ xs) high h zero zero d ij less = absurd (omega arith)
IsRising-from low (x ∷ xs) high h zero (suc j) d ij less = let r = rises-at (bits_of_register x + 1) xs high j d h.1 (omega arith) in omega arith
IsRising-from low (x ∷ xs) high h (suc i) zero d ij less = absurd (omega arith)
IsRising-from low (x ∷ xs) high h (suc i) (suc j) d ij less = IsRising-from (bits_of_register x + 1) xs high h.1 i j d (omega arith) (omega arith)

-- one word
rises_step : (b : Bool) (class : RegClass) (k : ℕ) (xs : List Register) (high : ℕ) → RisesWithin (class_code class * 64 + (k + 1)) xs high →
    RisesWithin (class_code class * 64 + k) (cond b (record { number = k; class = class } ∷ xs) xs) high
unfolding RisesWithin
rises_step true class k xs high h = (omega arith, rises-wider (class_code class * 64 + k + 1) (class_code class * 64 + (k + 1)) xs high (omega arith) h)
rises_step false class k xs high h = rises-wider (class_code class * 64 + k) (class_code class * 64 + (k + 1)) xs high (omega arith) h

members_rise : (class : RegClass) (n k w : ℕ) → RisesWithin (class_code class * 64 + k) (word_members class k n w) (class_code class * 64 + (k + n))
unfolding RisesWithin word_members
members_rise class zero k w = omega arith
members_rise class (suc n) k w =
    rises_step (nat_eq (bit_at w k) 1) class k (word_members class (k + 1) n w) (class_code class * 64 + (k + suc n))
    (let e : k + suc n ≡ k + 1 + n = omega arith in rw e (members_rise class n (k + 1) w))

pub registers_of_words-rise : (a b c : ℕ) → IsRising (registers_of_words a b c)
unfolding registers_of_words
registers_of_words-rise a b c =
    let ab = rises-append 0 (word_members Int 0 64 a) 64 (word_members Float 0 64 b) 128 (members_rise Int 64 0 a) (members_rise Float 64 0 b) in
    IsRising-from 0 (word_members Int 0 64 a ++ word_members Float 0 64 b ++ word_members Vector 0 64 c) 192
    (rises-append 0 (word_members Int 0 64 a ++ word_members Float 0 64 b) 128 (word_members Vector 0 64 c) 192 ab (members_rise Vector 64 0 c))

-- a bit that is set is listed
later : (x y : Register) (xs : List Register) → Contains xs x → Contains (y ∷ xs) x
later x y xs (k, less, at) = (suc k, omega arith, at)

past : (b : Bool) (x y : Register) (xs : List Register) → Contains xs x → Contains (cond b (y ∷ xs) xs) x
past true x y xs h = later x y xs h
past false x y xs h = h

here : (b : Bool) (x : Register) (xs : List Register) → b ≡ true → Contains (cond b (x ∷ xs) xs) x
here true x xs e = (0, omega arith, refl)
here false x xs e = absurd cc

listed_step : (class : RegClass) (n k w j : ℕ) → ((k ≡ j) ⊎ (k ≢ j)) → k ≤ j → bit_at w j ≡ 1 →
    (k < j → Contains (word_members class (k + 1) n w) (record { number = j; class = class })) →
    Contains (word_members class k (suc n) w) (record { number = j; class = class })
unfolding word_members
listed_step class n k w j (inl e) low one further =
    rw (← e) (here (nat_eq (bit_at w k) 1) (record { number = k; class = class }) (word_members class (k + 1) n w) (eq-eqb _ _ (rw e one)))
listed_step class n k w j (inr ne) low one further = past (nat_eq (bit_at w k) 1) _ _ _ (further (omega arith))

listed_within : (class : RegClass) (n k w j : ℕ) → k ≤ j → j < k + n → bit_at w j ≡ 1 →
    Contains (word_members class k n w) (record { number = j; class = class })
listed_within class zero k w j low high one = absurd (omega arith)
listed_within class (suc n) k w j low high one =
    listed_step class n k w j (cases_eq k j) low one (λ less. listed_within class n (k + 1) w j (omega arith) (omega arith) one)

-- what is listed is a bit that is set
pub record IsBitOf (class : RegClass) (k n w : ℕ) (r : Register) : Type 0 where
  pub class_is : r.class ≡ class
  pub low : k ≤ r.number
  pub high : r.number < k + n
  pub set : bit_at w r.number ≡ 1

bit_step : (b : Bool) (class : RegClass) (n k w : ℕ) (xs : List Register) (r : Register) → nat_eq (bit_at w k) 1 ≡ b →
    (Contains xs r → IsBitOf class (k + 1) n w r) →
    Contains (cond b (record { number = k; class = class } ∷ xs) xs) r → IsBitOf class k (suc n) w r
bit_step true class n k w xs r e further (zero, less, at) =
    rw (← at) (record { class_is = refl; low = omega arith; high = omega arith; set = eqb-true _ _ e })
bit_step true class n k w xs r e further (suc j, less, at) =
    let f = further (j, omega arith, at) in record { class_is = f.class_is; low = omega (arith, f.low); high = omega (arith, f.high); set = f.set }
bit_step false class n k w xs r e further h =
    let f = further h in record { class_is = f.class_is; low = omega (arith, f.low); high = omega (arith, f.high); set = f.set }

bits_listed : (class : RegClass) (n k w : ℕ) (r : Register) → Contains (word_members class k n w) r → IsBitOf class k n w r
unfolding word_members
bits_listed class zero k w r (j, less, at) = absurd (omega arith)
bits_listed class (suc n) k w r h =
    bit_step (nat_eq (bit_at w k) 1) class n k w (word_members class (k + 1) n w) r refl (bits_listed class n (k + 1) w r) h

-- a register with a number of six bits is in a set exactly where the walk lists it
listed_in : (s : PRegSet) (c : RegClass) (n : ℕ) → n < 64 → nat_eq (bit_at (slice_index s.bits (class_code c)) n) 1 ≡ true →
    Contains (registers_of s) (record { number = n; class = c })
unfolding registers_of_words
listed_in s Int n small h =
    Contains-append_left (word_members Int 0 64 (slice_index s.bits 0) ++ word_members Float 0 64 (slice_index s.bits 1))
    (word_members Vector 0 64 (slice_index s.bits 2)) _ (Contains-append_left (word_members Int 0 64 (slice_index s.bits 0))
    (word_members Float 0 64 (slice_index s.bits 1)) _ (listed_within Int 64 0 (slice_index s.bits 0) n (omega arith) (omega arith) (eqb-true _ _ h)))
listed_in s Float n small h =
    Contains-append_left (word_members Int 0 64 (slice_index s.bits 0) ++ word_members Float 0 64 (slice_index s.bits 1))
    (word_members Vector 0 64 (slice_index s.bits 2)) _ (Contains-append_right (word_members Int 0 64 (slice_index s.bits 0))
    (word_members Float 0 64 (slice_index s.bits 1)) _ (listed_within Float 64 0 (slice_index s.bits 1) n (omega arith) (omega arith) (eqb-true _ _ h)))
listed_in s Vector n small h =
    Contains-append_right (word_members Int 0 64 (slice_index s.bits 0) ++ word_members Float 0 64 (slice_index s.bits 1))
    (word_members Vector 0 64 (slice_index s.bits 2)) _ (listed_within Vector 64 0 (slice_index s.bits 2) n (omega arith) (omega arith) (eqb-true _ _ h))

pub is_listed : (s : PRegSet) (r : Register) → r.number < 64 → has_register s r ≡ true → Contains (registers_of s) r
unfolding has_register
is_listed s r small h = listed_in s r.class r.number small h

set_in : (s : PRegSet) (r : Register) (c : RegClass) → IsBitOf c 0 64 (slice_index s.bits (class_code c)) r → (r.number < 64) × (has_register s r ≡ true)
unfolding has_register
set_in s r c h = (omega (arith, h.high), rw (h.class_is, h.set) refl)

pub listed_is : (s : PRegSet) (r : Register) → Contains (registers_of s) r → (r.number < 64) × (has_register s r ≡ true)
unfolding registers_of_words
listed_is s r h = by_word (Contains-append_cases (word_members Int 0 64 (slice_index s.bits 0) ++ word_members Float 0 64 (slice_index s.bits 1))
    (word_members Vector 0 64 (slice_index s.bits 2)) r h)
  where
    by_two : Contains (word_members Int 0 64 (slice_index s.bits 0)) r ⊎ Contains (word_members Float 0 64 (slice_index s.bits 1)) r → (r.number < 64)
        × (has_register s r ≡ true)
    by_two (inl g) = set_in s r Int (bits_listed Int 64 0 _ r g)
    by_two (inr g) = set_in s r Float (bits_listed Float 64 0 _ r g)

    by_word : Contains (word_members Int 0 64 (slice_index s.bits 0) ++ word_members Float 0 64 (slice_index s.bits 1)) r
        ⊎ Contains (word_members Vector 0 64 (slice_index s.bits 2)) r → (r.number < 64) × (has_register s r ≡ true)
    by_word (inl g) = by_two (Contains-append_cases (word_members Int 0 64 (slice_index s.bits 0)) (word_members Float 0 64 (slice_index s.bits 1)) r g)
    by_word (inr g) = set_in s r Vector (bits_listed Vector 64 0 _ r g)

pub registers_of-rise : (s : PRegSet) → IsRising (registers_of s)
registers_of-rise s = registers_of_words-rise (slice_index s.bits 0) (slice_index s.bits 1) (slice_index s.bits 2)

-- no register with a greater number is in a set
pub has_register-small : (s : PRegSet) → ((i : ℕ) → slice_index s.bits i < 18446744073709551616) → (r : Register) → has_register s r ≡ true → r.number < 64
unfolding has_register
has_register-small s fits r h = by_size (cases_lt r.number 64)
  where
    by_size : (r.number < 64) ⊎ (64 ≤ r.number) → r.number < 64
    by_size (inl l) = l
    by_size (inr g) = let z = bit_at_above (slice_index s.bits (class_code r.class)) 64 r.number (fits (class_code r.class)) g in
        absurd (let one = eqb-true _ _ h in omega (arith, z, one))

-- what the walk over a set gives: its registers by rising index, each once
pub record IsWalkOf (s : PRegSet) (xs : List Register) : Type 0 where
  pub list : xs ≡ registers_of s
  pub rising : IsRising xs
  pub members : (r : Register) → (has_register s r ≡ true) ↔ Contains xs r

pub IsWalkOf-registers_of : (s : PRegSet) → ((i : ℕ) → slice_index s.bits i < 18446744073709551616) → IsWalkOf s (registers_of s)
IsWalkOf-registers_of s fits = record {
  list = refl;
  rising = registers_of-rise s;
  members = λ r. (λ h. is_listed s r (has_register-small s fits r h) h, λ h. (listed_is s r h).1);
}

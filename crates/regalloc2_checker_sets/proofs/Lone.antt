-- Sets of one member, and the empty one.
use Rattle.std.proofs.Common.{inl, inr, ℕ, ◌≡◌, ◌<◌, Bool, true}
use Rattle.std.proofs.Common.{false, cond, nat_eq, eq-eqb, List, [], refl, sym, ap, ◌∙◌}
use Rattle.std.proofs.Common.{get_or}
use Rattle.std.specs.Prelude.{◌&&◌, if◌then◌else◌, Option, Some}
use Rattle.std.specs.Bool.{OnTrue, OnFalse}
use Rattle.std.proofs.lemmas.Bool.{cases_eq, eqb-true, ne_eqb}
use Rattle.regalloc2_function.specs.Numbers.{NumberSet, has_number}
use Rattle.regalloc2_checker_sets.specs.EntrySets.{has_bits, is_member, IsSetOf, IsLess}
use Rattle.regalloc2_checker_sets.proofs.Bits.{changed-is, none-is, if-true_false, bits-small}

-- equal numbers, if their options are
pub same-some : (a b : ℕ) → ◌≡◌ {A = Option ℕ} (Some a) (Some b) → a ≡ b
same-some a b e = cc

-- a number put into an empty set is its one member
pub single-is : (s t : NumberSet) (x : ℕ) → x < 4294967296 → ((i : ℕ) → has_number s i ≡ false) →
    ((i : ℕ) → has_number t i ≡ cond (nat_eq i x) true (has_number s i)) → (y : ℕ) → has_bits t y ≡ nat_eq y x
single-is s t x small none h y =
    changed-is s t x true small h y ∙ ap (λ b. if nat_eq y x then true else b) (none-is s none y) ∙ if-true_false (nat_eq y x)

-- a set that can have no member has none
pub none-there : (s : NumberSet) → ((y : ℕ) → has_bits s y ≡ true → ⊥) → (y : ℕ) → has_bits s y ≡ false
none-there s h y = not (has_bits s y) (h y)
  where
    not : (b : Bool) → (b ≡ true → ⊥) → b ≡ false
    not true h = absurd (h refl)
    not false h = refl

-- bits under an equal number
pub member-as : (s : NumberSet) (x b m : ℕ) → ◌≡◌ {A = Option ℕ} (Some x) (Some b) → x ≡ m → has_bits s m ≡ true → has_bits s b ≡ true
member-as s x b m e d h = ap (λ n. has_bits s n) (sym (same-some x b e) ∙ d) ∙ h

-- a set whose members are all one number has that alone
pub is-only_member : (s : NumberSet) (m : ℕ) → has_bits s m ≡ true → ((y : ℕ) → has_bits s y ≡ true → y ≡ m) → (y : ℕ) → nat_eq y m ≡ has_bits s y
is-only_member s m here other y = elim (cases_eq y m) [
  | inl e ↦ eq-eqb y m e ∙ sym (ap (λ n. has_bits s n) e ∙ here)
  | inr n ↦ ne_eqb y m n ∙ sym (not (has_bits s y) (λ is. n (other y is)))
]
  where
    not : (b : Bool) → (b ≡ true → ⊥) → b ≡ false
    not true h = absurd (h refl)
    not false h = refl

-- equal tests
pub set-is : (sets : List NumberSet) (n : ℕ) (f g : ℕ → Bool) → ((y : ℕ) → f y ≡ g y) → IsSetOf sets n f → IsSetOf sets n g
set-is sets n f g e h = record { below = h.below; members = λ y. h.members y ∙ e y }

-- a member is added to a set that has it
pub with-same : (has : ℕ → Bool) (bits : ℕ) → has bits ≡ true → (y : ℕ) → has y ≡ (if nat_eq y bits then true else has y)
with-same has bits is y = elim (cases_eq y bits) [
  | inl e ↦ ap has e ∙ is ∙ sym (ap (λ b. if b then true else has y) (eq-eqb y bits e))
  | inr n ↦ sym (ap (λ b. if b then true else has y) (ne_eqb y bits n))
]

-- a member is taken from a set that hasn't it
pub without-same : (has : ℕ → Bool) (bits : ℕ) → has bits ≡ false → (y : ℕ) → has y ≡ (if nat_eq y bits then false else has y)
without-same has bits is y = elim (cases_eq y bits) [
  | inl e ↦ ap has e ∙ is ∙ sym (ap (λ b. if b then false else has y) (eq-eqb y bits e))
  | inr n ↦ sym (ap (λ b. if b then false else has y) (ne_eqb y bits n))
]

-- to the empty set one member is added: it is alone
pub with-empty : (sets : List NumberSet) (set bits : ℕ) → ((y : ℕ) → is_member sets 0 y ≡ false) → set ≡ 0 → (y : ℕ) →
    nat_eq y bits ≡ (if nat_eq y bits then true else is_member sets set y)
with-empty sets set bits none e y =
    sym (ap (λ b. if nat_eq y bits then true else b) (ap (λ n. is_member sets n y) e ∙ none y) ∙ if-true_false (nat_eq y bits))

-- from a set of one member that member is taken: nothing is left
pub without-lone : (sets : List NumberSet) (set bits only : ℕ) → IsSetOf sets set (λ y. nat_eq y only) → is_member sets set bits ≡ true → (y : ℕ) →
    (if nat_eq y bits then false else is_member sets set y) ≡ false
without-lone sets set bits only h is y =
    let e : bits ≡ only = eqb-true bits only (sym (h.members bits) ∙ is) in
    ap (λ b. if nat_eq y bits then false else b) (h.members y) ∙ ap (λ n. if nat_eq y n then false else nat_eq y only) e ∙ none (nat_eq y only)
  where
    none : (b : Bool) → (if b then false else b) ≡ false
    none true = refl
    none false = refl

-- a set of one member, which the other has
pub both-lone : (has other : ℕ → Bool) (only : ℕ) → ((y : ℕ) → other y ≡ nat_eq y only) → has only ≡ true → (y : ℕ) → other y ≡ (has y && other y)
both-lone has other only h is y = elim (cases_eq y only) [
  | inl e ↦ sym (ap (λ b. b && other y) (ap has e ∙ is))
  | inr n ↦ (let f : other y ≡ false = h y ∙ ne_eqb y only n in f ∙ sym (ap (λ b. has y && b) f ∙ and-false (has y)))
]
  where
    and-false : (b : Bool) → (b && false) ≡ false
    and-false true = refl
    and-false false = refl

-- a set of one member, which the other has not
pub both-apart : (has other : ℕ → Bool) (only : ℕ) → ((y : ℕ) → other y ≡ nat_eq y only) → has only ≡ false → (y : ℕ) → (has y && other y) ≡ false
both-apart has other only h is y = elim (cases_eq y only) [
  | inl e ↦ ap (λ b. b && other y) (ap has e ∙ is)
  | inr n ↦ ap (λ b. has y && b) (h y ∙ ne_eqb y only n) ∙ and-false (has y)
]
  where
    and-false : (b : Bool) → (b && false) ≡ false
    and-false true = refl
    and-false false = refl

-- a set of one member is within another that has it
pub lone-within : (has other : ℕ → Bool) (only : ℕ) (b : Bool) → ((y : ℕ) → has y ≡ nat_eq y only) → b ≡ other only →
    OnTrue b ((y : ℕ) → has y ≡ true → other y ≡ true)
lone-within has other only true h e = λ y is. ap other (eqb-true y only (sym (h y) ∙ is)) ∙ sym e
lone-within has other only false h e = tt

-- a set of one member is not within another that hasn't it
pub lone-less : (sets : List NumberSet) (set only : ℕ) (other : ℕ → Bool) (b : Bool) → IsSetOf sets set (λ y. nat_eq y only) → b ≡ other only →
    OnFalse b (IsLess (is_member sets set) other)
lone-less sets set only other true h e = tt
lone-less sets set only other false h e = let is : is_member sets set only ≡ true = h.members only ∙ eq-eqb only only refl in record {
  bits = only;
  small = (bits-small (get_or sets set []) only is).0;
  here = is;
  not_there = sym e;
}

-- of a set of one member that another hasn't, both have none
pub lone-none : (has other : ℕ → Bool) (only : ℕ) → ((y : ℕ) → has y ≡ nat_eq y only) → IsLess has other → (y : ℕ) → (has y && other y) ≡ false
lone-none has other only h less y = elim (cases_eq y only) [
  | inl e ↦
      let q : less.bits ≡ only = eqb-true less.bits only (sym (h less.bits) ∙ less.here) in
      ap (λ b. has y && b) (ap other (e ∙ sym q) ∙ less.not_there) ∙ and-false (has y)
  | inr n ↦ ap (λ b. b && other y) (h y ∙ ne_eqb y only n)
]
  where
    and-false : (b : Bool) → (b && false) ≡ false
    and-false true = refl
    and-false false = refl

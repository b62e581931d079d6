-- What an array of numbers of sets holds at a position that was written.
use Rattle.std.proofs.Common.{ℕ, ◌≡◌, ◌∙◌, ◌<◌, ap, sym, length, Bool, false, cond, nat_eq, eq-eqb, ne_eqb, inl, inr}
use Rattle.std.specs.Prelude.{◌&&◌, if◌then◌else◌, slice_set}
use Rattle.std.proofs.lemmas.Bool.{cases_eq}
use Rattle.std.proofs.lemmas.Grind.{get_or-set_at}
use Rattle.std.proofs.lemmas.List.{get_or-set_same, get_or-set_other}
use Rattle.regalloc2_checker_sets.specs.SavedNumbers.{NumberCopies, number_now}

-- the set that was written has the members of both; each set has members by its number, afterwards and before
pub both-at : (now before : ℕ → ℕ → Bool) (e f : NumberCopies) (place had other common : ℕ) → place < length e.cells →
    f ≡ record e { cells = slice_set e.cells place common } → other ≡ number_now e place →
    ((y : ℕ) → now common y ≡ (before had y && before other y)) → (y : ℕ) → now (number_now f place) y ≡ (before had y && before (number_now e place) y)
both-at now before e f place had other common less written is members y =
    ap (λ (d : NumberCopies). now (number_now d place) y) written
    ∙ ap (λ (n : ℕ). now n y) (get_or-set_same e.cells place common 0 less)
    ∙ members y
    ∙ ap (λ (n : ℕ). before had y && before n y) is

-- what was written lacks some bits, and the other positions have what they had
pub dropped-at : (now before : ℕ → ℕ → Bool) (e f : NumberCopies) (place bits had less : ℕ) → place < length e.cells →
    f ≡ record e { cells = slice_set e.cells place less } → had ≡ number_now e place → ((y : ℕ) → now less y ≡ (if nat_eq y bits then false else before had y)) →
    ((i y : ℕ) → i < length e.cells → now (number_now e i) y ≡ before (number_now e i) y) → (i y : ℕ) → i < length e.cells →
    now (number_now f i) y ≡ (if nat_eq i place && nat_eq y bits then false else before (number_now e i) y)
dropped-at now before e f place bits had less within written is dropped kept i y inside = elim (cases_eq i place) [
  | inl same ↦ ap (λ (d : NumberCopies). now (number_now d i) y) written
      ∙ ap (λ (n : ℕ). now n y) (get_or-set_at e.cells place i less 0 same within)
      ∙ dropped y
      ∙ ap (λ (n : ℕ). cond (nat_eq y bits) false (before n y)) (is ∙ ap (λ (k : ℕ). number_now e k) (sym same))
      ∙ ap (λ (b : Bool). cond (b && nat_eq y bits) false (before (number_now e i) y)) (sym (eq-eqb i place same))
  | inr other ↦ ap (λ (d : NumberCopies). now (number_now d i) y) written
      ∙ ap (λ (n : ℕ). now n y) (get_or-set_other e.cells place i less 0 other)
      ∙ kept i y inside
      ∙ ap (λ (b : Bool). cond (b && nat_eq y bits) false (before (number_now e i) y)) (sym (ne_eqb i place other))
]

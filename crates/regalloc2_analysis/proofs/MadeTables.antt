-- Tables that are made of one element.
use Rattle.std.proofs.Common.{ℕ, ◌≡◌, ◌∙◌, inl, inr, List, refl, ap}
use Rattle.std.specs.Prelude.{Option, None, Some, Result, Ok, Err, Vec, IfOk, replicate, slice_index_or}
use Rattle.std.proofs.lemmas.Bool.{cases_lt}
use Rattle.std.proofs.lemmas.List.{get_or_past, get_or-replicate, length-replicate}

-- a value that is no `Some` is `None`
pub only_none : {X : Type 0} (H : Option X → Type 0) → ((x : X) → H (Some x) → ⊥) → (y : Option X) → H y → y ≡ None
only_none H none None h = refl
only_none H none (Some x) h = absurd (none x h)

in_replicate : {X : Type 0} (num n : ℕ) (x : X) → slice_index_or (replicate num x) n x ≡ x
in_replicate num n x = elim (cases_lt n num) [
  | inl lt ↦ get_or-replicate num n x x lt
  | inr past ↦ get_or_past (replicate num x) n x (rw length-replicate past)
]

-- the element is found at each index, and past the end, if each clone of it is equal to it
pub found_everywhere : {X A E Same : Type 0} (x : X) (num : ℕ) (r : Result (Vec X A) E) → Same →
    IfOk r (λ v. Same → v.items ≡ replicate num x) → IfOk r (λ v. (n : ℕ) → slice_index_or v.items n x ≡ x)
found_everywhere {X} x num (Ok v) clones made = λ n. ap (λ (xs : List X). slice_index_or xs n x) (made clones) ∙ in_replicate num n x
found_everywhere x num (Err e) clones made = tt

-- A list whose member goes to the front.
use Rattle.std.proofs.Common.{zero, suc, ◌≡◌, refl, arith, sym, subst, List, [], ◌∷◌, Bool, true, false, not, cond}
use Rattle.std.specs.Prelude.{Contains, filter, ◌↔◌}
use Rattle.std.specs.List.{IsDistinct}
use Rattle.std.proofs.lemmas.List.Elements.{All-filter, All-contains, All-contains_itself, All-weaker, filter_passes, recursion_from_All}
use Rattle.std.proofs.lemmas.Map.Keys.{IsDistinct-cons}
use Rattle.regalloc2_names.specs.Register.{Register, is_register}
use Rattle.regalloc2_parts.proofs.RegisterLaws.{is_register-true, filter-distinct}

past : (b : Bool) (x r : Register) (xs : List Register) → Contains xs r → Contains (cond b (x ∷ xs) xs) r
past true x r xs (k, less, at) = (suc k, omega arith, at)
past false x r xs h = h

-- what a filter accepts stays in it
pub kept : (test : Register → Bool) (xs : List Register) (r : Register) → Contains xs r → test r ≡ true → Contains (filter test xs) r
kept test [] r (k, less, at) e = absurd (omega arith)
kept test (x ∷ xs) r (zero, less, at) e =
    let here : test x ≡ true = subst (λ (y : Register). test y ≡ true) (sym at) e in
    rw here (0, omega arith, at)
kept test (x ∷ xs) r (suc k, less, at) e = past (test x) x r (filter test xs) (kept test xs r (k, omega arith, at) e)

-- what is in a filter was in its list
pub was_there : (test : Register → Bool) (xs : List Register) (r : Register) → Contains (filter test xs) r → Contains xs r
was_there test xs r h = All-contains (Contains xs) (filter test xs) r (All-filter test (Contains xs) xs (All-contains_itself xs)) h

-- with its member in front it has the same members
pub same_members : (p : Register) (xs : List Register) → Contains xs p → (r : Register) →
    Contains (p ∷ filter (λ r. not (is_register p r)) xs) r ↔ Contains xs r
same_members p xs there r = (onward, back (is_register p r) refl)
  where
    onward : Contains (p ∷ filter (λ r. not (is_register p r)) xs) r → Contains xs r
    onward (zero, less, at) = subst (λ (y : Register). Contains xs y) at there
    onward (suc k, less, at) = was_there (λ r. not (is_register p r)) xs r (k, omega arith, at)

    back : (b : Bool) → is_register p r ≡ b → Contains xs r → Contains (p ∷ filter (λ r. not (is_register p r)) xs) r
    back true e h = (0, omega arith, is_register-true p r e)
    back false e h = past true p r (filter (λ r. not (is_register p r)) xs) (kept (λ r. not (is_register p r)) xs r h (rw e refl))

-- with its member in front a list without repeats still has none
pub still_distinct : (p : Register) (xs : List Register) → IsDistinct is_register xs → IsDistinct is_register (p ∷ filter (λ r. not (is_register p r)) xs)
still_distinct p xs d =
    IsDistinct-cons is_register p (filter (λ r. not (is_register p r)) xs)
    (recursion_from_All (λ (r : Register). is_register p r ≡ false) (filter (λ r. not (is_register p r)) xs)
    (All-weaker (λ (r : Register). not (is_register p r) ≡ true) (λ (r : Register). is_register p r ≡ false) (λ r. turned (is_register p r))
    (filter (λ r. not (is_register p r)) xs)
    (filter_passes (λ r. not (is_register p r)) xs)))
    (filter-distinct (λ r. not (is_register p r)) xs d)
  where
    turned : (b : Bool) → not b ≡ true → b ≡ false
    turned true e = absurd cc
    turned false e = refl

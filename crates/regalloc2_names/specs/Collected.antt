-- One register more, in a set and at the end of a list.
use Rattle.std.proofs.Common.{zero, suc, ◌≡◌, Bool, true, false, List, [], ◌∷◌, ◌++◌, ◌||◌, refl, arith, inl, inr}
use Rattle.std.specs.Prelude.{◌↔◌, ◌⊎◌, Contains}
use Rattle.std.proofs.lemmas.List.Elements.{Contains-append_left, Contains-append_right, Contains-append_cases}
use Rattle.regalloc2_names.specs.declared.sets.PRegSet.{PRegSet}
use Rattle.regalloc2_names.specs.Register.{Register, is_register, has_register}
use Rattle.regalloc2_names.specs.Same.{is_register-true, is_register-same}

either : (a b : Bool) → (a || b) ≡ true → (a ≡ true) ⊎ (b ≡ true)
either true b h = inl refl
either false b h = inr h

or_right : (a b : Bool) → b ≡ true → (a || b) ≡ true
or_right true b h = refl
or_right false b h = h

only : (x r : Register) → Contains (x ∷ []) r → x ≡ r
only x r (zero, less, at) = at
only x r (suc k, less, at) = absurd (omega arith)

pub collected : (old new : PRegSet) (x : Register) (xs : List Register) → ((r : Register) → (has_register old r ≡ true) ↔ Contains xs r) →
    ((r : Register) → has_register new r ≡ is_register x r || has_register old r) → (r : Register) → (has_register new r ≡ true) ↔ Contains (xs ++ x ∷ []) r
collected old new x xs was now r =
    (λ h. forth (either (is_register x r) (has_register old r) (rw (now r) at h)), λ h. back (Contains-append_cases xs (x ∷ []) r h))
  where
    forth : (is_register x r ≡ true) ⊎ (has_register old r ≡ true) → Contains (xs ++ x ∷ []) r
    forth (inl e) = Contains-append_right xs (x ∷ []) r (0, omega arith, is_register-true x r e)
    forth (inr e) = Contains-append_left xs (x ∷ []) r ((was r).0 e)

    back : Contains xs r ⊎ Contains (x ∷ []) r → has_register new r ≡ true
    back (inl e) = rw (now r) (or_right (is_register x r) (has_register old r) ((was r).1 e))
    back (inr e) = rw (now r, ← only x r e, is_register-same x) refl

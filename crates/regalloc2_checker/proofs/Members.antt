-- What the first items of a list are.
use Rattle.std.proofs.Common.{ℕ, zero, suc, ◌≡◌, ◌+◌, ◌<◌, ◌≤◌, Bool, true, false, refl, arith, sym, ap, ◌∙◌, subst, List, [], ◌∷◌, ◌++◌, length, take}
use Rattle.std.proofs.Common.{get_or, inl, inr}
use Rattle.std.specs.Prelude.{◌↔◌, ◌||◌, ◌⊎◌, Contains}
use Rattle.std.proofs.Math.Seq.{take-suc}
use Rattle.std.proofs.lemmas.List.{take_all}
use Rattle.std.proofs.lemmas.List.Elements.{Contains-append_left, Contains-append_right, Contains-append_cases}
use Rattle.std.proofs.lemmas.Bool.{or_right}
use Rattle.regalloc2_names.specs.declared.sets.PRegSet.{PRegSet}
use Rattle.regalloc2_names.specs.Register.{Register, is_register, has_register}
use Rattle.regalloc2_names.specs.Same.{is_register-true, is_register-same}

-- the first k + 1 items of a list are its first k and the one of index k
pub take_one : {X : Type 0} (xs : List X) (k : ℕ) (x : X) → k < length xs → x ≡ get_or xs k x → take (k + 1) xs ≡ take k xs ++ (x ∷ [])
take_one xs k x less is =
    let s : suc k ≡ k + 1 = omega arith in
    rw (← s) (take-suc xs k x less ∙ ap (λ (y : _). take k xs ++ (y ∷ [])) (sym is))

-- a member of a list of one item is that item
pub only_item : {X : Type 0} (x y : X) → Contains (x ∷ []) y → x ≡ y
only_item x y (zero, less, at) = at
only_item x y (suc n, less, at) = absurd (omega arith)

-- a register more in a set
pub slots_more : (rs : List Register) (k : ℕ) (r : Register) (s t : PRegSet) → k < length rs → r ≡ get_or rs k r →
    ((q : Register) → has_register t q ≡ (is_register r q || has_register s q)) →
    ((q : Register) → (has_register s q ≡ true) ↔ Contains (take k rs) q) → (q : Register) → (has_register t q ≡ true) ↔ Contains (take (k + 1) rs) q
slots_more rs k r s t less is more h q =
    let e : take (k + 1) rs ≡ take k rs ++ (r ∷ []) = take_one rs k r less is in (
      λ x. subst (λ (xs : List Register). Contains xs q) (sym e) (there (is_register r q) (has_register s q) refl refl (sym (more q) ∙ x)),
      λ c. more q ∙ back (Contains-append_cases (take k rs) (r ∷ []) q (subst (λ (xs : List Register). Contains xs q) e c)),
    )
  where
    there : (b c : Bool) → is_register r q ≡ b → has_register s q ≡ c → (b || c) ≡ true → Contains (take k rs ++ (r ∷ [])) q
    there true c f g x = Contains-append_right (take k rs) (r ∷ []) q (subst (λ (w : Register). Contains (r ∷ []) w) (is_register-true r q f)
        (0, omega arith, refl))
    there false true f g x = Contains-append_left (take k rs) (r ∷ []) q ((h q).0 g)
    there false false f g x = absurd cc

    back : Contains (take k rs) q ⊎ Contains (r ∷ []) q → (is_register r q || has_register s q) ≡ true
    back (inl c) = or_right (is_register r q) (has_register s q) ((h q).1 c)
    back (inr c) = (let same : is_register r q ≡ true = subst (λ (w : Register). is_register r w ≡ true) (only_item r q c) (is_register-same r) in rw same refl)

-- a set of the first k registers of a list is the set of all of them once k is the list's length or more
pub slots_done : (rs ss : List Register) (k : ℕ) (s : PRegSet) → length rs ≤ k → rs ≡ ss →
    ((q : Register) → (has_register s q ≡ true) ↔ Contains (take k rs) q) → (q : Register) → (has_register s q ≡ true) ↔ Contains ss q
slots_done rs ss k s less e h q = subst (λ (xs : List Register). (has_register s q ≡ true) ↔ Contains xs q) (take_all k rs less ∙ e) (h q)

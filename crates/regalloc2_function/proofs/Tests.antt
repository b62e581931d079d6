-- Lemmas on tests that return true exactly if a fact holds.
use Rattle.std.proofs.Common.{◌≡◌, ◌<◌, ℕ, List, [], ◌∷◌, length, get_or, Bool, true, false, refl, IsTrue, ◌↔◌, MatchBool, arith}
use Rattle.std.specs.Prelude.{All, Any}
use Rattle.std.specs.List.{AllWithin, HoldsAt}
use Rattle.std.proofs.lemmas.Bool.{false≢true}
use Rattle.std.proofs.lemmas.List.{get_or_default}
use Rattle.regalloc2_names.specs.declared.RegClass.{RegClass}
use Rattle.regalloc2_names.specs.declared.RegClass.TheVariants.{Int, Float, Vector}
use Rattle.std.specs.Bool.{OnFalse}
use Rattle.std.specs.Prelude.{None, Some}

-- if a test returns false, what holds in that case holds
pub none_at : {P : Type 0} (b : Bool) → b ≡ false → OnFalse b P → P
none_at true e h = absurd cc
none_at false e h = h

-- what holds of each class by name holds of every class
pub by_class : (P : RegClass → Type 0) → P Int → P Float → P Vector → (c : RegClass) → P c
by_class P i f v Int = i
by_class P i f v Float = f
by_class P i f v Vector = v

-- values that are there are equal if their contents are, and none is missing
pub same_some : {X : Type 0} (x y : X) → Some x ≡ Some y → x ≡ y
same_some x y e = cc

pub none_is_not_some : {X : Type 0} (x : X) → None ≡ Some x → ⊥
none_is_not_some x e = cc

-- whether `all` returns true exactly if each element has P, where it tests P
pub all_or_not : {X : Type 0} (P : X → Type 0) (r : Bool) (xs : List X) →
    MatchBool r (AllWithin P xs 0 (length xs)) ((k : ℕ) × (k < length xs) × HoldsAt (λ x. P x → ⊥) xs k) → IsTrue r ↔ All P xs
all_or_not P true xs h = (λ _ k d less. h k d (omega arith) less, λ _. refl)
all_or_not P false [] h = (λ t. absurd (false≢true t), λ all. absurd (omega (arith, h.1)))
all_or_not P false (x ∷ xs) h = (λ t. absurd (false≢true t), λ all. absurd (h.2 x (all h.0 x h.1)))

-- whether `any` returns true exactly if some element has P, where it tests P
pub any_or_not : {X : Type 0} (P : X → Type 0) (r : Bool) (xs : List X) →
    MatchBool r ((k : ℕ) × (k < length xs) × HoldsAt P xs k) (AllWithin (λ x. P x → ⊥) xs 0 (length xs)) → IsTrue r ↔ Any P xs
any_or_not P true [] h = absurd (omega (arith, h.1))
any_or_not P true (x ∷ xs) h = (λ _. (h.0, get_or (x ∷ xs) h.0 x, h.1, get_or_default (x ∷ xs) h.0 (get_or (x ∷ xs) h.0 x) x h.1, h.2 x), λ _. refl)
any_or_not P false xs h = (λ t. absurd (false≢true t), λ a. absurd (h a.0 a.1 (omega arith) a.2 (rw a.3 a.4)))

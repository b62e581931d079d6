-- Lists of bits that grow.
use Rattle.std.proofs.Common.{ℕ, ◌≡◌, ◌+◌, ◌<◌, ◌≤◌, inl, inr, arith, List, [], ◌∷◌, ◌++◌, length, get_or, sym, ◌∙◌, subst}
use Rattle.std.specs.Prelude.{◌↔◌, ◌⊎◌, All, Contains}
use Rattle.std.proofs.lemmas.Bool.{cases_lt}
use Rattle.std.proofs.lemmas.List.{get_or_default}
use Rattle.std.proofs.lemmas.List.Elements.{Contains-append_left, Contains-push, Contains-push_cases}
use Rattle.regalloc2_names.specs.Register.{VirtualRegister}
use Rattle.regalloc2_checker.specs.NamedBits.{IsMore}
use Rattle.regalloc2_checker.specs.TableFacts.{IsListedVReg}

-- a list has all that it lists
pub more-same : (xs : List ℕ) → IsMore xs xs
more-same xs = λ n h. h

-- what was listed before two steps is listed after both
pub more-twice : (xs ys zs : List ℕ) → IsMore xs ys → IsMore ys zs → IsMore xs zs
more-twice xs ys zs a b = λ n h. b n (a n h)

-- a list with one number more at its end has that number, beside what it had
pub members-pushed : (xs ys : List ℕ) (x : ℕ) → ys ≡ xs ++ (x ∷ []) → (n : ℕ) → Contains ys n ↔ (Contains xs n ⊎ (n ≡ x))
members-pushed xs ys x e n =
    (λ h. there (Contains-push_cases xs x n (subst (λ (zs : List ℕ). Contains zs n) e h)), λ h. subst (λ (zs : List ℕ). Contains zs n) (sym e) (back h))
  where
    there : Contains xs n ⊎ (x ≡ n) → Contains xs n ⊎ (n ≡ x)
    there (inl h) = inl h
    there (inr h) = inr (sym h)

    back : Contains xs n ⊎ (n ≡ x) → Contains (xs ++ (x ∷ [])) n
    back (inl h) = Contains-append_left xs (x ∷ []) n h
    back (inr h) = subst (λ (m : ℕ). Contains (xs ++ (x ∷ [])) m) (sym h) (Contains-push xs x)

-- vregs that are listed stay listed as the list grows
pub all-vregs-more : (xs ys : List ℕ) (vs : List VirtualRegister) → IsMore xs ys → All (IsListedVReg xs) vs → All (IsListedVReg ys) vs
all-vregs-more xs ys vs m h = λ k d less. m _ (h k d less)

-- what holds of the first k items holds of the first k + 1
pub all_more : {X : Type 0} (P Q : X → Type 0) (xs : List X) (k : ℕ) (x : X) → k < length xs → x ≡ get_or xs k x → ((y : X) → P y → Q y) →
    ((j : ℕ) (d : X) → j < k → P (get_or xs j d)) → Q x → (j : ℕ) (d : X) → j < k + 1 → Q (get_or xs j d)
all_more P Q xs k x less is on h here j d l = elim (cases_lt j k) [
  | inl b ↦ on (get_or xs j d) (h j d b)
  | inr g ↦ (
      let e : k ≡ j = omega arith in
      subst (λ (n : ℕ). Q (get_or xs n d)) e (subst Q (is ∙ get_or_default xs k x d less) here)
      )
]

-- what holds of the first k items holds of all, if there are no more
pub all_done : {X : Type 0} (P : X → Type 0) (xs : List X) (k : ℕ) → length xs ≤ k → ((j : ℕ) (d : X) → j < k → P (get_or xs j d)) → All P xs
all_done P xs k long h = λ j d less. h j d (omega arith)

-- what holds of each number below k, and of k, holds of each number below k + 1
pub up_to : (P Q : ℕ → Type 0) (k : ℕ) → ((i : ℕ) → P i → Q i) → ((i : ℕ) → i < k → P i) → Q k → (i : ℕ) → i < k + 1 → Q i
up_to P Q k on h here i less = elim (cases_lt i k) [
  | inl b ↦ on i (h i b)
  | inr g ↦ (let e : k ≡ i = omega arith in subst Q e here)
]

-- How far a walk over the members of a set is.
use Rattle.std.proofs.Common.{inl, inr, subst, ℕ, ◌≡◌, ◌+◌, ◌<◌, arith, Bool, true}
use Rattle.std.proofs.Common.{false, cond, nat_eq, eq-eqb, List, [], ◌∷◌, ◌++◌, refl, sym, ap, ◌∙◌, append_assoc}
use Rattle.std.specs.Prelude.{if◌then◌else◌}
use Rattle.std.proofs.lemmas.Bool.{cases_eq}
use Rattle.std.proofs.lemmas.Bool.Decides.{nat_tests}
use Rattle.std.proofs.lemmas.List.{append-nil}
use Rattle.regalloc2_function.specs.Numbers.{NumberSet, has_number, times_listed, ListsMembers}

-- a number is as often in two lists, one after the other, as in each of them together
pub times-append : (xs ys : List ℕ) (i : ℕ) → times_listed (xs ++ ys) i ≡ times_listed xs i + times_listed ys i
unfolding times_listed
times-append [] ys i = omega arith
times-append (x ∷ xs) ys i = omega (arith, times-append xs ys i)

one_of : (b : Bool) → 0 < (if b then 1 else 0) → b ≡ true
one_of true h = refl
one_of false h = absurd (omega arith)

of_one : (b : Bool) → b ≡ true → 0 < (if b then 1 else 0)
of_one true h = omega arith
of_one false h = absurd cc

-- a list of one number has it once, and no other
pub times-one : (x y : ℕ) → times_listed (x ∷ []) y ≡ cond (nat_eq x y) 1 0
unfolding times_listed
times-one x y = omega arith

times-here : (x : ℕ) (rest : List ℕ) → 0 < times_listed (x ∷ rest) x
unfolding times_listed
times-here x rest = rw (eq-eqb x x refl) (omega arith)

-- an empty list has no number
pub times-nil : (y : ℕ) → times_listed [] y ≡ 0
unfolding times_listed
times-nil y = refl

-- one member on
pub walked-on : (s : NumberSet) (done left rest : List ℕ) (x : ℕ) → ListsMembers s (done ++ left) → left ≡ x ∷ rest → ListsMembers s ((done ++ x ∷ []) ++ rest)
walked-on s done left rest x h e i = ap (λ l. times_listed l i) (append_assoc done (x ∷ []) rest) ∙ ap (λ (l : List ℕ). times_listed (done ++ l) i) (sym e)
    ∙ h i

-- the next one is a member
pub walked-is : (s : NumberSet) (done left rest : List ℕ) (x : ℕ) → ListsMembers s (done ++ left) → left ≡ x ∷ rest → has_number s x ≡ true
walked-is s done left rest x h e =
    one_of (has_number s x)
    (let a = times-append done left x in
    let b : times_listed left x ≡ times_listed (x ∷ rest) x = ap (λ (l : List ℕ). times_listed l x) e in
    let c = times-here x rest in
    let d = h x in
    omega arith)

-- at the end each member was visited
pub walked-all : (s : NumberSet) (done left : List ℕ) (y : ℕ) → ListsMembers s (done ++ left) → left ≡ [] →
    times_listed done y ≡ (if has_number s y then 1 else 0)
walked-all s done left y h e = ap (λ (l : List ℕ). times_listed l y) (sym (append-nil done)) ∙ ap (λ (l : List ℕ). times_listed (done ++ l) y) (sym e) ∙ h y

-- once nothing is left to walk, each member was walked
pub walked-end : (s : NumberSet) (done left : List ℕ) (y : ℕ) → ListsMembers s (done ++ left) → left ≡ [] → has_number s y ≡ true → 0 < times_listed done y
walked-end s done left y h e m = let a = walked-all s done left y h e in let b = of_one (has_number s y) m in omega arith

-- what holds of each visited member, and of the next
pub walked-more : (P : ℕ → Type 0) (done : List ℕ) (x : ℕ) → ((y : ℕ) → 0 < times_listed done y → P y) → P x → (y : ℕ) → 0 < times_listed (done ++ x ∷ []) y
    → P y
walked-more P done x h g y l = elim (cases_eq y x) [
  | inl e ↦ subst P (sym e) g
  | inr n ↦ h y
      (let a = times-append done (x ∷ []) y in
      let b = times-one x y in
      let c = other x y (λ q. n (sym q)) in
      omega arith)
]
  where
    other : (x y : ℕ) → (x ≡ y → ⊥) → ◌≡◌ {A = ℕ} (cond (nat_eq x y) 1 0) 0
    other x y n = grind (arith, nat_tests)

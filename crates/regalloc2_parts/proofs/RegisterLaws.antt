-- Names of registers that stand for one register.
use Rattle.std.proofs.Common.{ℕ, ◌≡◌, refl, arith, ◌∙◌, ap, List, [], ◌∷◌, Bool, true, false, cond, nat_eq, eqb-true}
use Rattle.std.specs.Prelude.{filter}
use Rattle.std.specs.List.{IsDistinct, AllByRecursion}
use Rattle.std.proofs.lemmas.List.Elements.{All-filter, All-from_recursion, recursion_from_All}
use Rattle.std.proofs.lemmas.Map.Keys.{IsDistinct-head, IsDistinct-tail, IsDistinct-cons}
use Rattle.std.proofs.lemmas.Bool.{and_parts}
use Rattle.regalloc2_index.proofs.Numbers.{nat_eq-self}
use Rattle.regalloc2_index.proofs.Bools.{equal_tests}
use Rattle.regalloc2_names.specs.declared.RegClass.{RegClass}
use Rattle.regalloc2_names.specs.declared.RegClass.TheVariants.{Int, Float, Vector}
use Rattle.regalloc2_names.specs.Register.{Register, class_code, is_register}

-- the test of equality says yes of a preg and itself
pub is_register-refl : (r : Register) → is_register r r ≡ true
is_register-refl r = rw (nat_eq-self (class_code r.class), nat_eq-self r.number) refl

pub class_codes : (a b : RegClass) → class_code a ≡ class_code b → a ≡ b
class_codes Int Int e = refl
class_codes Int Float e = absurd (omega arith)
class_codes Int Vector e = absurd (omega arith)
class_codes Float Int e = absurd (omega arith)
class_codes Float Float e = refl
class_codes Float Vector e = absurd (omega arith)
class_codes Vector Int e = absurd (omega arith)
class_codes Vector Float e = absurd (omega arith)
class_codes Vector Vector e = refl

named : (a b : Register) → a.class ≡ b.class → a.number ≡ b.number → a ≡ b
named a b e f = ap (λ (c : RegClass). record { number = a.number; class = c }) e ∙ ap (λ (n : ℕ). record { number = n; class = b.class }) f

-- the test finds equal names alone
pub is_register-true : (a b : Register) → is_register a b ≡ true → a ≡ b
is_register-true a b e =
    let h = and_parts (nat_eq (class_code a.class) (class_code b.class)) (nat_eq a.number b.number) e in
    named a b (class_codes a.class b.class (eqb-true _ _ h.0)) (eqb-true _ _ h.1)

-- whichever name is asked for first
pub is_register-flip : (a b : Register) → is_register a b ≡ is_register b a
is_register-flip a b = equal_tests (is_register a b) (is_register b a) (turned a b) (turned b a)
  where
    turned : (x y : Register) → is_register x y ≡ true → is_register y x ≡ true
    turned x y e = rw (is_register-true x y e) (is_register-refl y)

-- registers that differ still do where some are left out
pub filter-distinct : (test : Register → Bool) (xs : List Register) → IsDistinct is_register xs → IsDistinct is_register (filter test xs)
filter-distinct test [] d = d
filter-distinct test (x ∷ xs) d = kept (test x) (filter-distinct test xs (IsDistinct-tail is_register x xs d))
  where
    apart : AllByRecursion (λ y. is_register x y ≡ false) (filter test xs)
    apart = recursion_from_All (λ (y : Register). is_register x y ≡ false) (filter test xs)
        (All-filter test (λ (y : Register). is_register x y ≡ false) xs
        (All-from_recursion (λ (y : Register). is_register x y ≡ false) xs (IsDistinct-head is_register x xs d)))

    kept : (t : Bool) → IsDistinct is_register (filter test xs) → IsDistinct is_register (cond t (x ∷ filter test xs) (filter test xs))
    kept true h = IsDistinct-cons is_register x (filter test xs) apart h
    kept false h = h

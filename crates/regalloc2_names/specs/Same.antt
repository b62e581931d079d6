-- The tests of equality of names return true exactly for equal names.
use Rattle.std.specs.Prelude.{ℕ, ◌≡◌, Bool, true, false, ◌&&◌, nat_eq, refl}
use Rattle.std.proofs.Common.{ap, eqb-true, eq-eqb}
use Rattle.regalloc2_names.specs.declared.RegClass.{RegClass}
use Rattle.regalloc2_names.specs.declared.RegClass.TheVariants.{Int, Float, Vector}
use Rattle.regalloc2_names.specs.Place.{Place, NoPlace, InRegister, InSlot, is_place}
use Rattle.regalloc2_names.specs.Register.{Register, VirtualRegister, class_code, is_register, is_vreg}

pub same_class : (a b : RegClass) → nat_eq (class_code a) (class_code b) ≡ true → a ≡ b
same_class Int Int h = refl
same_class Float Float h = refl
same_class Vector Vector h = refl
same_class Int Float h = absurd cc
same_class Int Vector h = absurd cc
same_class Float Int h = absurd cc
same_class Float Vector h = absurd cc
same_class Vector Int h = absurd cc
same_class Vector Float h = absurd cc

both : (a b : Bool) → (a && b) ≡ true → (a ≡ true) × (b ≡ true)
both true true h = (refl, refl)
both true false h = absurd cc
both false b h = absurd cc

registers : (m n : ℕ) (c d : RegClass) → m ≡ n → c ≡ d → ◌≡◌ {A = Register} (record { number = m; class = c }) (record { number = n; class = d })
registers m n c d e f = rw (e, f) refl

same_vregs : (m n : ℕ) (c d : RegClass) → m ≡ n → c ≡ d → ◌≡◌ {A = VirtualRegister} (record { number = m; class = c }) (record { number = n; class = d })
same_vregs m n c d e f = rw (e, f) refl

pub is_register-true : (a b : Register) → is_register a b ≡ true → a ≡ b
is_register-true a b h =
    let s = both (nat_eq (class_code a.class) (class_code b.class)) (nat_eq a.number b.number) h in
    registers a.number b.number a.class b.class (eqb-true a.number b.number s.1) (same_class a.class b.class s.0)

eqb-same : (n : ℕ) → nat_eq n n ≡ true
eqb-same n = eq-eqb n n refl

pub is_register-same : (a : Register) → is_register a a ≡ true
is_register-same a = rw (eqb-same (class_code a.class), eqb-same a.number) refl

pub is_vreg-true : (a b : VirtualRegister) → is_vreg a b ≡ true → a ≡ b
is_vreg-true a b h =
    let s = both (nat_eq (class_code a.class) (class_code b.class)) (nat_eq a.number b.number) h in
    same_vregs a.number b.number a.class b.class (eqb-true a.number b.number s.1) (same_class a.class b.class s.0)

pub is_vreg-same : (a : VirtualRegister) → is_vreg a a ≡ true
is_vreg-same a = rw (eqb-same (class_code a.class), eqb-same a.number) refl

pub is_place-true : (a b : Place) → is_place a b ≡ true → a ≡ b
is_place-true NoPlace NoPlace h = refl
is_place-true (InRegister r) (InRegister s) h = ap InRegister (is_register-true r s h)
is_place-true (InSlot m) (InSlot n) h = ap InSlot (eqb-true m n h)
is_place-true NoPlace (InRegister s) h = absurd cc
is_place-true NoPlace (InSlot n) h = absurd cc
is_place-true (InRegister r) NoPlace h = absurd cc
is_place-true (InRegister r) (InSlot n) h = absurd cc
is_place-true (InSlot m) NoPlace h = absurd cc
is_place-true (InSlot m) (InRegister s) h = absurd cc

pub is_place-same : (a : Place) → is_place a a ≡ true
is_place-same NoPlace = refl
is_place-same (InRegister r) = is_register-same r
is_place-same (InSlot n) = eqb-same n

-- How operands are packed into bits, and the lemmas on all packed names.
use Rattle.std.specs.Prelude.{ℕ, true, false, ◌≡◌, ◌<◌, ◌≤◌, ◌+◌, ◌-◌, ◌*◌, ◌/◌, ◌%◌, ◌^◌, ◌⊎◌, zero, suc, refl, nat_eq, nat_lt, if◌then◌else◌, IsTrue}
use Rattle.std.proofs.Common.{arith}
use Rattle.std.proofs.lemmas.Grind.{common_steps}
use Rattle.std.proofs.lemmas.Bool.Decides.{nat_tests}
use Rattle.std.proofs.Common.{eqb-true, eq-eqb, inl, inr}
use Rattle.std.proofs.lemmas.Bool.{cases_lt}
use Rattle.regalloc2_names.specs.declared.OperandConstraint.{OperandConstraint}
use Rattle.regalloc2_names.specs.declared.OperandConstraint.TheVariants.{Any, Reg, Stack, FixedReg, Reuse, Limit}
use Rattle.regalloc2_names.specs.declared.OperandKind.{OperandKind}
use Rattle.regalloc2_names.specs.declared.OperandKind.TheVariants.{Def, Use}
use Rattle.regalloc2_names.specs.declared.OperandPos.{OperandPos}
use Rattle.regalloc2_names.specs.declared.OperandPos.TheVariants.{Early, Late}
use Rattle.regalloc2_names.specs.declared.RegClass.{RegClass}
use Rattle.regalloc2_names.specs.declared.RegClass.TheVariants.{Int, Float, Vector}
use Rattle.regalloc2_names.specs.Operand.{OperandValue}
pub use Rattle.regalloc2_names.specs.RegisterBits.{IsRegisterIndex, IsVRegBits, register_of_bits, bits_of_register, vreg_of_bits, bits_of_vreg}
pub use Rattle.regalloc2_names.specs.RegisterBits.{class_code-class_of_code, bits_of_vreg-vreg_of_bits, bits_of_register-register_of_bits}
pub use Rattle.regalloc2_names.specs.PlaceBits.{IsPlaceBits, place_of_bits, bits_of_place, index_of_place, bits_of_place-place_of_bits}
use Rattle.regalloc2_names.specs.Register.{class_code, class_of_code, hw_limit, vreg_limit, Register}

-- operands
abbrev pub position_of_code : ℕ → OperandPos
position_of_code zero = Early
position_of_code (suc n) = Late

abbrev pub position_code : OperandPos → ℕ
position_code Early = 0
position_code Late = 1

abbrev pub kind_of_code : ℕ → OperandKind
kind_of_code zero = Def
kind_of_code (suc n) = Use

abbrev pub kind_code : OperandKind → ℕ
kind_code Def = 0
kind_code Use = 1

-- the exponent of a limit, which is a power of two up to 64
abbrev pub limit_code : ℕ → ℕ
limit_code n = if nat_lt n 2 then 0 else if nat_lt n 4 then 1 else if nat_lt n 8 then 2 else if nat_lt n 16 then 3 else if nat_lt n 32 then 4 else if nat_lt n
    64 then 5 else 6

abbrev pub plain_constraint : ℕ → OperandConstraint
plain_constraint zero = Any
plain_constraint (suc zero) = Reg
plain_constraint (suc (suc n)) = Stack

abbrev pub constraint_of_code : RegClass → ℕ → OperandConstraint
constraint_of_code class c =
    if nat_lt c 16 then plain_constraint c
    else if nat_lt c 32 then Limit (2 ^ (c - 16))
    else if nat_lt c 64 then Reuse (c - 32)
    else FixedReg (record { number = c - 64; class = class })

abbrev pub constraint_code : OperandConstraint → ℕ
constraint_code Any = 0
constraint_code Reg = 1
constraint_code Stack = 2
constraint_code (Limit n) = 16 + limit_code n
constraint_code (Reuse n) = 32 + n
constraint_code (FixedReg r) = 64 + r.number

-- the codes of constraints are below: they have 7 bits
abbrev pub constraint_code_limit : ℕ
constraint_code_limit = 128

-- the codes that stand for a constraint
abbrev pub IsConstraintCode : ℕ → Type 0
IsConstraintCode c = (c < constraint_code_limit) × (c < 16 → c < 3) × (c < 32 → c < 23)

unfoldable pub operand_of_bits : ℕ → OperandValue
operand_of_bits b = record {
  vreg = record { number = b % 4294967296; class = class_of_code (b / 4294967296 % 4) };
  constraint = constraint_of_code (class_of_code (b / 4294967296 % 4)) (b / 68719476736);
  kind = kind_of_code (b / 34359738368 % 2);
  position = position_of_code (b / 17179869184 % 2);
}

unfoldable pub bits_of_operand : OperandValue → ℕ
bits_of_operand o = o.vreg.number + class_code o.vreg.class * 4294967296 + position_code o.position * 17179869184
    + kind_code o.kind * 34359738368 + constraint_code o.constraint * 68719476736

abbrev pub IsOperandBits : ℕ → Type 0
IsOperandBits b = (b % 4294967296 < vreg_limit) × (b / 4294967296 % 4 < 3) × IsConstraintCode (b / 68719476736)

position_back : (n : ℕ) → n < 2 → position_code (position_of_code n) ≡ n
position_back zero h = refl
position_back (suc zero) h = refl
position_back (suc (suc n)) h = absurd (omega arith)

kind_back : (n : ℕ) → n < 2 → kind_code (kind_of_code n) ≡ n
kind_back zero h = refl
kind_back (suc zero) h = refl
kind_back (suc (suc n)) h = absurd (omega arith)

plain_back : (n : ℕ) → n < 3 → constraint_code (plain_constraint n) ≡ n
plain_back zero h = refl
plain_back (suc zero) h = refl
plain_back (suc (suc zero)) h = refl
plain_back (suc (suc (suc n))) h = absurd (omega arith)

limit_back : (k : ℕ) → k < 7 → limit_code (2 ^ k) ≡ k
limit_back zero h = refl
limit_back (suc zero) h = refl
limit_back (suc (suc zero)) h = refl
limit_back (suc (suc (suc zero))) h = refl
limit_back (suc (suc (suc (suc zero)))) h = refl
limit_back (suc (suc (suc (suc (suc zero))))) h = refl
limit_back (suc (suc (suc (suc (suc (suc zero)))))) h = refl
limit_back (suc (suc (suc (suc (suc (suc (suc n))))))) h = absurd (omega arith)

pub constraint_back : (class : RegClass) (c : ℕ) → IsConstraintCode c → constraint_code (constraint_of_code class c) ≡ c
constraint_back class c h = grind (arith, common_steps, plain_back, limit_back)

pub bits_of_operand-operand_of_bits : (b : ℕ) → IsOperandBits b → bits_of_operand (operand_of_bits b) ≡ b
unfolding bits_of_operand operand_of_bits
bits_of_operand-operand_of_bits b h = omega (
  arith,
  class_code-class_of_code (b / 4294967296 % 4) h.1,
  position_back (b / 17179869184 % 2) (omega arith),
  kind_back (b / 34359738368 % 2) (omega arith),
  constraint_back (class_of_code (b / 4294967296 % 4)) (b / 68719476736) h.2,
)

-- packing undoes unpacking
pub ruleset packing = (bits_of_operand-operand_of_bits, bits_of_place-place_of_bits, bits_of_vreg-vreg_of_bits, bits_of_register-register_of_bits)

-- the indexes of reused operands are below: they have 5 bits
abbrev pub reuse_limit : ℕ
reuse_limit = 32

-- the constraints that an operand of a class may have
abbrev pub IsConstraintOf : RegClass → OperandConstraint → Type 0
IsConstraintOf class Any = Unit {0}
IsConstraintOf class Reg = Unit {0}
IsConstraintOf class Stack = Unit {0}
IsConstraintOf class (Limit n) = IsTrue (nat_eq n (2 ^ limit_code n))
IsConstraintOf class (Reuse n) = n < reuse_limit
IsConstraintOf class (FixedReg r) = (r.number < hw_limit) × (r.class ≡ class)

abbrev pub IsOperand : OperandValue → Type 0
IsOperand o = (o.vreg.number < vreg_limit) × IsConstraintOf o.vreg.class o.constraint

pub limit_code-lt : (n : ℕ) → limit_code n < 7
limit_code-lt n = grind (arith, nat_tests)

class_code-lt : (c : RegClass) → class_code c < 3
class_code-lt Int = omega arith
class_code-lt Float = omega arith
class_code-lt Vector = omega arith

class_of_code-class_code : (c : RegClass) → class_of_code (class_code c) ≡ c
class_of_code-class_code Int = refl
class_of_code-class_code Float = refl
class_of_code-class_code Vector = refl

pub position_code-lt : (p : OperandPos) → position_code p < 2
position_code-lt Early = omega arith
position_code-lt Late = omega arith

position_forth : (p : OperandPos) → position_of_code (position_code p) ≡ p
position_forth Early = refl
position_forth Late = refl

pub kind_code-lt : (k : OperandKind) → kind_code k < 2
kind_code-lt Def = omega arith
kind_code-lt Use = omega arith

kind_forth : (k : OperandKind) → kind_of_code (kind_code k) ≡ k
kind_forth Def = refl
kind_forth Use = refl

pub IsConstraintCode-constraint_code : (class : RegClass) (k : OperandConstraint) → IsConstraintOf class k → IsConstraintCode (constraint_code k)
IsConstraintCode-constraint_code class Any h = (omega arith, λ _. omega arith, λ _. omega arith)
IsConstraintCode-constraint_code class Reg h = (omega arith, λ _. omega arith, λ _. omega arith)
IsConstraintCode-constraint_code class Stack h = (omega arith, λ _. omega arith, λ _. omega arith)
IsConstraintCode-constraint_code class (Limit n) h = (omega (arith, limit_code-lt n), λ w. omega arith, λ w. omega (arith, limit_code-lt n))
IsConstraintCode-constraint_code class (Reuse n) h = (omega arith, λ w. omega arith, λ w. omega arith)
IsConstraintCode-constraint_code class (FixedReg r) h = (omega arith, λ w. omega arith, λ w. omega arith)

limit_forth : (class : RegClass) (n k : ℕ) → k < 7 → n ≡ 2 ^ k → constraint_of_code class (16 + k) ≡ Limit n
limit_forth class n k h e =
    let a : nat_lt (16 + k) 16 ≡ false = grind (arith, nat_tests) in
    let b : nat_lt (16 + k) 32 ≡ true = grind (arith, nat_tests) in
    let d : 16 + k - 16 ≡ k = omega arith in
    rw (a, b, d, e) refl

reuse_forth : (class : RegClass) (n : ℕ) → n < 32 → constraint_of_code class (32 + n) ≡ Reuse n
reuse_forth class n h =
    let a : nat_lt (32 + n) 16 ≡ false = grind (arith, nat_tests) in
    let b : nat_lt (32 + n) 32 ≡ false = grind (arith, nat_tests) in
    let d : nat_lt (32 + n) 64 ≡ true = grind (arith, nat_tests) in
    let f : 32 + n - 32 ≡ n = omega arith in
    rw (a, b, d, f) refl

fixed_forth : (class : RegClass) (r : Register) → r.number < 64 → r.class ≡ class → constraint_of_code class (64 + r.number) ≡ FixedReg r
fixed_forth class r h e =
    let a : nat_lt (64 + r.number) 16 ≡ false = grind (arith, nat_tests) in
    let b : nat_lt (64 + r.number) 32 ≡ false = grind (arith, nat_tests) in
    let d : nat_lt (64 + r.number) 64 ≡ false = grind (arith, nat_tests) in
    let f : 64 + r.number - 64 ≡ r.number = omega arith in
    rw (a, b, d, f, ← e) refl

pub constraint_forth : (class : RegClass) (k : OperandConstraint) → IsConstraintOf class k → constraint_of_code class (constraint_code k) ≡ k
constraint_forth class Any h = refl
constraint_forth class Reg h = refl
constraint_forth class Stack h = refl
constraint_forth class (Limit n) h = limit_forth class n (limit_code n) (limit_code-lt n) (eqb-true _ _ h)
constraint_forth class (Reuse n) h = reuse_forth class n h
constraint_forth class (FixedReg r) h = fixed_forth class r h.0 h.1

-- the fields of an operand's word
fields : (n k p q c : ℕ) → n < 4294967296 → k < 4 → p < 2 → q < 2 →
    let b : ℕ = n + k * 4294967296 + p * 17179869184 + q * 34359738368 + c * 68719476736 in
    (b % 4294967296 ≡ n) × (b / 4294967296 % 4 ≡ k) × (b / 17179869184 % 2 ≡ p) × (b / 34359738368 % 2 ≡ q) × (b / 68719476736 ≡ c)
fields n k p q c hn hk hp hq = (omega arith, omega arith, omega arith, omega arith, omega arith)

-- an operand's encoding is accepted, and decodes to the operand
pub IsOperandBits-bits_of_operand : (o : OperandValue) → IsOperand o → IsOperandBits (bits_of_operand o)
unfolding bits_of_operand
IsOperandBits-bits_of_operand o h =
    let f = fields o.vreg.number (class_code o.vreg.class) (position_code o.position) (kind_code o.kind) (constraint_code o.constraint)
    (omega arith) (omega (arith, class_code-lt o.vreg.class)) (position_code-lt o.position) (kind_code-lt o.kind) in
    rw (f.0, f.1, f.4) (h.0, class_code-lt o.vreg.class, IsConstraintCode-constraint_code o.vreg.class o.constraint h.1)

pub operand_of_bits-bits_of_operand : (o : OperandValue) → IsOperand o → operand_of_bits (bits_of_operand o) ≡ o
unfolding bits_of_operand operand_of_bits
operand_of_bits-bits_of_operand o h =
    let f = fields o.vreg.number (class_code o.vreg.class) (position_code o.position) (kind_code o.kind) (constraint_code o.constraint)
    (omega arith) (omega (arith, class_code-lt o.vreg.class)) (position_code-lt o.position) (kind_code-lt o.kind) in
    rw (
      f.0,
      f.1,
      f.2,
      f.3,
      f.4,
      class_of_code-class_code o.vreg.class,
      position_forth o.position,
      kind_forth o.kind,
      constraint_forth o.vreg.class o.constraint h.1,
    ) refl

-- a code decodes to a constraint of the class
plain_is : (class : RegClass) (n : ℕ) → IsConstraintOf class (plain_constraint n)
plain_is class zero = tt
plain_is class (suc zero) = tt
plain_is class (suc (suc n)) = tt

limit_is : (class : RegClass) (k : ℕ) → k < 7 → IsConstraintOf class (Limit (2 ^ k))
limit_is class k h = eq-eqb _ _ (rw (limit_back k h) refl)

constraint_is : (class : RegClass) (c : ℕ) → IsConstraintCode c → IsConstraintOf class (constraint_of_code class c)
constraint_is class c h = below_16 (cases_lt c 16)
  where
    below_64 : (32 ≤ c) → (c < 64) ⊎ (64 ≤ c) → IsConstraintOf class (constraint_of_code class c)
    below_64 g (inl l) =
        let a : nat_lt c 16 ≡ false = grind (arith, nat_tests) in
        let b : nat_lt c 32 ≡ false = grind (arith, nat_tests) in
        let d : nat_lt c 64 ≡ true = grind (arith, nat_tests) in
        rw (a, b, d) (omega arith)
    below_64 g (inr l) =
        let a : nat_lt c 16 ≡ false = grind (arith, nat_tests) in
        let b : nat_lt c 32 ≡ false = grind (arith, nat_tests) in
        let d : nat_lt c 64 ≡ false = grind (arith, nat_tests) in
        rw (a, b, d) (omega arith, refl)

    below_32 : (16 ≤ c) → (c < 32) ⊎ (32 ≤ c) → IsConstraintOf class (constraint_of_code class c)
    below_32 g (inl l) =
        let a : nat_lt c 16 ≡ false = grind (arith, nat_tests) in
        let b : nat_lt c 32 ≡ true = grind (arith, nat_tests) in
        rw (a, b) (limit_is class (c - 16) (omega arith))
    below_32 g (inr l) = below_64 l (cases_lt c 64)

    below_16 : (c < 16) ⊎ (16 ≤ c) → IsConstraintOf class (constraint_of_code class c)
    below_16 (inl l) = let a : nat_lt c 16 ≡ true = grind (arith, nat_tests) in rw a (plain_is class c)
    below_16 (inr l) = below_32 l (cases_lt c 32)

-- an accepted encoding decodes to an operand
pub IsOperand-operand_of_bits : (b : ℕ) → IsOperandBits b → IsOperand (operand_of_bits b)
unfolding operand_of_bits
IsOperand-operand_of_bits b h = (h.0, constraint_is (class_of_code (b / 4294967296 % 4)) (b / 68719476736) h.2)

-- The numbers that an instruction's operands define.
use Rattle.std.proofs.Common.{ℕ, zero, suc, ◌≡◌, ◌<◌, Bool, true, false, List, [], ◌∷◌, length, nat_eq, eq-eqb, refl, arith, inl, inr, subst}
use Rattle.std.specs.Prelude.{◌&&◌, ◌||◌}
use Rattle.std.specs.Cmp.Derive.{both_true}
use Rattle.std.proofs.lemmas.Bool.{eqb-true, and_parts, or_cases, or_left, or_right}
use Rattle.regalloc2_names.specs.Operand.{OperandValue, is_def}
use Rattle.regalloc2_function.specs.FunctionValue.{op_at}
use Rattle.regalloc2_analysis.specs.BranchDefs.BranchDefs.{DefinesNumber}

-- whether an operand defines the number
unfoldable pub defined_by : List OperandValue → ℕ → Bool
defined_by [] x = false
defined_by (o ∷ os) x = (is_def o.kind && nat_eq o.vreg.number x) || defined_by os x

-- a number that an instruction defines is that of one of its definitions
pub defined_by-some : (ops : List OperandValue) (x : ℕ) → defined_by ops x ≡ true → (j : ℕ) × (j < length ops) × (is_def (op_at ops j).kind ≡ true)
    × ((op_at ops j).vreg.number ≡ x)
unfolding defined_by
defined_by-some [] x h = absurd cc
defined_by-some (o ∷ os) x h = elim (or_cases (is_def o.kind && nat_eq o.vreg.number x) (defined_by os x) h) [
  | inl a ↦ (let p = and_parts (is_def o.kind) (nat_eq o.vreg.number x) a in (0, omega arith, p.0, eqb-true o.vreg.number x p.1))
  | inr a ↦ (let r = defined_by-some os x a in (suc r.0, omega (arith, r.1), r.2, r.3))
]

-- the number of each definition is one that the instruction defines
pub defined_by-at : (ops : List OperandValue) (j : ℕ) → j < length ops → is_def (op_at ops j).kind ≡ true → defined_by ops (op_at ops j).vreg.number ≡ true
unfolding defined_by
defined_by-at [] j lt d = absurd (omega arith)
defined_by-at (o ∷ os) zero lt d = or_left (is_def o.kind && nat_eq o.vreg.number o.vreg.number) (defined_by os o.vreg.number)
    (both_true d (eq-eqb o.vreg.number o.vreg.number refl))
defined_by-at (o ∷ os) (suc j) lt d = or_right (is_def o.kind && nat_eq o.vreg.number (op_at os j).vreg.number) (defined_by os (op_at os j).vreg.number)
    (defined_by-at os j (omega arith) d)

-- a number that one operand defines is among the defined numbers
pub defined_by-number : (ops : List OperandValue) (n k : ℕ) → DefinesNumber ops n k → defined_by ops n ≡ true
defined_by-number ops n k d = subst (λ x. defined_by ops x ≡ true) d.number (defined_by-at ops k d.operand d.definition)

-- a number among the defined numbers is defined by some operand
pub number_defined : (ops : List OperandValue) (n : ℕ) → defined_by ops n ≡ true → (k : ℕ) × DefinesNumber ops n k
number_defined ops n h = (let d = defined_by-some ops n h in (d.0, record { operand = d.1; definition = d.2; number = d.3 }))

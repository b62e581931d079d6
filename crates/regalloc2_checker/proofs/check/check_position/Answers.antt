use Rattle.std.proofs.Common.{◌≡◌, ◌∙◌, ◌<◌, ℕ, List, Bool, length, subst, sym, arith}
use Rattle.std.specs.Prelude.{true, ◌↔◌, IsTrue, slice_index_or}
use Rattle.std.proofs.lemmas.List.{get_or_default}
use Rattle.regalloc2_function.specs.FunctionValue.{no_operand, op_at}
use Rattle.regalloc2_names.specs.Operand.{OperandValue}
use Rattle.regalloc2_names.specs.declared.OperandPos.{OperandPos}
use Rattle.regalloc2_names.specs.Register.{VirtualRegister}
use Rattle.regalloc2_names.specs.Place.{Place}
use Rattle.regalloc2_checker.specs.TableFacts.{facts_now}
use Rattle.regalloc2_checker.proofs.OperandErrors.{fine_more, fine_of, judged_some, not_so}
use Rattle.regalloc2_checker.proofs.check.check_position.Goals as goal

-- the test of an operand's position is one of the operand at its index
is_at-operand : (operands : List OperandValue) (k : ℕ) (o : OperandValue) (position : OperandPos) (test : Bool) → o ≡ slice_index_or operands k o →
    k < length operands → IsTrue test ↔ (o.position ≡ position) → IsTrue test ↔ ((op_at operands k).position ≡ position)
is_at-operand operands k o position test is less h =
    subst (λ (x : OperandValue). IsTrue test ↔ (x.position ≡ position)) (is ∙ get_or_default operands k o no_operand less) h

pub loop-k-init : goal.loop-k-init
loop-k-init g c = λ env h j less at. absurd (omega (arith, less))

pub loop-k-preserved-then-not-is_at : goal.loop-k-preserved-then-not-is_at
loop-k-preserved-then-not-is_at g c = λ env h.
    fine_more env c.args.at.now.operands.now c.args.at.now.places.now c.args.position
    (λ (p : Place) (v : VirtualRegister). facts_now c.args.values.now p v ≡ true) c.loop-k.k (c.loop-k.invariant env h)
    (λ at. absurd (not_so _ _ (is_at-operand c.args.at.now.operands.now c.loop-k.k c.index-operands-k.result c.args.position c.is_at.result c.index-operands-k.is c.loop-k-test.true
    c.is_at.ensures.same) c.if-not-is_at.true at))

pub returns-then-is_some : goal.returns-then-is_some
returns-then-is_some g c = λ env h.
    judged_some env c.args.at.now.inst c.args.at.now.operands.now c.args.at.now.places.now c.args.position
    (λ (p : Place) (v : VirtualRegister). facts_now c.args.values.now p v ≡ true) c.loop-k.k c.in_ok-fault.fault (sym c.if-is_some.ensures)
    c.loop-k-test.true ((is_at-operand c.args.at.now.operands.now c.loop-k.k c.index-operands-k.result c.args.position c.is_at.result c.index-operands-k.is c.loop-k-test.true
    c.is_at.ensures.same).0 c.if-not-is_at.false) (c.loop-k.invariant env h)
    (c.in_ok-fault.ensures env h)

pub loop-k-preserved : goal.loop-k-preserved
loop-k-preserved g c = λ env h.
    fine_more env c.args.at.now.operands.now c.args.at.now.places.now c.args.position
    (λ (p : Place) (v : VirtualRegister). facts_now c.args.values.now p v ≡ true) c.loop-k.k (c.loop-k.invariant env h)
    (λ at. fine_of _ _ c.in_ok-fault.fault (sym c.if-is_some.ensures) (c.in_ok-fault.ensures env h))

pub returns : goal.returns
returns g c = λ env h k less at. c.loop-k.invariant env h k (omega (arith, less, c.loop-k-test.false)) at

use Rattle.std.proofs.Common.{◌≡◌, sym}
use Rattle.std.specs.Prelude.{true}
use Rattle.regalloc2_names.specs.Register.{VirtualRegister}
use Rattle.regalloc2_names.specs.Place.{Place}
use Rattle.regalloc2_checker.specs.TableFacts.{facts_now}
use Rattle.regalloc2_checker.proofs.OperandErrors.{operand_is, is_there, missing_at, value_at, constraint_at}
use Rattle.regalloc2_checker.proofs.check.check_operand.Goals as goal

pub returns-then-is_none : goal.returns-then-is_none
returns-then-is_none g c = λ env h.
    missing_at env c.args.at.now.inst c.args.at.now.operands.now c.args.at.now.places.now (λ (p : Place) (v : VirtualRegister). facts_now c.args.values.now p v
    ≡ true)
    c.args.k c.index-operands-k.result c.place_at-place.result
    (operand_is c.args.at.now.operands.now c.args.k c.index-operands-k.result c.requires c.index-operands-k.is) c.place_at-place.ensures (sym
    c.if-is_none.ensures)

pub returns-then-is_some : goal.returns-then-is_some
returns-then-is_some g c = λ env h.
    value_at env c.args.at.now.inst c.args.at.now.operands.now c.args.at.now.places.now (λ (p : Place) (v : VirtualRegister). facts_now c.args.values.now p v ≡
    true)
    c.args.k c.index-operands-k.result c.place_at-place.result
    (operand_is c.args.at.now.operands.now c.args.k c.index-operands-k.result c.requires c.index-operands-k.is) c.place_at-place.ensures c.in_ok-fault.fault
    (sym c.if-is_some.ensures) (is_there _ (sym c.if-is_none.ensures)) c.in_ok-fault.ensures

pub returns : goal.returns
returns g c = λ env h.
    constraint_at env c.args.at.now.inst c.args.at.now.operands.now c.args.at.now.places.now
    (λ (p : Place) (v : VirtualRegister). facts_now c.args.values.now p v ≡ true) c.args.k c.index-operands-k.result c.place_at-place.result
    (operand_is c.args.at.now.operands.now c.args.k c.index-operands-k.result c.requires c.index-operands-k.is) c.place_at-place.ensures c.in_ok-fault.fault
    c.check_constraint.result (sym c.if-is_some.ensures) (is_there _ (sym c.if-is_none.ensures))
    c.in_ok-fault.ensures (c.check_constraint.ensures env h (is_there _ (sym c.if-is_none.ensures)))

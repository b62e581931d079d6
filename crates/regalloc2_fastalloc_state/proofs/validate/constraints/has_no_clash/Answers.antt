use Rattle.std.proofs.Common.{ℕ, ◌<◌, List, length, subst}
use Rattle.std.specs.Prelude.{◌↔◌, IsTrue}
use Rattle.regalloc2_names.specs.Operand.{OperandValue}
use Rattle.regalloc2_names.specs.declared.sets.PRegSet.{PRegSet}
use Rattle.regalloc2_function.specs.FunctionValue.{InstValue, inst_at, op_at}
use Rattle.regalloc2_function.specs.WellFormed.{AvoidsClobbers, IsReused}
use Rattle.regalloc2_fastalloc_state.proofs.validate.constraints.has_no_clash.Goals as goal

pub inst_operands-requires : goal.inst_operands-requires
inst_operands-requires g c = c.requires

pub inst_clobbers-requires : goal.inst_clobbers-requires
inst_clobbers-requires g c = c.requires

pub returns : goal.returns
returns g c =
    let i : InstValue = inst_at (g.F.Function.function c.args.f.now) c.args.inst in
    let test : PRegSet → List OperandValue → Type 0 = λ clobbers operands.
    IsTrue c.all_avoid_clobbers.result ↔ ((k : ℕ) → k < length operands → AvoidsClobbers clobbers (op_at operands k) (IsReused operands k)) in
    subst (λ (cs : PRegSet). test cs i.operands) c.inst_clobbers.ensures
    (subst (λ (os : List OperandValue). test c.inst_clobbers.result os) c.inst_operands.ensures c.all_avoid_clobbers.ensures)

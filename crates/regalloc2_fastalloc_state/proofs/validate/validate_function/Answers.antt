use Rattle.std.proofs.Common.{sym, subst}
use Rattle.std.proofs.lemmas.Result.{IfErr-weaker, err_from_is_err_and}
use Rattle.regalloc2_function.specs.FunctionValue.{FunctionValue}
use Rattle.regalloc2_function.specs.Machine.{MachineValue}
use Rattle.regalloc2_function.specs.Views.{machine_of}
use Rattle.regalloc2_function.specs.Reasons.{IsFunctionFault}
use Rattle.regalloc2_fastalloc_state.specs.Validate.Constraints.{IsFixedFault}
use Rattle.regalloc2_fastalloc_state.proofs.ValidateLemmas.ValidatedProof.{tested_on_ok, shape_fault, soundness_fault, fixed_fault}
use Rattle.regalloc2_fastalloc_state.proofs.validate.validate_function.Goals as goal

pub returns-in_err-test_shape-clause-refused : goal.returns-in_err-test_shape-clause-refused
returns-in_err-test_shape-clause-refused g c =
    let f : FunctionValue = g.F.Function.function c.args.f.now in
    let env : MachineValue = machine_of c.args.env.now in
    let p = err_from_is_err_and c.from_residual.result c.from_residual.ensures.1 in
    rw p.1 (subst (IsFunctionFault f env) (sym p.2) (shape_fault f env _ c.in_err-test_shape.ensures.err))

pub returns-in_err-test_soundness-clause-refused : goal.returns-in_err-test_soundness-clause-refused
returns-in_err-test_soundness-clause-refused g c =
    let f : FunctionValue = g.F.Function.function c.args.f.now in
    let env : MachineValue = machine_of c.args.env.now in
    let p = err_from_is_err_and c.from_residual-in_err-test_soundness.result c.from_residual-in_err-test_soundness.ensures.1 in
    rw p.1 (subst (IsFunctionFault f env) (sym p.2) (soundness_fault f env _ c.in_ok-test_shape.ensures.ok c.in_err-test_soundness.ensures.refused))

pub returns-clause-ok : goal.returns-clause-ok
returns-clause-ok g c = tested_on_ok (g.F.Function.function c.args.f.now) (machine_of c.args.env.now) c.validate_fixed.result c.in_ok-test_shape.ensures.ok
    c.in_ok-test_soundness.ensures.sound c.validate_fixed.ensures.reuses c.validate_fixed.ensures.fixed

pub returns-clause-refused : goal.returns-clause-refused
returns-clause-refused g c =
    let f : FunctionValue = g.F.Function.function c.args.f.now in
    let env : MachineValue = machine_of c.args.env.now in
    IfErr-weaker c.validate_fixed.result (IsFixedFault f env) (IsFunctionFault f env)
    (fixed_fault f env c.in_ok-test_shape.ensures.ok c.in_ok-test_soundness.ensures.sound) c.validate_fixed.ensures.refused

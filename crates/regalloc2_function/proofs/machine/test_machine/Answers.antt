use Rattle.std.proofs.lemmas.Result.{IfOk-weaker, err_from_is_err_and}
use Rattle.regalloc2_function.specs.Fitting.{ClassFits, MachineFits}
use Rattle.regalloc2_function.specs.Misfit.{IsMisfit}
use Rattle.regalloc2_function.specs.Views.{machine_of}
use Rattle.regalloc2_function.specs.declared.misfit.MachineMisfit.TheVariants.{InvalidSlot}
use Rattle.regalloc2_function.proofs.Misfits.{always, denies, misfit_fails}
use Rattle.regalloc2_function.proofs.Tests.{by_class}
use Rattle.regalloc2_function.proofs.machine.test_machine.Goals as goal

pub returns-then-has_invalid_slot-clause-err : goal.returns-then-has_invalid_slot-clause-err
returns-then-has_invalid_slot-clause-err g c = misfit_fails (g.F.Function.function c.args.f.now) (machine_of c.args.env.now) InvalidSlot
    c.if-has_invalid_slot.ensures.some

pub returns-in_err-test_class-clause-err : goal.returns-in_err-test_class-clause-err
returns-in_err-test_class-clause-err g c =
    let f = g.F.Function.function c.args.f.now in
    let env = machine_of c.args.env.now in
    always c.from_residual.result (MachineFits f env → ⊥) (misfit_fails f env c.in_err-test_class.field-0.0 c.in_err-test_class.ensures.misfit)

pub returns-in_err-test_class-2-clause-err : goal.returns-in_err-test_class-2-clause-err
returns-in_err-test_class-2-clause-err g c =
    let f = g.F.Function.function c.args.f.now in
    let env = machine_of c.args.env.now in
    always c.from_residual-in_err-test_class-2.result (MachineFits f env → ⊥)
    (misfit_fails f env c.in_err-test_class-2.field-0.0 c.in_err-test_class-2.ensures.misfit)

pub returns-clause-ok : goal.returns-clause-ok
returns-clause-ok g c =
    let f = g.F.Function.function c.args.f.now in
    let env = machine_of c.args.env.now in
    IfOk-weaker c.test_class-3.result _ (λ _. MachineFits f env) (λ _ last. by_class (ClassFits f env) c.in_ok-test_class.ensures.ok
    c.in_ok-test_class-2.ensures.ok last) c.test_class-3.ensures.ok

pub returns-clause-err : goal.returns-clause-err
returns-clause-err g c =
    let f = g.F.Function.function c.args.f.now in
    let env = machine_of c.args.env.now in
    denies c.test_class-3.result (MachineFits f env) (IsMisfit f env) c.test_class-3.ensures.misfit (misfit_fails f env)

pub returns-then-has_invalid_slot-clause-misfit : goal.returns-then-has_invalid_slot-clause-misfit
returns-then-has_invalid_slot-clause-misfit g c = c.if-has_invalid_slot.ensures.some

pub test_class-requires-clause-valid : goal.test_class-requires-clause-valid
test_class-requires-clause-valid g c = c.if-has_invalid_slot.ensures.none

pub test_class-requires-clause-before : goal.test_class-requires-clause-before
test_class-requires-clause-before g c = c.if-has_invalid_slot.ensures.none

pub returns-in_err-test_class-clause-misfit : goal.returns-in_err-test_class-clause-misfit
returns-in_err-test_class-clause-misfit g c =
    let p = err_from_is_err_and c.from_residual.result c.from_residual.ensures.1 in rw (p.1, p.2) c.in_err-test_class.ensures.misfit

pub test_class-requires-2-clause-valid : goal.test_class-requires-2-clause-valid
test_class-requires-2-clause-valid g c = c.if-has_invalid_slot.ensures.none

pub test_class-requires-2-clause-before : goal.test_class-requires-2-clause-before
test_class-requires-2-clause-before g c = c.in_ok-test_class.ensures.ok

pub returns-in_err-test_class-2-clause-misfit : goal.returns-in_err-test_class-2-clause-misfit
returns-in_err-test_class-2-clause-misfit g c =
    let p = err_from_is_err_and c.from_residual-in_err-test_class-2.result c.from_residual-in_err-test_class-2.ensures.1 in rw (p.1, p.2) c.in_err-test_class-2.ensures.misfit

pub test_class-requires-3-clause-valid : goal.test_class-requires-3-clause-valid
test_class-requires-3-clause-valid g c = c.if-has_invalid_slot.ensures.none

pub test_class-requires-3-clause-before : goal.test_class-requires-3-clause-before
test_class-requires-3-clause-before g c = (c.in_ok-test_class.ensures.ok, c.in_ok-test_class-2.ensures.ok)

pub returns-clause-misfit : goal.returns-clause-misfit
returns-clause-misfit g c = c.test_class-3.ensures.misfit

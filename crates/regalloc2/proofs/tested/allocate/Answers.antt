use Rattle.regalloc2_function.specs.Views.{machine_of}
use Rattle.regalloc2.proofs.AllocateErrorReasons.{no_allocate_fault, allocate_reason}
use Rattle.regalloc2.proofs.tested.allocate.Goals as goal

pub returns-in-Err-run_checked-clause-accepted : goal.returns-in-Err-run_checked-clause-accepted
returns-in-Err-run_checked-clause-accepted g c = λ written. rw c.error_from.ensures
    (no_allocate_fault c.in-Err-run_checked.error (c.in-Err-run_checked.ensures.accepted written))

pub returns-in-Err-run_checked-clause-refused : goal.returns-in-Err-run_checked-clause-refused
returns-in-Err-run_checked-clause-refused g c =
    rw c.error_from.ensures (allocate_reason (g.F.Function.function c.args.f.now) (machine_of c.args.env.now) c.in-Err-run_checked.error c.in_default.ensures.ok
    c.in-Err-run_checked.ensures.refused)

use Rattle.std.proofs.Common.{inl, subst, sym}
use Rattle.regalloc2.specs.Views.{machine_of}
use Rattle.regalloc2_serialize.specs.Tables.{function_of_serializable}
use Rattle.regalloc2_c.specs.Outcome.{IsJsonOf, NumbersName, NumbersNameNone, IsAllocatedOutput, IsAllocateFailure}
use Rattle.regalloc2_c.proofs.Outcomes.{comes_to}
use Rattle.regalloc2_c.proofs.calls.allocated_of_json.Goals as goal

pub returns-in-Ok : goal.returns-in-Ok
returns-in-Ok c =
    comes_to (NumbersName (IsJsonOf c.args.bytes.now)) (NumbersNameNone (IsJsonOf c.args.bytes.now) 0) IsAllocatedOutput IsAllocateFailure (function_of_serializable c.in-Ok.f) (machine_of c.machine_env.result.now)
    (subst (λ m. (NumbersName (IsJsonOf c.args.bytes.now)) (function_of_serializable c.in-Ok.f) m) (sym c.machine_env.ensures) c.in-Ok.ensures.ok)
    c.allocated.result c.allocated.ensures.ok c.allocated.ensures.err

pub returns-in-Err : goal.returns-in-Err
returns-in-Err c = inl c.in-Err.ensures.err

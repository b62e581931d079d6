use Rattle.std.proofs.Common.{subst, sym}
use Rattle.regalloc2.specs.Views.{machine_of, output_of}
use Rattle.regalloc2_serialize.specs.Flat.Flat.{output_words}
use Rattle.regalloc2_c.specs.Outcome.{IsAllocatedOutput, IsAllocateFailure}
use Rattle.regalloc2_c.proofs.Outcomes.{allocated_words, refused_as, unaccepted, unlisted}
use Rattle.regalloc2_c.proofs.calls.allocated.Goals as goal

pub checked-requires : goal.checked-requires
checked-requires g c =
    let ok = c.in-Ok.ensures.tested in
    record { framed = record { successors = ok.successors; follow = ok.follow; end = ok.end; counted = ok.counted } }

pub returns-in-Err-clause-err : goal.returns-in-Err-clause-err
returns-in-Err-clause-err g c =
    subst (λ e. IsAllocateFailure (g.F.Function.function c.args.f.now) (machine_of c.args.env.now) e) (sym c.failure_of.ensures)
    (refused_as (g.F.Function.function c.args.f.now) (machine_of c.args.env.now) c.in-Err.error c.in-Err.ensures.refused)

pub returns-in-Err-checked-clause-err : goal.returns-in-Err-checked-clause-err
returns-in-Err-checked-clause-err g c =
    unaccepted (g.F.Function.function c.args.f.now) (machine_of c.args.env.now) (output_of c.in-Ok.output) c.in-Err-checked.failure c.in-Ok.ensures.allocation
    c.in-Err-checked.ensures.err

pub returns-in-Ok-words_of-clause-ok : goal.returns-in-Ok-words_of-clause-ok
returns-in-Ok-words_of-clause-ok g c =
    subst (λ words. IsAllocatedOutput (g.F.Function.function c.args.f.now) (machine_of c.args.env.now) words) (sym c.in-Ok-words_of.ensures.ok)
    (allocated_words (g.F.Function.function c.args.f.now) (machine_of c.args.env.now) (output_of c.in-Ok.output) c.in-Ok-stored.numbers c.in-Ok.ensures.fitting
    c.in-Ok.ensures.tested c.in-Ok.ensures.passes_checks c.in-Ok.ensures.allocation c.in-Ok-checked.ensures.ok.1 c.in-Ok-stored.ensures.output c.in-Ok-stored.ensures.names)

pub returns-clause-err : goal.returns-clause-err
returns-clause-err g c =
    subst (λ e. IsAllocateFailure (g.F.Function.function c.args.f.now) (machine_of c.args.env.now) e) (sym c.failure_to_write.ensures)
    (unlisted (g.F.Function.function c.args.f.now) (machine_of c.args.env.now) (output_words c.in-Ok-stored.numbers)
    (allocated_words (g.F.Function.function c.args.f.now) (machine_of c.args.env.now) (output_of c.in-Ok.output) c.in-Ok-stored.numbers c.in-Ok.ensures.fitting
    c.in-Ok.ensures.tested c.in-Ok.ensures.passes_checks c.in-Ok.ensures.allocation c.in-Ok-checked.ensures.ok.1 c.in-Ok-stored.ensures.output c.in-Ok-stored.ensures.names) c.in-Err-words_of.fault
    c.in-Err-words_of.ensures.limit)

use Rattle.std.proofs.Common.{subst, sym}
use Rattle.regalloc2.specs.Views.{machine_of, output_of}
use Rattle.regalloc2_serialize.specs.Flat.Flat.{output_words}
use Rattle.regalloc2_c.specs.Outcome.{IsTestedOutput, IsRunFailure}
use Rattle.regalloc2_c.proofs.Outcomes.{tested_words, untested_as, untested_unlisted}
use Rattle.regalloc2_c.proofs.calls.tested.Goals as goal

pub returns-in-Err-clause-err : goal.returns-in-Err-clause-err
returns-in-Err-clause-err g c =
    subst (λ e. IsRunFailure (g.F.Function.function c.args.f.now) (machine_of c.args.env.now) e) (sym c.failure_of_run.ensures)
    (untested_as (g.F.Function.function c.args.f.now) (machine_of c.args.env.now) c.in-Err.error c.in-Err.ensures.refused)

pub returns-in-Ok-words_of-clause-ok : goal.returns-in-Ok-words_of-clause-ok
returns-in-Ok-words_of-clause-ok g c =
    subst (λ words. IsTestedOutput (g.F.Function.function c.args.f.now) (machine_of c.args.env.now) words) (sym c.in-Ok-words_of.ensures.ok)
    (tested_words (g.F.Function.function c.args.f.now) (machine_of c.args.env.now) (output_of c.in-Ok.output) c.in-Ok-stored.numbers c.in-Ok.ensures.fitting
    c.in-Ok.ensures.tested c.in-Ok.ensures.passes_checks c.in-Ok.ensures.runs c.in-Ok.ensures.live c.in-Ok.ensures.written c.in-Ok-stored.ensures.output c.in-Ok-stored.ensures.names)

pub returns-clause-err : goal.returns-clause-err
returns-clause-err g c =
    subst (λ e. IsRunFailure (g.F.Function.function c.args.f.now) (machine_of c.args.env.now) e) (sym c.failure_to_write.ensures)
    (untested_unlisted (g.F.Function.function c.args.f.now) (machine_of c.args.env.now) (output_words c.in-Ok-stored.numbers)
    (tested_words (g.F.Function.function c.args.f.now) (machine_of c.args.env.now) (output_of c.in-Ok.output) c.in-Ok-stored.numbers c.in-Ok.ensures.fitting
    c.in-Ok.ensures.tested c.in-Ok.ensures.passes_checks c.in-Ok.ensures.runs c.in-Ok.ensures.live c.in-Ok.ensures.written c.in-Ok-stored.ensures.output c.in-Ok-stored.ensures.names)
    c.in-Err-words_of.fault c.in-Err-words_of.ensures.limit)

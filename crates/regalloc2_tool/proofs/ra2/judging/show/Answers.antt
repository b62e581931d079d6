use Rattle.std.proofs.Common.{rules}
use Rattle.regalloc2_function.proofs.Following.{end_within}
use Rattle.regalloc2_function.specs.Views.{output_of}
use Rattle.regalloc2_tool.specs.Ra2.Outcome.{refused}
use Rattle.regalloc2_tool.proofs.Ra2Lemmas.Outcomes.{check_outcome}
use Rattle.regalloc2_tool.proofs.ra2.judging.show.Goals as goal

pub write_listing-requires-clause-blocks : goal.write_listing-requires-clause-blocks
write_listing-requires-clause-blocks g c =
    let tested = c.in-Ok.ensures.tested in
    λ b less. ((tested.follow b less).0, end_within (g.F.Function.function c.args.f.now) tested.follow b less)

pub returns-in-Ok : goal.returns-in-Ok
returns-in-Ok g c = check_outcome _ _ _ _ (output_of c.in-Ok.output) _ _ _ c.judge.result c.in-Check.is
    (record { well_formed = c.in-Ok.ensures.tested; allocation = c.in-Ok.ensures.allocation }) c.in_ok-write_listing-in-Ok.ensures c.judge.ensures

pub returns : goal.returns
returns g c = refused c.in-Err.error c.in-Err.ensures.refused (search rules)

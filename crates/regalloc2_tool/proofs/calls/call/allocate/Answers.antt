use Rattle.std.proofs.Common.{refl}
use Rattle.regalloc2_function.proofs.Following.{end_within}
use Rattle.regalloc2_function.specs.Views.{output_of}
use Rattle.regalloc2_tool.proofs.Accepting.{accepted_more}
use Rattle.regalloc2_tool.proofs.calls.call.allocate.Goals as goal

pub run-requires-clause-machine : goal.run-requires-clause-machine
run-requires-clause-machine g c = c.if-not-machine_fits.ensures.0 refl

pub show-requires-clause-blocks : goal.show-requires-clause-blocks
show-requires-clause-blocks g c =
    let tested = c.in-Ok.ensures.tested in
    λ b less. ((tested.follow b less).0, end_within (g.F.Function.function c.args.f.now) tested.follow b less)

pub returns-in-Ok : goal.returns-in-Ok
returns-in-Ok g c =
    accepted_more c.show.result (λ it. (
      output_of c.in-Ok.output,
      record {
        fitting = c.if-not-machine_fits.ensures.0 refl;
        well_formed = c.in-Ok.ensures.tested;
        passes_checks = c.in-Ok.ensures.passes_checks;
        allocation = c.in-Ok.ensures.allocation;
      },
      it,
    )) c.show.ensures

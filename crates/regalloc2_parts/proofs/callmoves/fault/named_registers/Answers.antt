use Rattle.std.proofs.Common.{ap, ◌∙◌}
use Rattle.std.specs.Prelude.{◌||◌}
use Rattle.regalloc2_names.specs.Place.{Place, InRegister, is_place}
use Rattle.regalloc2_names.specs.Register.{has_register}
use Rattle.regalloc2_parts.proofs.CallmovesLemmas.CallPlaces.{named_more}
use Rattle.regalloc2_parts.proofs.callmoves.fault.named_registers.Goals as goal

pub loop-at-preserved : goal.loop-at-preserved
loop-at-preserved c =
    named_more c.args.moves.now c.loop-at.at c.loop-at.named c.add_place.new.set c.add_place-in-loop-at.new.set c.loop-at.invariant
    (λ r. c.add_place.ensures r ∙ ap (λ (p : Place). is_place p (InRegister r) || has_register c.loop-at.named r) c.source_at.ensures)
    (λ r. c.add_place-in-loop-at.ensures r ∙ ap (λ (p : Place). is_place p (InRegister r) || has_register c.add_place.new.set r) c.target_at.ensures)

use Rattle.std.proofs.Common.{arith, ◌∙◌}
use Rattle.std.proofs.lemmas.List.{length-map}
use Rattle.regalloc2_checker_sets.proofs.homes.Homes.new.Goals as goal

pub returns : goal.returns
returns g c = length-map c.in_ok-vec.field-0.items _ ∙ omega (arith, c.in_ok-vec.ensures.len, c.in_ok-vec.field-0.ok.0)

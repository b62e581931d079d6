use Rattle.std.proofs.Common.{sym, ◌∙◌}
use Rattle.regalloc2_checker_sets.proofs.sets.Sets.two.Goals as goal

pub returns : goal.returns
returns g c p e y = sym (c.kept.ensures y) ∙ c.two.ensures p e y

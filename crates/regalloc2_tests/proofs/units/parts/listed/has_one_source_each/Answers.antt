use Rattle.regalloc2_tests.proofs.Rising.{sources_permuted}
use Rattle.regalloc2_tests.proofs.units.parts.listed.has_one_source_each.Goals as goal

pub returns : goal.returns
returns c = λ yes. sources_permuted _ _ c.sort_unstable_by_key.ensures.permutation (c.list_rises.ensures yes)

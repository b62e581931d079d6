use Rattle.std.proofs.Common.{◌-◌, ◌^◌}
use Rattle.regalloc2_text.proofs.explain.write_search.Search.run.Given as goal

abbrev pub decreases-loop-index : goal.decreases-loop-index
decreases-loop-index l = 2 ^ 64 - l.index

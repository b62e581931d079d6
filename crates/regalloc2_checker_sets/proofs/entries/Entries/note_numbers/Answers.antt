use Rattle.std.proofs.Common.{◌∙◌}
use Rattle.regalloc2_checker_sets.proofs.entries.Entries.note_numbers.Goals as goal

pub returns-clause-long : goal.returns-clause-long
returns-clause-long g c = c.note_all-2.ensures.long ∙ c.note_all.ensures.long

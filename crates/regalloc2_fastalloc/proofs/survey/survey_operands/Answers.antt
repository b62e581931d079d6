use Rattle.std.proofs.Common.{rules}
use Rattle.regalloc2_fastalloc.specs.Survey.IsSurveyError.{out_of_memory, uncounted}
use Rattle.regalloc2_fastalloc.proofs.survey.survey_operands.Goals as goal

pub returns-then-is_none-clause-err : goal.returns-then-is_none-clause-err
returns-then-is_none-clause-err g c = uncounted (search rules)

pub returns-clause-err : goal.returns-clause-err
returns-clause-err g c = out_of_memory (search rules)

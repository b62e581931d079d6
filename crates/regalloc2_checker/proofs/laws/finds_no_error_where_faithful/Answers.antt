use Rattle.regalloc2_checker.proofs.NoErrorsIsFaithful.{report_verdict}
use Rattle.regalloc2_checker.proofs.laws.finds_no_error_where_faithful.Goals as goal

pub returns : goal.returns
returns g c = report_verdict

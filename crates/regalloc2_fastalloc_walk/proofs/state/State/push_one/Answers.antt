use Rattle.std.proofs.Common.{refl, ap, ◌∙◌}
use Rattle.std.specs.Prelude.{Err}
use Rattle.std.proofs.lemmas.Result.{err_from_is_err_and}
use Rattle.regalloc2_fastalloc_walk.proofs.state.State.push_one.Goals as goal

pub push-requires : goal.push-requires
push-requires g c = c.requires

pub push-requires-2 : goal.push-requires-2
push-requires-2 g c = c.push.ensures.later

pub returns-clause-later : goal.returns-clause-later
returns-clause-later g c = c.push-2.ensures.later

pub returns-clause-rest : goal.returns-clause-rest
returns-clause-rest g c = refl

pub returns-in_err-push-clause-later : goal.returns-in_err-push-clause-later
returns-in_err-push-clause-later g c = c.push.ensures.later

pub returns-in_err-push-clause-rest : goal.returns-in_err-push-clause-rest
returns-in_err-push-clause-rest g c = refl

pub returns-in_err-push-clause-err : goal.returns-in_err-push-clause-err
returns-in_err-push-clause-err g c =
    let e = err_from_is_err_and c.from_residual.result c.from_residual.ensures.1 in
    rw (e.1 ∙ ap Err (e.2 ∙ c.in_err-push.ensures.err)) refl

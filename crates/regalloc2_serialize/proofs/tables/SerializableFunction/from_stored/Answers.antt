use Rattle.std.proofs.Common.{sym, subst, Result, Ok, Err}
use Rattle.std.specs.Result.{IfOk}
use Rattle.std.proofs.lemmas.Result.{IfOk-from_err, IfErr-weaker, err_from_is_err_and}
use Rattle.regalloc2_serialize.specs.Validity.{IsFaultOf}
use Rattle.regalloc2_serialize.proofs.tables.SerializableFunction.from_stored.Goals as goal

if-ok-holds : {T E P : Type 0} (r : Result T E) → P → IfOk r (λ _. P)
if-ok-holds (Ok _) p = p
if-ok-holds (Err _) p = tt

pub function_from-requires : goal.function_from-requires
function_from-requires g c = c.in_ok-test.ensures.ok

pub returns : goal.returns
returns g c =
    let r = c.function_from.result in
    let sound = c.in_ok-test.ensures.ok in
    record {
      function = c.function_from.ensures.function;
      machine = c.function_from.ensures.machine;
      sound = if-ok-holds r sound;
      refused = IfErr-weaker r _ _ (λ e is. subst (IsFaultOf c.args.stored.now) (sym is) sound) c.function_from.ensures.memory;
    }

pub returns-in_err-test : goal.returns-in_err-test
returns-in_err-test g c =
    let r = c.from_residual.result in
    let p = err_from_is_err_and r c.from_residual.ensures.1 in
    record {
      function = IfOk-from_err r _ c.from_residual.ensures.0;
      machine = IfOk-from_err r _ c.from_residual.ensures.0;
      sound = IfOk-from_err r _ c.from_residual.ensures.0;
      refused = rw p.1 (subst (IsFaultOf c.args.stored.now) (sym p.2) c.in_err-test.ensures.refused);
    }

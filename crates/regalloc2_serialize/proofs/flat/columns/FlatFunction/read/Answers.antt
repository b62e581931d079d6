use Rattle.std.proofs.Common.{sym, subst, Result, Ok, Err}
use Rattle.std.specs.Result.{IfOk}
use Rattle.std.proofs.lemmas.Result.{IfOk-from_err, IfErr-weaker, err_from_is_err_and}
use Rattle.regalloc2_function.specs.Views.{machine_of}
use Rattle.regalloc2_serialize.specs.Flat.Columns.Kept.{function_of_flat}
use Rattle.regalloc2_serialize.specs.Flat.Columns.Layout.{AreInColumns}
use Rattle.regalloc2_serialize.specs.Flat.Columns.Sound.{AreSoundColumns, IsColumnsFault}
use Rattle.regalloc2_serialize.specs.Flat.Columns.Value.{IsLaidOutAs, IsMachineOf}
use Rattle.regalloc2_serialize.proofs.flat.columns.FlatFunction.read.Goals as goal

if-ok-holds : {T E P : Type 0} (r : Result T E) → P → IfOk r (λ _. P)
if-ok-holds (Ok _) p = p
if-ok-holds (Err _) p = tt

pub test-requires : goal.test-requires
test-requires g c = subst AreInColumns (sym c.in-Some.ensures.1) c.in-Some.ensures.0

pub function_from-requires : goal.function_from-requires
function_from-requires g c = c.in_ok-test.ensures.ok

pub returns : goal.returns
returns g c =
    let same = c.in-Some.ensures.1 in
    let r = c.function_from.result in
    let sound = subst AreSoundColumns same c.in_ok-test.ensures.ok in
    record {
      function = subst (λ ws. IfOk r (λ f. IsLaidOutAs ws (function_of_flat f))) same c.function_from.ensures.function;
      machine = subst (λ ws. IfOk r (λ f. IsMachineOf ws (machine_of f.machine))) same c.function_from.ensures.machine;
      sound = if-ok-holds r sound;
      refused = IfErr-weaker r _ _ (λ e is. subst (IsColumnsFault c.args.words.now) (sym is) sound) c.function_from.ensures.memory;
    }

pub returns-in_err-test : goal.returns-in_err-test
returns-in_err-test g c =
    let same = c.in-Some.ensures.1 in
    let r = c.from_residual.result in
    let p = err_from_is_err_and r c.from_residual.ensures.1 in
    record {
      function = IfOk-from_err r _ c.from_residual.ensures.0;
      machine = IfOk-from_err r _ c.from_residual.ensures.0;
      sound = IfOk-from_err r _ c.from_residual.ensures.0;
      refused = rw p.1 (subst (IsColumnsFault c.args.words.now) (sym p.2)
          (subst (λ ws. IsColumnsFault ws c.in_err-test.field-0.0) same c.in_err-test.ensures.refused));
    }

pub returns-in_default : goal.returns-in_default
returns-in_default g c = record { function = tt; machine = tt; sound = tt; refused = c.in_default.ensures }

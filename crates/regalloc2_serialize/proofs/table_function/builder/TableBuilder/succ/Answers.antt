use Rattle.std.proofs.Common.{◌≡◌, ◌-◌, ◌∷◌, [], length, rules, refl, arith}
use Rattle.std.proofs.lemmas.List.{take_at}
use Rattle.std.proofs.lemmas.Result.{err_from_is_err_and}
use Rattle.regalloc2_serialize.specs.TableFunction.Draft.{draft_of}
use Rattle.regalloc2_serialize.proofs.TableFunctionLemmas.DraftLaws.{changed_at, same_at, more_succs}
use Rattle.regalloc2_serialize.proofs.table_function.builder.TableBuilder.succ.Goals as goal

pub returns-in_err-push-clause-unchanged : goal.returns-in_err-push-clause-unchanged
returns-in_err-push-clause-unchanged g c =
    let p = err_from_is_err_and c.from_residual-in_err-push.result c.from_residual-in_err-push.ensures.1 in
    let x = c.index_mut-draft.result.now in
    rw p.1 (same_at _ _ x (record x { succs = c.push.new.self }) c.index_mut-draft.ensures.value (rw c.in_err-push.ensures.items refl))

pub returns-in-Err-clause-unchanged : goal.returns-in-Err-clause-unchanged
returns-in-Err-clause-unchanged g c =
    let x = c.index_mut-draft.result.now in
    let all = c.in_ok-push.ensures.items in
    let long : c.push.new.self.len - 1 ≡ length x.succs.items = omega (arith, c.in_ok-push.ensures.len, x.succs.ok.0) in
    let back : c.pop.new.self.items ≡ x.succs.items = rw (c.pop.ensures.rest, all, long) (take_at x.succs.items (c.args.to ∷ []) (length x.succs.items) refl) in
    same_at _ _ x (record x { succs = c.pop.new.self; arguments = c.push-2.new.self }) c.index_mut-draft.ensures.value (rw (back, c.in-Err.ensures.items) refl)

pub returns-clause-ok : goal.returns-clause-ok
returns-clause-ok g c =
    let x = c.index_mut-draft.result.now in
    let same : c.in_ok-arguments.arguments.items ≡ c.args.arguments.now = search rules in
    rw c.index-2.ensures (changed_at _ c.args.block x (record x { succs = c.push.new.self; arguments = c.push-2.new.self }) _ (omega arith)
    (rw c.index-2.ensures at c.index_mut-draft.ensures.value)
    (rw same at (more_succs (draft_of x) x.succs.items c.push.new.self.items x.arguments.items c.push-2.new.self.items c.args.to c.in_ok-arguments.arguments
    refl refl c.in_ok-push.ensures.items c.in_default.ensures.items)))

pub returns-clause-err : goal.returns-clause-err
returns-clause-err g c = tt

pub returns-clause-unchanged : goal.returns-clause-unchanged
returns-clause-unchanged g c = tt

pub returns-in-Err-clause-err : goal.returns-in-Err-clause-err
returns-in-Err-clause-err g c = tt

pub returns-in-Err-clause-ok : goal.returns-in-Err-clause-ok
returns-in-Err-clause-ok g c = tt

pub returns-then-index-len-clause-ok : goal.returns-then-index-len-clause-ok
returns-then-index-len-clause-ok g c = tt

pub returns-then-index-len-clause-unchanged : goal.returns-then-index-len-clause-unchanged
returns-then-index-len-clause-unchanged g c = refl

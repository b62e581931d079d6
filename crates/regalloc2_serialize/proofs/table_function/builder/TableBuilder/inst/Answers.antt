use Rattle.std.proofs.Common.{refl, arith}
use Rattle.std.proofs.lemmas.Result.{err_from_is_err_and}
use Rattle.regalloc2_serialize.specs.TableFunction.Draft.{draft_of}
use Rattle.regalloc2_serialize.proofs.TableFunctionLemmas.DraftLaws.{changed_at, same_at, more_insts}
use Rattle.regalloc2_serialize.proofs.table_function.builder.TableBuilder.inst.Goals as goal

pub returns-in_err-push-clause-unchanged : goal.returns-in_err-push-clause-unchanged
returns-in_err-push-clause-unchanged g c =
    let p = err_from_is_err_and c.from_residual.result c.from_residual.ensures.1 in
    let x = c.index_mut.result.now in
    rw p.1 (same_at _ _ x (record x { insts = c.push.new.self }) c.index_mut.ensures.value (rw c.in_err-push.ensures.items refl))

pub returns-clause-ok : goal.returns-clause-ok
returns-clause-ok g c =
    let x = c.index_mut.result.now in
    rw c.index-2.ensures (changed_at _ c.args.block x (record x { insts = c.push.new.self }) _ (omega arith) (rw c.index-2.ensures at c.index_mut.ensures.value)
    (more_insts (draft_of x) x.insts.items c.push.new.self.items c.args.inst refl c.in_ok-push.ensures.items))

pub returns-clause-err : goal.returns-clause-err
returns-clause-err g c = tt

pub returns-clause-unchanged : goal.returns-clause-unchanged
returns-clause-unchanged g c = tt

pub returns-then-index-len-clause-ok : goal.returns-then-index-len-clause-ok
returns-then-index-len-clause-ok g c = tt

pub returns-then-index-len-clause-unchanged : goal.returns-then-index-len-clause-unchanged
returns-then-index-len-clause-unchanged g c = refl

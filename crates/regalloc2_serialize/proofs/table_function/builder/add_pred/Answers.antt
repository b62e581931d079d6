use Rattle.std.proofs.Common.{arith, refl}
use Rattle.regalloc2_serialize.proofs.TableFunctionLemmas.PredLaws.{pred_added}
use Rattle.regalloc2_serialize.proofs.table_function.builder.add_pred.Goals as goal

pub returns-clause-ok : goal.returns-clause-ok
returns-clause-ok g c =
    let x = c.index_mut.result.now in
    rw c.index-2.ensures (pred_added _ c.args.to c.args.pred x (record x { preds = c.push.new.self }) (omega arith)
    (rw c.index-2.ensures at c.index_mut.ensures.value) (rw c.in_ok-push.ensures.items refl))

use Rattle.std.proofs.Common.{◌+◌, ◌<◌, length, map, take, ap, sym, refl, arith}
use Rattle.std.proofs.lemmas.List.{append-nil, take_all}
use Rattle.std.proofs.lemmas.List.Elements.{All-nil}
use Rattle.std.proofs.lemmas.Result.{err_from_is_err_and}
use Rattle.regalloc2_serialize.specs.TableFunction.Table.{block_of_table}
use Rattle.regalloc2_serialize.specs.TableFunction.Built.{edges_to}
use Rattle.regalloc2_serialize.specs.TableFunction.Steps.{one_edge, succs_at}
use Rattle.regalloc2_serialize.proofs.TableFunctionLemmas.PredLaws.{succs_then, same_count, preds_both, edges_more, within_more, unadded_unlinked}
use Rattle.regalloc2_serialize.proofs.table_function.builder.link_one.Goals as goal

pub index-to-requires : goal.index-to-requires
index-to-requires g c =
    let here = succs_then c.args.blocks.now.items c.loop-k.blocks.items c.args.pred c.index-in-loop-k-2.result.now c.loop-k.invariant.linked.others
    (omega arith) (rw c.index-in-loop-k.ensures at c.index-in-loop-k-2.ensures) in
    omega (arith, ap length here, c.loop-k.invariant.all)

pub returns-in_err-add_pred-clause-err : goal.returns-in_err-add_pred-clause-err
returns-in_err-add_pred-clause-err g c =
    let p = err_from_is_err_and c.from_residual.result c.from_residual.ensures.1 in
    let here = succs_then c.args.blocks.now.items c.loop-k.blocks.items c.args.pred c.index-in-loop-k-2.result.now c.loop-k.invariant.linked.others
    (omega arith) (rw c.index-in-loop-k.ensures at c.index-in-loop-k-2.ensures) in
    rw (p.1, p.2) (unadded_unlinked _ _ _ c.loop-k.k c.index-to.result.now _ (omega (arith, c.loop-k.invariant.all)) (rw here at c.index-to.ensures)
    (same_count c.args.blocks.now.items c.loop-k.blocks.items c.loop-k.invariant.linked.others) c.in_err-add_pred.ensures.err)

pub loop-k-preserved : goal.loop-k-preserved
loop-k-preserved g c =
    let here = succs_then c.args.blocks.now.items c.loop-k.blocks.items c.args.pred c.index-in-loop-k-2.result.now c.loop-k.invariant.linked.others
    (omega arith) (rw c.index-in-loop-k.ensures at c.index-in-loop-k-2.ensures) in
    let succs = succs_at (map block_of_table c.args.blocks.now.items) c.args.pred in
    let less : c.loop-k.k < length succs = omega (arith, c.loop-k.invariant.all) in
    let is = rw here at c.index-to.ensures in
    let next = c.in_ok-add_pred.ensures.within in
    let long = same_count c.args.blocks.now.items c.loop-k.blocks.items c.loop-k.invariant.linked.others in
    record {
      linked = preds_both _ _ _ (λ b. edges_to b c.args.pred (take c.loop-k.k succs)) (one_edge c.index-to.result.now c.args.pred)
          (λ b. edges_to b c.args.pred (take (c.loop-k.k + 1) succs)) c.loop-k.invariant.linked c.in_ok-add_pred.ensures.ok
          (λ b. edges_more b c.args.pred succs c.loop-k.k c.index-to.result.now less is);
      within = within_more succs (length c.args.blocks.now.items) c.loop-k.k c.index-to.result.now less is (omega (arith, next, long))
          c.loop-k.invariant.within;
      all = c.loop-k.invariant.all;
    }

pub returns-in_err-add_pred-clause-ok : goal.returns-in_err-add_pred-clause-ok
returns-in_err-add_pred-clause-ok g c = rw (err_from_is_err_and c.from_residual.result c.from_residual.ensures.1).1 tt

pub returns-in_err-add_pred-clause-within : goal.returns-in_err-add_pred-clause-within
returns-in_err-add_pred-clause-within g c = rw (err_from_is_err_and c.from_residual.result c.from_residual.ensures.1).1 tt

pub returns-clause-ok : goal.returns-clause-ok
returns-clause-ok g c =
    let succs = succs_at (map block_of_table c.args.blocks.now.items) c.args.pred in
    rw (take_all c.loop-k.k succs (omega (arith, c.loop-k.invariant.all))) at c.loop-k.invariant.linked

pub returns-clause-within : goal.returns-clause-within
returns-clause-within g c =
    let succs = succs_at (map block_of_table c.args.blocks.now.items) c.args.pred in
    rw (take_all c.loop-k.k succs (omega (arith, c.loop-k.invariant.all))) at c.loop-k.invariant.within

pub loop-k-init : goal.loop-k-init
loop-k-init g c =
    let here = succs_then c.args.blocks.now.items c.args.blocks.now.items c.args.pred c.index-2.result.now refl (omega arith)
    (rw c.index.ensures at c.index-2.ensures) in
    record {
      linked = record { others = refl; preds = λ b l. sym (append-nil _) };
      within = All-nil (λ s. s < length c.args.blocks.now.items);
      all = omega (arith, ap length here, c.len-k-end.ensures, c.index-2.result.now.succs.ok.0);
    }

pub returns-clause-err : goal.returns-clause-err
returns-clause-err g c = tt

pub index-requires-2 : goal.index-requires-2
index-requires-2 g c = rw c.index.ensures c.requires

pub index-requires-in-loop-k-2 : goal.index-requires-in-loop-k-2
index-requires-in-loop-k-2 g c =
    let long = same_count c.args.blocks.now.items c.loop-k.blocks.items c.loop-k.invariant.linked.others in
    omega (arith, long, c.index-in-loop-k.ensures, c.requires, c.args.blocks.now.ok.0, c.loop-k.blocks.ok.0)

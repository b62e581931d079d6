use Rattle.serde_json.specs.View.{view}
use Rattle.regalloc2_serialize.specs.JsonShape.{AreListsAt}
use Rattle.regalloc2_serialize.proofs.EncodedLists.{plain-read, lists-read, nested-read, refused, not-part}
use Rattle.regalloc2_serialize.proofs.json_outputs.lists_from.Goals as goal

pub returns-clause-ok : goal.returns-clause-ok
returns-clause-ok g c = record {
  blocks = plain-read _ c.in_ok-blocks.blocks.items c.in_ok-blocks.ensures.ok;
  preds = lists-read (λ l. l.items) _ c.in_ok-preds.preds.items c.in_ok-preds.ensures.ok;
  succs = lists-read (λ l. l.items) _ c.in_ok-succs.succs.items c.in_ok-succs.ensures.ok;
  params_in = lists-read (λ l. l.items) _ c.in_ok-params_in.params_in.items c.in_ok-params_in.ensures.ok;
  params_out = nested-read (λ l. l.items) (λ k. k.items) _ c.in_ok-params_out.params_out.items c.in_ok-params_out.ensures.ok;
}

pub returns-in_err-blocks : goal.returns-in_err-blocks
returns-in_err-blocks g c =
    not-part (AreListsAt (view c.args.value.now)) c.from_residual.result _ c.from_residual.ensures.1 (refused _ _ (λ has. has.blocks) c.in_err-blocks.ensures.shape c.in_err-blocks.ensures.faults)

pub returns-in_err-preds : goal.returns-in_err-preds
returns-in_err-preds g c =
    not-part (AreListsAt (view c.args.value.now)) c.from_residual-in_err-preds.result _ c.from_residual-in_err-preds.ensures.1 (refused _ _ (λ has. has.preds) c.in_err-preds.ensures.shape c.in_err-preds.ensures.faults)

pub returns-in_err-succs : goal.returns-in_err-succs
returns-in_err-succs g c =
    not-part (AreListsAt (view c.args.value.now)) c.from_residual-in_err-succs.result _ c.from_residual-in_err-succs.ensures.1 (refused _ _ (λ has. has.succs) c.in_err-succs.ensures.shape c.in_err-succs.ensures.faults)

pub returns-in_err-params_in : goal.returns-in_err-params_in
returns-in_err-params_in g c =
    not-part (AreListsAt (view c.args.value.now)) c.from_residual-in_err-params_in.result _ c.from_residual-in_err-params_in.ensures.1 (refused _ _ (λ has. has.params_in) c.in_err-params_in.ensures.shape c.in_err-params_in.ensures.faults)

pub returns-in_err-params_out : goal.returns-in_err-params_out
returns-in_err-params_out g c =
    not-part (AreListsAt (view c.args.value.now)) c.from_residual-in_err-params_out.result _ c.from_residual-in_err-params_out.ensures.1 (refused _ _ (λ has. has.params_out) c.in_err-params_out.ensures.shape c.in_err-params_out.ensures.faults)

use Rattle.std.proofs.Common.{length, sym, ap, ◌∙◌, arith, append_assoc}
use Rattle.std.proofs.lemmas.List.{length-map, map-id}
use Rattle.std.proofs.lemmas.Result.{err_from_is_err_and}
use Rattle.std.proofs.lemmas.Iterator.Adapters.{YieldsList-from_vec}
use Rattle.std.proofs.lemmas.Iterator.Consumers.{YieldsList-end}
use Rattle.std.specs.Vec.Iter.{into_iter_items}
use Rattle.regalloc2_serialize.specs.TableFunction.Table.{inst_of_table}
use Rattle.regalloc2_serialize.proofs.TableFunctionLemmas.BuiltLaws.{blocks_more, insts_more, insts_within, unplaced_more}
use Rattle.regalloc2_serialize.proofs.table_function.builder.lay_out.Goals as goal

pub loop-draft-preserved : goal.loop-draft-preserved
loop-draft-preserved g c = record {
  left = rw (append_assoc, ← c.in-Some.ensures.steps.0) c.loop-draft.invariant.left;
  blocks = blocks_more _ _ c.loop-draft.insts.items c.loop-draft.yielded c.in-Some.draft c.loop-draft.invariant.insts c.loop-draft.invariant.blocks
      c.in_ok-place.ensures.blocks;
  insts = insts_more _ c.loop-draft.insts.items c.loop-draft.yielded c.in-Some.draft c.loop-draft.invariant.insts c.in_ok-place.ensures.insts;
  few = c.in_ok-place.ensures.few;
}

pub returns-in_err-place-clause-err : goal.returns-in_err-place-clause-err
returns-in_err-place-clause-err g c =
    let p = err_from_is_err_and c.from_residual.result c.from_residual.ensures.1 in
    let within = insts_within c.loop-draft.yielded (into_iter_items c.next.new.self) c.args.drafts.items c.in-Some.draft
    (rw (← c.in-Some.ensures.steps.0) c.loop-draft.invariant.left) in
    let long = sym (length-map c.loop-draft.insts.items inst_of_table) ∙ ap length c.loop-draft.invariant.insts in
    rw (p.1, p.2) (unplaced_more _ _ _ (omega (arith, within, long)) c.in_err-place.ensures.err)

pub returns-clause-insts : goal.returns-clause-insts
returns-clause-insts g c =
    let first = YieldsList-from_vec c.args.drafts.items c.into_iter-draft-iterator.ensures.into_iter_gives.0
    (c.into_iter-draft-iterator.ensures.into_iter_gives.1 ∙ c.args.drafts.ok.0) in
    let all = YieldsList-end first c.loop-draft.yielded c.loop-draft.draft-iterator c.loop-draft.yielded_by c.next.result c.next.new.self c.in-None.is
    c.next.ensures.steps in
    rw (← all.0, map-id) c.loop-draft.invariant.insts

pub returns-clause-blocks : goal.returns-clause-blocks
returns-clause-blocks g c =
    let first = YieldsList-from_vec c.args.drafts.items c.into_iter-draft-iterator.ensures.into_iter_gives.0
    (c.into_iter-draft-iterator.ensures.into_iter_gives.1 ∙ c.args.drafts.ok.0) in
    let all = YieldsList-end first c.loop-draft.yielded c.loop-draft.draft-iterator c.loop-draft.yielded_by c.next.result c.next.new.self c.in-None.is
    c.next.ensures.steps in
    rw (← all.0, map-id) c.loop-draft.invariant.blocks

pub returns-clause-few : goal.returns-clause-few
returns-clause-few g c = c.loop-draft.invariant.few

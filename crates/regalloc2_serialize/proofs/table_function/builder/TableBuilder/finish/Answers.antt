use Rattle.std.proofs.Common.{length, map, sym, refl, ◌∙◌, arith}
use Rattle.std.proofs.lemmas.List.{length-map}
use Rattle.std.proofs.lemmas.Result.{err_from_is_err_and}
use Rattle.regalloc2_serialize.specs.TableFunction.Table.{block_of_table}
use Rattle.regalloc2_serialize.specs.TableFunction.Draft.{drafts_of}
use Rattle.regalloc2_serialize.proofs.TableFunctionLemmas.BuiltLaws.{count_from, unbuilt_from_unlinked, unbuilt_from_unplaced, built_blocks, built_preds, built_succs}
use Rattle.regalloc2_serialize.proofs.TableFunctionLemmas.PredLaws.{same_count}
use Rattle.regalloc2_serialize.proofs.table_function.builder.TableBuilder.finish.Goals as goal

pub link-requires : goal.link-requires
link-requires g c = omega (arith, count_from c.in_ok-blocks.blocks.items c.args.self.blocks.items c.in_ok-blocks.ensures.blocks)

pub returns-in_err-blocks-clause-err : goal.returns-in_err-blocks-clause-err
returns-in_err-blocks-clause-err g c =
    let p = err_from_is_err_and c.from_residual.result c.from_residual.ensures.1 in
    rw (p.1, p.2) (unbuilt_from_unplaced (drafts_of c.args.self) c.args.num_vregs _ c.in_err-blocks.ensures.err)

pub returns-in_err-link-clause-err : goal.returns-in_err-link-clause-err
returns-in_err-link-clause-err g c =
    let p = err_from_is_err_and c.from_residual-in_err-link.result c.from_residual-in_err-link.ensures.1 in
    rw (p.1, p.2) (unbuilt_from_unlinked _ (drafts_of c.args.self) c.args.num_vregs _ c.in_ok-blocks.ensures.blocks c.in_err-link.ensures.err)

pub of_blocks-requires-clause-blocks : goal.of_blocks-requires-clause-blocks
of_blocks-requires-clause-blocks g c =
    let laid = count_from c.in_ok-blocks.blocks.items c.args.self.blocks.items c.in_ok-blocks.ensures.blocks in
    let long = same_count c.in_ok-blocks.blocks.items c.link.new.blocks.items c.in_ok-link.ensures.ok.others in
    omega (arith, laid, long)

pub returns-clause-ok : goal.returns-clause-ok
returns-clause-ok g c =
    let drafts = drafts_of c.args.self in
    let laid = c.in_ok-blocks.ensures.blocks in
    let bare = map block_of_table c.in_ok-blocks.blocks.items in
    let linked = map block_of_table c.link.new.blocks.items in
    let count = count_from c.in_ok-blocks.blocks.items c.args.self.blocks.items laid in
    record {
      blocks = rw c.of_blocks.ensures.blocks (built_blocks bare linked drafts laid c.in_ok-link.ensures.ok.others);
      preds = λ b l. rw c.of_blocks.ensures.blocks (built_preds bare linked drafts b laid
          (c.in_ok-link.ensures.ok.preds b (rw length-map (omega (arith, count, rw length-map at l)))));
      succs = λ b l. built_succs bare drafts (length c.in_ok-blocks.blocks.items) b laid (count ∙ sym (length-map _ _))
          (c.in_ok-link.ensures.within b (omega (arith, count, rw length-map at l)));
      insts = c.of_blocks.ensures.insts ∙ c.in_ok-blocks.ensures.insts;
      entry = c.of_blocks.ensures.entry;
      num_vregs = c.of_blocks.ensures.vregs;
      slot_sizes = c.of_blocks.ensures.slots ∙ rw (c.one.ensures, c.one-2.ensures, c.one-3.ensures) refl;
      named_by_last_slot = c.of_blocks.ensures.named;
      labels = c.of_blocks.ensures.labels;
      allows_multiple_defs = c.of_blocks.ensures.multiple;
    }

pub returns-clause-err : goal.returns-clause-err
returns-clause-err g c = tt

pub returns-then-len-ge-BLOCK_LIMIT-clause-ok : goal.returns-then-len-ge-BLOCK_LIMIT-clause-ok
returns-then-len-ge-BLOCK_LIMIT-clause-ok g c = tt

pub returns-then-num_vregs-ge-VREG_LIMIT-clause-ok : goal.returns-then-num_vregs-ge-VREG_LIMIT-clause-ok
returns-then-num_vregs-ge-VREG_LIMIT-clause-ok g c = tt

pub of_blocks-requires-clause-insts : goal.of_blocks-requires-clause-insts
of_blocks-requires-clause-insts g c = c.in_ok-blocks.ensures.few

pub of_blocks-requires-clause-vregs : goal.of_blocks-requires-clause-vregs
of_blocks-requires-clause-vregs g c = c.if-num_vregs-ge-VREG_LIMIT.false

pub returns-then-len-ge-BLOCK_LIMIT-clause-err : goal.returns-then-len-ge-BLOCK_LIMIT-clause-err
returns-then-len-ge-BLOCK_LIMIT-clause-err g c = rw length-map (omega (arith, c.if-len-ge-BLOCK_LIMIT.true, c.len.ensures, c.args.self.blocks.ok.0))

pub returns-then-num_vregs-ge-VREG_LIMIT-clause-err : goal.returns-then-num_vregs-ge-VREG_LIMIT-clause-err
returns-then-num_vregs-ge-VREG_LIMIT-clause-err g c = c.if-num_vregs-ge-VREG_LIMIT.true

use Rattle.std.proofs.Common.{◌∙◌, [], map, slice_index_or, ap, sym}
use Rattle.std.proofs.lemmas.List.{get_or_past, length-map}
use Rattle.regalloc2_function.specs.FunctionValue.{BlockValue}
use Rattle.regalloc2_serialize.proofs.Blocks.{block-read}
use Rattle.regalloc2_serialize.proofs.Given.{list-read}
use Rattle.regalloc2_serialize.proofs.table_function.table.TableFunctionFunction.branch_blockparams.Goals as goal

pub returns-then-succ_idx-arguments : goal.returns-then-succ_idx-arguments
returns-then-succ_idx-arguments g c =
    c.deref.ensures.value
    ∙ list-read (λ v. v.items) c.as_slice-arguments.result.now c.args.succ_idx c.index-arguments-succ_idx.result c.if-succ_idx-arguments.true
    c.index-arguments-succ_idx.is
    ∙ ap (λ vs. slice_index_or (map (λ v. v.items) vs) c.args.succ_idx []) c.as_slice-arguments.ensures.value
    ∙ ap (λ (b : BlockValue). slice_index_or b.arguments c.args.succ_idx [])
    (block-read c.args.self.now.blocks.items c.args.block c.index.result c.index-2.result.now c.requires.block c.index.ensures c.index-2.ensures)

pub returns-else-succ_idx-arguments : goal.returns-else-succ_idx-arguments
returns-else-succ_idx-arguments g c =
    sym (get_or_past (map (λ v. v.items) c.as_slice-arguments.result.now) c.args.succ_idx [] (rw length-map c.if-succ_idx-arguments.false))
    ∙ ap (λ vs. slice_index_or (map (λ v. v.items) vs) c.args.succ_idx []) c.as_slice-arguments.ensures.value
    ∙ ap (λ (b : BlockValue). slice_index_or b.arguments c.args.succ_idx [])
    (block-read c.args.self.now.blocks.items c.args.block c.index.result c.index-2.result.now c.requires.block c.index.ensures c.index-2.ensures)

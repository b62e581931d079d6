use Rattle.std.proofs.Common.{◌+◌, ◌<◌, length, take, drop, arith}
use Rattle.std.specs.Prelude.{flat_map}
use Rattle.std.proofs.lemmas.Result.{err_from_is_err_and}
use Rattle.regalloc2_function.specs.FunctionValue.{FunctionValue, block_at}
use Rattle.regalloc2_function.specs.Reasons.{definitions_in}
use Rattle.regalloc2_function.specs.Inside.Definitions.NotesDefinitions.{none}
use Rattle.regalloc2_function.proofs.ListsInParts.{flat_split, flat_more}
use Rattle.regalloc2_function.proofs.Following.{end_within}
use Rattle.regalloc2_function.proofs.BlockRanges.{block_is}
use Rattle.regalloc2_function.proofs.NotedInParts.{names_in_part, notes_append}
use Rattle.regalloc2_function.proofs.ssa.note_blocks.Goals as goal
use Rattle.regalloc2_function.specs.Inside.Definitions.{block_definitions}

pub loop-b-init : goal.loop-b-init
loop-b-init g c = none

pub note_block-requires-clause-within : goal.note_block-requires-clause-within
note_block-requires-clause-within g c = end_within (g.F.Function.function c.args.f.now) c.requires c.new.result
    (omega (arith, c.num_blocks-b-end.ensures.count))

pub returns-in_err-note_block-clause-err : goal.returns-in_err-note_block-clause-err
returns-in_err-note_block-clause-err g c =
    let f : FunctionValue = g.F.Function.function c.args.f.now in
    let less : c.loop-b.b < length f.blocks = omega (arith, c.num_blocks-b-end.ensures.count) in
    let p = err_from_is_err_and c.from_residual.result c.from_residual.ensures.1 in
    rw (p.1, p.2) (names_in_part (definitions_in f) (flat_map (block_definitions f) (take c.loop-b.b f.blocks)) (block_definitions f (block_at f c.loop-b.b))
    (flat_map (block_definitions f) (drop (c.loop-b.b + 1) f.blocks)) _
    (flat_split (block_definitions f) f.blocks c.loop-b.b (block_at f c.loop-b.b) less (block_is f c.loop-b.b less))
    c.loop-b.invariant (rw c.new.ensures at c.in_err-note_block.ensures.err))

pub loop-b-preserved : goal.loop-b-preserved
loop-b-preserved g c =
    let f : FunctionValue = g.F.Function.function c.args.f.now in
    let less : c.loop-b.b < length f.blocks = omega (arith, c.num_blocks-b-end.ensures.count) in
    rw (flat_more (block_definitions f) f.blocks c.loop-b.b (block_at f c.loop-b.b) less (block_is f c.loop-b.b less))
    (notes_append c.loop-b.invariant (rw c.new.ensures at c.in_ok-note_block.ensures.ok))

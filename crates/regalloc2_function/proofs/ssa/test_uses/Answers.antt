use Rattle.std.proofs.Common.{◌+◌, ◌<◌, length, take, drop, arith}
use Rattle.std.specs.Prelude.{flat_map}
use Rattle.std.proofs.lemmas.Result.{err_from_is_err_and}
use Rattle.std.proofs.lemmas.List.Elements.{All-append, All-same}
use Rattle.regalloc2_function.specs.FunctionValue.{FunctionValue, block_at}
use Rattle.regalloc2_function.specs.Reasons.{uses_in}
use Rattle.regalloc2_function.specs.Inside.Definitions.{IsUsable, block_uses}
use Rattle.regalloc2_function.proofs.ListsInParts.{flat_split, flat_more, flat_taken}
use Rattle.regalloc2_function.proofs.Following.{end_within}
use Rattle.regalloc2_function.proofs.BlockRanges.{block_is}
use Rattle.regalloc2_function.proofs.NotedInParts.{unusable_in_part}
use Rattle.regalloc2_function.proofs.ssa.test_uses.Goals as goal

pub test_block-requires-clause-within : goal.test_block-requires-clause-within
test_block-requires-clause-within g c = end_within (g.F.Function.function c.args.f.now) c.requires c.new.result
    (omega (arith, c.num_blocks-b-end.ensures.count))

pub returns-in_err-test_block-clause-err : goal.returns-in_err-test_block-clause-err
returns-in_err-test_block-clause-err g c =
    let f : FunctionValue = g.F.Function.function c.args.f.now in
    let less : c.loop-b.b < length f.blocks = omega (arith, c.num_blocks-b-end.ensures.count) in
    let p = err_from_is_err_and c.from_residual.result c.from_residual.ensures.1 in
    rw (p.1, p.2) (unusable_in_part c.args.defined.now (uses_in f) (flat_map (block_uses f) (take c.loop-b.b f.blocks)) (block_uses f (block_at f c.loop-b.b))
    (flat_map (block_uses f) (drop (c.loop-b.b + 1) f.blocks)) _
    (flat_split (block_uses f) f.blocks c.loop-b.b (block_at f c.loop-b.b) less (block_is f c.loop-b.b less))
    c.loop-b.invariant (rw c.new.ensures at c.in_err-test_block.ensures.err))

pub loop-b-preserved : goal.loop-b-preserved
loop-b-preserved g c =
    let f : FunctionValue = g.F.Function.function c.args.f.now in
    let less : c.loop-b.b < length f.blocks = omega (arith, c.num_blocks-b-end.ensures.count) in
    All-same (IsUsable c.args.defined.now) _ _ (flat_more (block_uses f) f.blocks c.loop-b.b (block_at f c.loop-b.b) less (block_is f c.loop-b.b less))
    (All-append (IsUsable c.args.defined.now) (flat_map (block_uses f) (take c.loop-b.b f.blocks)) (block_uses f (block_at f c.loop-b.b)) c.loop-b.invariant
    (rw c.new.ensures at c.in_ok-test_block.ensures.ok))

pub returns-clause-ok : goal.returns-clause-ok
returns-clause-ok g c =
    let f : FunctionValue = g.F.Function.function c.args.f.now in
    All-same (IsUsable c.args.defined.now) _ _ (flat_taken (block_uses f) f.blocks c.loop-b.b (omega (arith, c.num_blocks-b-end.ensures.count)))
    c.loop-b.invariant

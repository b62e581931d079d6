use Rattle.std.proofs.Common.{ap, ◌+◌, ◌++◌, length}
use Rattle.regalloc2_function.specs.FunctionValue.{block_at}
use Rattle.regalloc2_function.proofs.Following.{end_within}
use Rattle.regalloc2_function.specs.Views.{output_of}
use Rattle.codegen_machine.specs.Seen.{function_of_procedure, operations}
use Rattle.codegen_emit.specs.Emitted.{items_code}
use Rattle.codegen_emit.proofs.Emitting.{all_wider, next_within, one_item, no_item}
use Rattle.codegen_emit.proofs.emit.emit_block.Goals as goal

pub loop-item-init : goal.loop-item-init
loop-item-init c =
    let f = function_of_procedure c.args.f.now in
    let b = block_at f c.args.block in
    let code = items_code (operations c.args.f.now) (output_of c.args.out.now) b.succs (c.args.block + 1) in (
      rw c.into_iter-item-iterator.ensures.into_iter_gives (all_wider b.range.first b.range.end (length f.insts) _
          (end_within f c.requires.follow c.args.block c.requires.block) c.block_insts_and_edits-item-items.ensures.within),
      rw c.into_iter-item-iterator.ensures.into_iter_gives (ap (λ xs. c.args.code.now.items ++ code xs)
          c.block_insts_and_edits-item-items.ensures.items),
    )

pub emit_item-requires-clause-within : goal.emit_item-requires-clause-within
emit_item-requires-clause-within c = (next_within _ _ _ _ c.loop-item.invariant.0 c.in-Some.ensures.steps).0

pub loop-item-preserved : goal.loop-item-preserved
loop-item-preserved c = (
  (next_within _ _ _ _ c.loop-item.invariant.0 c.in-Some.ensures.steps).1,
  one_item (operations c.args.f.now) (output_of c.args.out.now) _ _ _ _ _ _ _ _ c.loop-item.invariant.1 c.in-Some.ensures.steps c.in_ok-emit_item.ensures,
)

pub returns : goal.returns
returns c = no_item (operations c.args.f.now) (output_of c.args.out.now) _ _ _ _ _ c.loop-item.invariant.1 c.in-None.ensures.steps.0

use Rattle.std.specs.Prelude.{◌≡◌, ◌+◌, ◌++◌, All, length}
use Rattle.regalloc2_function.specs.FunctionValue.{block_at}
use Rattle.regalloc2_function.specs.Listing.{IsListedWithin}
use Rattle.regalloc2_function.specs.Views.{output_of, rest_of}
use Rattle.codegen_machine.specs.Seen.{function_of_procedure, operations}
use Rattle.codegen_emit.specs.Emitted.{items_code, block_code}
use Rattle.codegen_emit.proofs.emit.emit_block.Given as goal

abbrev pub invariant-loop-item : goal.invariant-loop-item
invariant-loop-item l = All (IsListedWithin 0 (length (function_of_procedure l.f).insts)) (rest_of l.item-iterator)
    × (l.code.items
    ++ items_code (operations l.f) (output_of l.out) (block_at (function_of_procedure l.f) l.block).succs (l.block + 1) (rest_of l.item-iterator)
    ≡ l.fn.code.items ++ block_code (operations l.f) (output_of l.out) (function_of_procedure l.f) l.block)

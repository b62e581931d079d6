use Rattle.std.specs.Prelude.{◌≡◌}
use Rattle.regalloc2_function.specs.Views.{output_of}
use Rattle.codegen_machine.specs.Seen.{function_of_procedure, operations}
use Rattle.codegen_emit.specs.Emitted.{blocks_code}
use Rattle.codegen_emit.proofs.Emitting.{AreStarts}
use Rattle.codegen_emit.proofs.emit.emit.Given as goal

abbrev pub invariant-loop-b : goal.invariant-loop-b
invariant-loop-b l = (l.code.items ≡ blocks_code (operations l.f) (output_of l.out) (function_of_procedure l.f) l.b)
    × AreStarts (operations l.f) (output_of l.out) (function_of_procedure l.f) l.starts.items l.b

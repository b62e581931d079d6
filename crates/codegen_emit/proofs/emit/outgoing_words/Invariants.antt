use Rattle.std.specs.Prelude.{◌≡◌, take}
use Rattle.codegen_machine.specs.Successors.{operations_of}
use Rattle.codegen_emit.specs.Emitted.{outgoing_words}
use Rattle.codegen_emit.proofs.emit.outgoing_words.Given as goal

abbrev pub invariant-loop-line : goal.invariant-loop-line
invariant-loop-line l = l.most ≡ outgoing_words (take l.line-index (operations_of l.lines))

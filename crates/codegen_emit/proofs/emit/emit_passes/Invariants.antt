use Rattle.std.specs.Prelude.{◌≡◌, ◌++◌}
use Rattle.codegen_emit.specs.Emitted.{passes_code}
use Rattle.codegen_emit.proofs.emit.emit_passes.Given as goal

abbrev pub invariant-loop-index : goal.invariant-loop-index
invariant-loop-index l = l.code.items ≡ l.fn.code.items ++ passes_code l.index l.places

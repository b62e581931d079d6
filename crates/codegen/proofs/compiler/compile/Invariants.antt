use Rattle.std.proofs.Common.{take}
use Rattle.std.specs.Prelude.{◌≡◌, map, string_bytes}
use Rattle.codegen_machine.specs.Calls.{functions_of}
use Rattle.codegen_machine.specs.Modules.{arities_of}
use Rattle.codegen.proofs.Modules.{AreCompiled}
use Rattle.codegen.proofs.compiler.compile.Given as goal

abbrev pub invariant-loop-g : goal.invariant-loop-g
invariant-loop-g l = AreCompiled l.m.procedures.items (functions_of l.functions.items) l.g
    × (map (λ f. string_bytes f.name) l.functions.items ≡ take l.g (map (λ p. string_bytes p.name) l.m.procedures.items))
    × (map (λ f. f.arity) l.functions.items ≡ take l.g (arities_of l.m.procedures.items))

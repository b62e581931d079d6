use Rattle.std.proofs.Common.{take}
use Rattle.std.specs.Prelude.{All, map}
use Rattle.regalloc2_function.specs.Inside.Definitions.{IsUsable, argument_use}
use Rattle.regalloc2_function.proofs.ssa.test_arguments.Given as goal

-- the arguments so far are usable
abbrev pub invariant-loop-argument : goal.invariant-loop-argument
invariant-loop-argument l = All (IsUsable l.defined) (map (argument_use l.inst) (take l.argument-index l.arguments))

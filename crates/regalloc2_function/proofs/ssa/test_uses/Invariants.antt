use Rattle.std.proofs.Common.{take}
use Rattle.std.specs.Prelude.{All, flat_map}
use Rattle.regalloc2_function.specs.Inside.Definitions.{IsUsable, block_uses}
use Rattle.regalloc2_function.proofs.ssa.test_uses.Given as goal

-- the blocks so far pass
abbrev pub invariant-loop-b : goal.invariant-loop-b
invariant-loop-b g l = All (IsUsable l.defined) (flat_map (block_uses (g.F.Function.function l.f)) (take l.b (g.F.Function.function l.f).blocks))

use Rattle.std.proofs.Common.{◌≡◌, length}
use Rattle.regalloc2_function.specs.Inside.Ways.{MetSoFar}
use Rattle.regalloc2_function.proofs.blocks.pass_in_order.Given as goal

-- the blocks so far were met
abbrev pub invariant-loop-b : goal.invariant-loop-b
invariant-loop-b g l = record { whole : l.b-end ≡ length (g.F.Function.function l.f).blocks; met : MetSoFar (g.F.Function.function l.f) l.b l.counts }

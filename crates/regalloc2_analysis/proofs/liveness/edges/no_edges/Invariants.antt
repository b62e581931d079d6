use Rattle.std.proofs.Common.{ℕ, ◌≡◌, [], length}
use Rattle.regalloc2_analysis.specs.Liveness.Edges.{blocks_of}
use Rattle.regalloc2_analysis.proofs.liveness.edges.no_edges.Given as goal

-- the lists so far are empty
abbrev pub invariant-loop : goal.invariant-loop
invariant-loop g l = record { long : length l.edges.items ≡ l.counter; none : (n : ℕ) → blocks_of l.edges.items n ≡ [] }

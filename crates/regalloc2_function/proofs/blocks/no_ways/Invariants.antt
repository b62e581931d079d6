use Rattle.std.proofs.Common.{ℕ, ◌≡◌, [], length}
use Rattle.regalloc2_function.specs.Inside.Ways.{listed_of}
use Rattle.regalloc2_function.proofs.blocks.no_ways.Given as goal

-- the lists so far are empty
abbrev pub invariant-loop : goal.invariant-loop
invariant-loop g l = record { long : length l.ways.items ≡ l.counter; none : (n : ℕ) → listed_of l.ways.items n ≡ [] }

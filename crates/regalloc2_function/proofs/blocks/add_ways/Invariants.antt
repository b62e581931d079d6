use Rattle.std.proofs.Common.{ℕ, ◌≡◌, ◌+◌, take}
use Rattle.std.specs.Prelude.{if◌then◌else◌, nat_eq}
use Rattle.regalloc2_function.specs.WellFormed.{times_in}
use Rattle.regalloc2_function.specs.Inside.Ways.{listed_of}
use Rattle.regalloc2_function.proofs.blocks.add_ways.Given as goal

-- the block is listed once for each position so far
abbrev pub invariant-loop-succ : goal.invariant-loop-succ
invariant-loop-succ g l = (n p : ℕ) → times_in p (listed_of l.ways n) ≡ times_in p
    (listed_of l.fn.ways n) + (if nat_eq l.block p then times_in n (take l.succ-index l.succs) else 0)

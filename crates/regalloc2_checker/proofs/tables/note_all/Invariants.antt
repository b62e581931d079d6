use Rattle.std.proofs.Common.{ℕ, ◌<◌, take}
use Rattle.regalloc2_function.specs.Numbers.{times_listed}
use Rattle.regalloc2_checker.specs.Holding.{IsHome}
use Rattle.regalloc2_checker_sets.specs.Homes.{AreMoreHomes}
use Rattle.regalloc2_checker.proofs.tables.note_all.Given as goal

abbrev pub invariant-loop-bits : goal.invariant-loop-bits
invariant-loop-bits g l = record {
  more : AreMoreHomes l.fn.homes l.homes;
  noted : (y : ℕ) → 0 < times_listed (take l.bits-index l.members) y → IsHome l.vregs l.homes l.place y;
}

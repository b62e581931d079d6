use Rattle.std.proofs.Common.{ℕ, ◌≡◌, ◌<◌, true, get_or}
use Rattle.regalloc2_function.specs.Numbers.{has_number}
use Rattle.regalloc2_checker.specs.Holding.{IsHome}
use Rattle.regalloc2_checker_sets.specs.Homes.{AreMoreHomes}
use Rattle.regalloc2_checker.proofs.tables.note_all_places.Given as goal

-- the vregs before `k` are noted
abbrev pub invariant-loop-k : goal.invariant-loop-k
invariant-loop-k g l = record {
  more : AreMoreHomes l.fn.homes l.homes;
  noted : (j i : ℕ) → j < l.k → has_number l.places i ≡ true → IsHome l.vregs l.homes i (get_or l.members j 0);
}

use Rattle.regalloc2_checker.specs.Showing.{shows_now}
use Rattle.regalloc2_checker.proofs.RestOfList.{HoldersSoFar}
use Rattle.regalloc2_checker.proofs.transfer.holders_of_all.Given as goal

-- the holders of the first k vregs are found
abbrev pub invariant-loop-k : goal.invariant-loop-k
invariant-loop-k g l = HoldersSoFar l.values.places (shows_now l.values) l.vregs l.had.items l.k

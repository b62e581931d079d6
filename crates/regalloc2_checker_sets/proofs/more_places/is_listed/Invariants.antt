use Rattle.std.proofs.Common.{◌≡◌, false, take}
use Rattle.regalloc2_checker_sets.specs.Homes.{is_one_of}
use Rattle.regalloc2_checker_sets.proofs.more_places.is_listed.Given as goal

abbrev pub invariant-loop-number : goal.invariant-loop-number
invariant-loop-number l = is_one_of (take l.number-index l.numbers) l.place ≡ false

use Rattle.std.proofs.Common.{◌≡◌, take}
use Rattle.std.specs.List.{flat_map}
use Rattle.std.specs.Option.{option_to_list}
use Rattle.regalloc2_checker.proofs.number_list.NumberList.into_numbers.Given as goal

-- the numbers of the first k cells are listed
abbrev pub invariant-loop-k : goal.invariant-loop-k
invariant-loop-k g l = l.numbers.items ≡ flat_map option_to_list (take l.k l.self-inside.cells.items)

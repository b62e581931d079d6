use Rattle.std.proofs.Common.{ℕ, ◌<◌, take}
use Rattle.std.specs.Prelude.{All}
use Rattle.regalloc2_serialize.proofs.validate.are_lists_of_blocks.Given as goal

abbrev pub invariant-loop-list : goal.invariant-loop-list
invariant-loop-list g l = All (λ v. All (λ (b : ℕ). b < l.count) v.items) (take l.list-index l.lists)

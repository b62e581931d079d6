use Rattle.std.proofs.Common.{ℕ, ◌≡◌, ◌<◌, length, take}
use Rattle.std.specs.Prelude.{All, slice_index}
use Rattle.regalloc2_serialize.proofs.RewriteLemmas.Marks.{marked}
use Rattle.regalloc2_serialize.proofs.rewrite.order.numbers_in.Given as goal

-- the blocks so far have their numbers, and no other has one
abbrev pub invariant-loop-n : goal.invariant-loop-n
invariant-loop-n g l = record {
  long : length l.numbers.items ≡ l.count;
  within : All (λ b. b < l.count) (take l.n l.order);
  marked : (b : ℕ) → b < l.count → slice_index l.numbers.items b ≡ marked l.order l.n b;
}

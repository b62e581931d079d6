use Rattle.std.proofs.Common.{ℕ, ◌≡◌, ◌<◌, rules}
use Rattle.std.specs.Prelude.{slice_index}
use Rattle.regalloc2_names.proofs.Highest.{greatest_vector, greatest_float}
use Rattle.regalloc2_names.proofs.sets.PRegSet.max_preg.Goals as goal

pub returns-then-vector-ne0-clause-greatest : goal.returns-then-vector-ne0-clause-greatest
returns-then-vector-ne0-clause-greatest c =
    let fits : (i : ℕ) → slice_index c.args.self.now.bits i < 18446744073709551616 = λ i. search rules in
    rw c.new.ensures (greatest_vector c.args.self.now fits c.highest_bit.result c.highest_bit.ensures.highest)

pub returns-then-float-ne0-clause-greatest : goal.returns-then-float-ne0-clause-greatest
returns-then-float-ne0-clause-greatest c =
    let fits : (i : ℕ) → slice_index c.args.self.now.bits i < 18446744073709551616 = λ i. search rules in
    let none : slice_index c.args.self.now.bits 2 ≡ 0 = search rules in
    rw c.new-then-float-ne0.ensures (greatest_float c.args.self.now fits none c.highest_bit-then-float-ne0.result c.highest_bit-then-float-ne0.ensures.highest)

use Rattle.std.proofs.Common.{ℕ, ◌<◌, ◌^◌, rules}
use Rattle.std.specs.Prelude.{slice_index}
use Rattle.regalloc2_names.specs.Register.{has_register}
use Rattle.regalloc2_names.proofs.SetBits.{words_differ}
use Rattle.regalloc2_names.proofs.sets.PRegSet.difference.Goals as goal

pub returns : goal.returns
unfolding has_register
returns c r =
    let fits : (i : ℕ) → slice_index c.args.self.bits i < 2 ^ 64 = λ i. search rules in
    let others : (i : ℕ) → slice_index c.args.other.bits i < 2 ^ 64 = λ i. search rules in
    words_differ c.args.self.bits c.args.other.bits fits others r.class r.number

use Rattle.std.proofs.Common.{ℕ, ◌<◌, ◌^◌, rules}
use Rattle.std.specs.Prelude.{slice_index}
use Rattle.regalloc2_names.specs.Register.{has_register}
use Rattle.regalloc2_names.proofs.SetBits.{words_invert}
use Rattle.regalloc2_names.proofs.sets.PRegSet.invert.Goals as goal

pub returns : goal.returns
unfolding has_register
returns c r small =
    let fits : (i : ℕ) → slice_index c.args.self.now.bits i < 2 ^ 64 = λ i. search rules in
    words_invert c.args.self.now.bits fits r.class r.number small

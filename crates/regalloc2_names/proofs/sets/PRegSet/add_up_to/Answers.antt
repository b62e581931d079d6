use Rattle.std.proofs.Common.{◌<◌, arith}
use Rattle.regalloc2_names.specs.Register.{has_register}
use Rattle.regalloc2_names.proofs.SetBits.{words_up_int, words_up_float, words_up_vector}
use Rattle.regalloc2_names.proofs.sets.PRegSet.add_up_to.Goals as goal
use Rattle.regalloc2_names.proofs.sets.PRegSet.add_up_to.Goals.{in-Int, in-Float, in-Vector}

pub returns : goal.returns
unfolding has_register
returns c r small =
    let h : c.hw_enc.result < 64 = omega (arith, c.hw_enc.ensures.small) in
    elim c.match-class.branch [
      | in-Int w ↦ rw (w.self-is, ← c.class.ensures, w.in-Int.is, ← c.hw_enc.ensures.number)
          (words_up_int c.args.self.now.bits c.hw_enc.result h r.class r.number small)
      | in-Float w ↦ rw (w.self-is, ← c.class.ensures, w.in-Float.is, ← c.hw_enc.ensures.number)
          (words_up_float c.args.self.now.bits c.hw_enc.result h r.class r.number small)
      | in-Vector w ↦ rw (w.self-is, ← c.class.ensures, w.in-Vector.is, ← c.hw_enc.ensures.number)
          (words_up_vector c.args.self.now.bits c.hw_enc.result h r.class r.number small)
    ]

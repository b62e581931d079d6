use Rattle.std.proofs.Common.{arith}
use Rattle.std.proofs.lemmas.List.{take_all}
use Rattle.std.proofs.lemmas.List.Elements.{All-push}
use Rattle.regalloc2_names.specs.Packing.{IsVRegBits, vreg_of_bits}
use Rattle.regalloc2_serialize.proofs.Lists.{image-more}
use Rattle.regalloc2_serialize.proofs.encode.words_of_vregs.Goals as goal

pub loop-vreg-preserved : goal.loop-vreg-preserved
loop-vreg-preserved g c =
    let done = c.loop-vreg.words.items in
    let one = c.bits.result in
    record {
      same = rw c.in_ok-push.ensures.items (image-more vreg_of_bits done c.args.vregs.now c.loop-vreg.vreg-index one c.vreg-item.result
          c.loop-vreg-test.true c.vreg-item.is c.bits.ensures.vreg c.loop-vreg.invariant.same);
      names = rw c.in_ok-push.ensures.items (All-push IsVRegBits done one c.loop-vreg.invariant.names c.bits.ensures.word);
    }

pub returns-clause-vregs : goal.returns-clause-vregs
returns-clause-vregs g c =
    rw (take_all c.loop-vreg.vreg-index c.args.vregs.now (omega (arith, c.loop-vreg-test.false))) at c.loop-vreg.invariant.same

pub returns-clause-names : goal.returns-clause-names
returns-clause-names g c = c.loop-vreg.invariant.names

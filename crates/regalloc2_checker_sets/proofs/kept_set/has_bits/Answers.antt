use Rattle.std.proofs.Common.{arith, sym, ◌∙◌}
use Rattle.regalloc2_checker_sets.proofs.Bits.{bits-is}
use Rattle.regalloc2_checker_sets.proofs.kept_set.has_bits.Goals as goal

pub returns : goal.returns
returns g c = c.get.ensures ∙ sym (bits-is c.args.set.now c.args.bits (omega (arith, c.ranges.bits.fits)))

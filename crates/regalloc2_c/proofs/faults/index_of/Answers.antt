use Rattle.std.proofs.Common.{◌∙◌, sym, length, arith}
use Rattle.regalloc2_c.specs.Faults.{is_placed}
use Rattle.regalloc2_c.proofs.Indexes.{first_skipped}
use Rattle.regalloc2_c.proofs.faults.index_of.Goals as goal

pub loop-k-preserved : goal.loop-k-preserved
loop-k-preserved c =
    c.loop-k.invariant
    ∙ first_skipped (is_placed c.args.operands.now c.args.places.now c.args.op c.args.place) c.loop-k.k (length c.args.operands.now)
    (omega (arith, c.loop-k-test.true)) (sym c.is_placed.ensures ∙ c.if-is_placed.false)

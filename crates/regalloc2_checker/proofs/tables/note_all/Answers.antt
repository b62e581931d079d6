use Rattle.std.proofs.Common.{arith, refl}
use Rattle.regalloc2_checker_sets.proofs.Walked.{times-nil}
use Rattle.regalloc2_checker.proofs.Holders.{homes-same, homes-then, noted-more}
use Rattle.regalloc2_checker.proofs.tables.note_all.Goals as goal

pub loop-bits-init : goal.loop-bits-init
loop-bits-init g c = record { more = homes-same c.args.homes.now; noted = λ y l. (let e = times-nil y in absurd (omega arith)) }

pub loop-bits-preserved : goal.loop-bits-preserved
loop-bits-preserved g c = let h = c.in_ok-note.ensures.noted in record {
  more = homes-then c.args.homes.now c.loop-bits.homes c.note.new.homes c.loop-bits.invariant.more c.in_ok-note.ensures.more;
  noted = noted-more c.args.vregs.now c.loop-bits.homes c.note.new.homes c.args.members.now c.loop-bits.bits-index c.args.place _
      c.loop-bits-test.true refl c.in_ok-note.ensures.more c.loop-bits.invariant.noted c.in_ok-note.ensures.noted;
}

use Rattle.std.proofs.Common.{ℕ, refl, subst, arith}
use Rattle.regalloc2_checker_sets.specs.SavedNumbers.{AreWrittenTo}
use Rattle.regalloc2_checker_sets.proofs.Written.{written-none, written-next}
use Rattle.regalloc2_checker_sets.proofs.entries.Entries.write_all.Goals as goal

pub loop-t-init : goal.loop-t-init
loop-t-init g c = record { last = refl; low = omega arith; written = written-none c.args.numbers.now c.args.first c.args.self.now }

pub loop-t-preserved : goal.loop-t-preserved
loop-t-preserved g c =
    let inv = c.loop-t.invariant in
    record {
      last = inv.last;
      low = omega (arith, c.loop-t-test.true, inv.last);
      written = written-next c.args.numbers.now c.args.first c.loop-t.t _ c.args.self.now c.loop-t.self c.set.new.self
          (omega (arith, c.loop-t-test.true, inv.last, inv.written.long, c.requires.within)) refl c.set.ensures inv.written;
    }

pub returns : goal.returns
returns g c =
    let inv = c.loop-t.invariant in
    subst (λ (n : ℕ). AreWrittenTo c.args.numbers.now c.args.first n c.args.self.now c.loop-t.self)
    (omega (arith, c.loop-t-test.false, inv.last, inv.low)) inv.written

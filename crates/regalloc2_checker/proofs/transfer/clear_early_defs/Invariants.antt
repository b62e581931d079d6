use Rattle.std.proofs.Common.{◌≡◌, drop}
use Rattle.regalloc2_checker.specs.Showing.{AreTablesKept}
use Rattle.regalloc2_checker.specs.Facts.{facts_after_early_defs}
use Rattle.regalloc2_checker.specs.TableFacts.{facts_now}
use Rattle.regalloc2_checker.proofs.transfer.clear_early_defs.Given as goal

-- what is left makes of what is there the whole
abbrev pub invariant-loop-k : goal.invariant-loop-k
invariant-loop-k g l = record {
  kept : AreTablesKept l.initial.values l.values;
  now : facts_after_early_defs l.places l.k (drop l.k l.operands) (facts_now l.values)
      ≡ facts_after_early_defs l.places 0 l.operands (facts_now l.initial.values);
}

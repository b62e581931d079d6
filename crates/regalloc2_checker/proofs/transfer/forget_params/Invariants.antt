use Rattle.std.specs.Prelude.{◌≡◌, take}
use Rattle.regalloc2_checker.specs.Showing.{AreTablesKept}
use Rattle.regalloc2_checker.specs.Renamed.{AreOthersKept, facts_without}
use Rattle.regalloc2_checker.specs.TableFacts.{facts_now}
use Rattle.regalloc2_checker.proofs.transfer.forget_params.Given as goal

-- the first k parameters are forgotten
abbrev pub invariant-loop-k : goal.invariant-loop-k
invariant-loop-k g l = record {
  kept : AreTablesKept l.fn.values l.values;
  others : AreOthersKept l.params l.arguments (facts_now l.fn.values) (facts_now l.values);
  without : facts_now l.values ≡ facts_without (take l.k l.params) (facts_now l.fn.values);
}

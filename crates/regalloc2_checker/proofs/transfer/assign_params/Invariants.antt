use Rattle.regalloc2_checker.specs.Showing.{AreTablesKept}
use Rattle.regalloc2_checker.specs.TableFacts.{facts_now}
use Rattle.regalloc2_checker.proofs.RestOfList.{AreRenamedTo}
use Rattle.regalloc2_checker.proofs.transfer.assign_params.Given as goal

-- the first k parameters took what their arguments had
abbrev pub invariant-loop-k : goal.invariant-loop-k
invariant-loop-k g l = record {
  kept : AreTablesKept l.fn.values l.values;
  renamed : AreRenamedTo l.params l.arguments l.k (facts_now l.fn.values) (facts_now l.values);
}

use Rattle.std.proofs.Common.{◌≡◌, ◌++◌}
use Rattle.regalloc2_names.specs.Listed.{IsWalkOf}
use Rattle.regalloc2_checker.specs.Showing.{AreTablesKept}
use Rattle.regalloc2_checker.specs.TableFacts.{facts_now}
use Rattle.regalloc2_checker.proofs.RestOfList.{emptied}
use Rattle.regalloc2_checker.proofs.transfer.clear_clobbers.Given as goal

-- the registers so far are emptied
abbrev pub invariant-loop-reg : goal.invariant-loop-reg
invariant-loop-reg g l = record {
  left : IsWalkOf l.fn.clobbers (l.yielded ++ l.reg-iterator);
  kept : AreTablesKept l.initial.values l.values;
  now : facts_now l.values ≡ emptied l.yielded (facts_now l.initial.values);
}

use Rattle.std.proofs.Common.{◌≡◌, drop, map}
use Rattle.regalloc2_checker.specs.Listing.{listed_move}
use Rattle.regalloc2_checker.specs.Showing.{AreTablesKept}
use Rattle.regalloc2_checker.specs.Facts.{facts_after_moves}
use Rattle.regalloc2_checker.specs.TableFacts.{facts_now}
use Rattle.regalloc2_checker.proofs.transfer.make_moves.Given as goal

-- what is left makes of what is there the whole
abbrev pub invariant-loop-k : goal.invariant-loop-k
invariant-loop-k g l = record {
  kept : AreTablesKept l.initial.values l.values;
  now : facts_after_moves (map listed_move (drop l.k l.moves)) (facts_now l.values) ≡ facts_after_moves (map listed_move l.moves) (facts_now l.initial.values);
}

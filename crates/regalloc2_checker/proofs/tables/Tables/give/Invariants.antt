use Rattle.std.proofs.Common.{nat_eq, get_or, take}
use Rattle.std.specs.Prelude.{if◌then◌else◌}
use Rattle.regalloc2_checker.specs.Holding.{holds_now, AreKeptTables, HoldsNow, is_in}
use Rattle.regalloc2_checker.proofs.tables.Tables.give.Given as goal

abbrev pub invariant-loop-place : goal.invariant-loop-place
invariant-loop-place g l = record {
  kept : AreKeptTables l.fn.self l.self;
  now : HoldsNow l.self (λ i y. if nat_eq y (get_or l.fn.self.vregs l.vreg 0) then is_in (take l.place-index l.places) i else holds_now l.fn.self i y);
}

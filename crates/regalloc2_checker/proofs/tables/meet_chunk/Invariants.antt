use Rattle.std.proofs.Common.{◌≡◌, ◌+◌, ◌*◌, ◌<◌, ◌≤◌}
use Rattle.regalloc2_checker.specs.Holding.{IsMetBetween}
use Rattle.regalloc2_checker.proofs.tables.meet_chunk.Given as goal

abbrev pub invariant-loop-t : goal.invariant-loop-t
invariant-loop-t g l = record {
  few : l.t-end ≤ 64;
  below : 0 < l.t-end → 64 * l.chunk + l.t-end ≤ l.bound;
  rest : l.t-end < 64 → l.bound ≤ 64 * l.chunk + l.t-end;
  high : l.t ≤ l.t-end;
  words : l.entries.words ≡ l.fn.entries.words;
  met : IsMetBetween l.fn.sets l.fn.entries l.sets l.entries l.table (64 * l.chunk) (64 * l.chunk + l.t) l.bound l.fn.before l.is_less;
}

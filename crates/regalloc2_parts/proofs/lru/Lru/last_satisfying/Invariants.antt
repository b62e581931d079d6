use Rattle.std.proofs.Common.{◌≡◌, ◌++◌, false, reverse}
use Rattle.std.specs.Prelude.{All}
use Rattle.regalloc2_parts.proofs.lru.Lru.last_satisfying.Given as goal

-- the closure was called for the registers so far, and accepted none
abbrev pub invariant-loop-preg : goal.invariant-loop-preg
invariant-loop-preg g l = record {
  walk : reverse l.self ≡ l.yielded ++ l.preg-iterator;
  asked : All (λ r. goal.F-post g l.f r false) l.yielded;
}

use Rattle.std.proofs.Common.{◌≡◌, ◌≤◌, ◌-◌, length, false}
use Rattle.std.specs.List.{AllWithin}
use Rattle.regalloc2_parts.proofs.iter.MatchesIterator.next.Given as goal

-- the closure gave false at each operand that was passed over
abbrev pub invariant-loop-self : goal.invariant-loop-self
invariant-loop-self g l =
    (l.self.operands.now ≡ l.initial.self.operands.now) × (l.self.predicate ≡ l.initial.self.predicate)
    × (l.initial.self.from ≤ l.self.from)
    × AllWithin (λ o. goal.F-post g l.initial.self.predicate o false) l.initial.self.operands.now l.initial.self.from l.self.from
    × goal.F-IsAlwaysCallable g l.self.predicate

abbrev pub decreases-loop-self : goal.decreases-loop-self
decreases-loop-self g l = length l.self.operands.now - l.self.from

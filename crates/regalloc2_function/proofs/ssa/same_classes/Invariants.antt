use Rattle.std.proofs.Common.{◌≡◌, length, take}
use Rattle.std.specs.Prelude.{map}
use Rattle.regalloc2_function.proofs.ssa.same_classes.Given as goal

-- the classes so far are the same
abbrev pub invariant-loop-k : goal.invariant-loop-k
invariant-loop-k l = (length l.arguments ≡ length l.params) × (map (λ v. v.class) (take l.k l.arguments) ≡ map (λ v. v.class) (take l.k l.params))

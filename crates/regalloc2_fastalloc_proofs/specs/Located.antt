-- Which vregs have a location while the walk goes backward.
use Rattle.std.specs.Prelude.{ℕ, ◌≡◌, ◌≢◌, ◌<◌, ◌≤◌, Some}
use Rattle.regalloc2_names.specs.Register.{Register, VirtualRegister}
use Rattle.regalloc2_names.specs.Place.{NoPlace}
use Rattle.regalloc2_function.specs.FunctionValue.{FunctionValue}
use Rattle.regalloc2_analysis.specs.LiveRanges.LastUses.{UsesNumber}
use Rattle.regalloc2_fastalloc_state.specs.StateParts.{alloc_of, vreg_of_preg}
use Rattle.regalloc2_fastalloc_proofs.specs.InstSteps.{StateValue}

-- the number has no location, and no register holds it
pub record Absent (x : ℕ) (t : StateValue) : Type 0 where
  pub nowhere : alloc_of t.places x ≡ NoPlace
  pub unheld : (r : Register) (v : VirtualRegister) → r.number < 64 → vreg_of_preg t.places r ≡ Some v → v.number ≢ x

-- what has a location is used by some instruction from i on: a number that none of them uses is absent
abbrev pub LocatedAreUsed : FunctionValue → ℕ → StateValue → Type 0
LocatedAreUsed f i t = (x : ℕ) → ((j : ℕ) → i ≤ j → UsesNumber f x j → ⊥) → Absent x t

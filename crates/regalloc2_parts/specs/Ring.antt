-- Registers ordered by their last use, as contracts see them: the most recently used first.
use Rattle.std.specs.Prelude.{ℕ, ◌≡◌, ◌+◌, ◌<◌, Bool, true, false, List, [], Option, All, MatchOption, IsPermutation, length, slice_index_or}
use Rattle.std.specs.List.{AllWithin, IsDistinct}
use Rattle.std.specs.List.Sorted.{IsNonDecreasingBy}
use Rattle.regalloc2_names.specs.declared.RegClass.{RegClass}
use Rattle.regalloc2_names.specs.Register.{Register, class_code, is_register}

-- registers of one class, none of them listed twice
pub record AreDistinctOf (class : RegClass) (regs : List Register) : Type 0 where
  pub of_class : All (λ r. r.class ≡ class) regs
  pub distinct : IsDistinct is_register regs

-- the ring that is made of some registers: they, by rising number, none of them twice
pub record IsNewRing (regs ring : List Register) : Type 0 where
  pub members : IsPermutation regs ring
  pub rising : IsNonDecreasingBy (λ r. r.number) ring
  pub distinct : IsDistinct is_register ring

-- a test was called for each register, the least recently used first, until it returned true: the register for which it did, or none; answers r b:
-- the test can return b for r
abbrev pub IsOldestAccepted : (Register → Bool → Type 0) → List Register → Option Register → Type 0
IsOldestAccepted answers ring result =
    MatchOption result
    (All (λ r. answers r false) ring)
    (λ r. answers r true × (k : ℕ) × (k < length ring) × (slice_index_or ring k r ≡ r) × AllWithin (λ older. answers older false) ring (k + 1) (length ring))

-- of three rings, the one of a class
abbrev pub ring_of : List (List Register) → RegClass → List Register
ring_of rings class = slice_index_or rings (class_code class) []

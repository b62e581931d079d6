-- Blocks, each paired with a vreg: in lists, and in sets for each block.
use Rattle.std.specs.Prelude.{ℕ, ◌≡◌, Bool, false, ◌&&◌, ◌||◌, nat_eq, List, ◌++◌, map, slice_index_or}
use Rattle.std.specs.List.{list_any}
use Rattle.regalloc2_names.specs.Register.{VirtualRegister, is_vreg}
use Rattle.regalloc2_names.specs.RegisterBits.{bits_of_vreg}
use Rattle.regalloc2_function.specs.Numbers.{NumberSet, has_number}

-- a block and a vreg
abbrev pub Pair : Type 0
Pair = ℕ × VirtualRegister

-- whether a list has a pair
unfoldable pub lists : List Pair → Pair → Bool
lists ps p = list_any (λ q. nat_eq q.0 p.0 && is_vreg q.1 p.1) ps

-- sets of vregs, one for each of the first blocks, as sets of their encodings
abbrev pub BlockSets : Type 0
BlockSets = List NumberSet

-- whether a block's set has a vreg; a block past the last set has none
unfoldable pub holds : BlockSets → Pair → Bool
holds sets p = slice_index_or (map (λ s. has_number s (bits_of_vreg p.1)) sets) p.0 false

-- the new pairs are the old ones, and beside them a block's vregs that pass a test
abbrev pub Gains : ℕ → (VirtualRegister → Bool) → (Pair → Bool) → (Pair → Bool) → Type 0
Gains b test old new = (p : Pair) → new p ≡ (old p || (nat_eq b p.0 && test p.1))

-- a list gains them, and begins with the old one
pub record Grows (b : ℕ) (test : VirtualRegister → Bool) (old new : List Pair) : Type 0 where
  pub gains : Gains b test (lists old) (lists new)
  pub added : List Pair
  pub begins : new ≡ old ++ added

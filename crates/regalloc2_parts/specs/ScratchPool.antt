-- Scratch places for parallel moves, and the moves made with them.
use Rattle.std.specs.Prelude.{ℕ, ◌≡◌, ◌≢◌, ◌≤◌, ◌⊎◌, Bool, true, false, List, Option, None, Some}
use Rattle.std.specs.Fn.{Mut, Shared, Called}
use Rattle.std.specs.List.{All}
use Rattle.regalloc2_names.specs.declared.RegAllocError.{RegAllocError}
use Rattle.regalloc2_names.specs.declared.RegAllocError.TheVariants.{TooManySpillSlots, Memory as OutOfMemory}
use Rattle.regalloc2_names.specs.declared.sets.PRegSet.{PRegSet}
use Rattle.regalloc2_names.specs.Register.{has_register}
use Rattle.regalloc2_names.specs.Place.{Place, NoPlace, InRegister, InSlot, is_on_stack}
use Rattle.regalloc2_parts.specs.AtOnce.{ends_of, own_names, in_turn}
use Rattle.regalloc2_parts.specs.Resolved.{IsUnnamed}
use Rattle.regalloc2_parts.specs.Computed.{IsComputedMove}
use Rattle.regalloc2_parts.specs.declared.moves.MoveFault.{MoveFault}
use Rattle.regalloc2_parts.specs.declared.moves.MoveFault.TheVariants.{NoSlot, Memory}
use Rattle.regalloc2_parts.specs.declared.scratch_pool.ScratchPair.{ScratchPair}
use Rattle.regalloc2_parts.specs.declared.scratch_pool.ScratchPool.{ScratchPool}

-- moves that carry no value
abbrev pub Moves : Type 0
Moves = List (Place × Place × Unit {0})

-- the place is one of the two
abbrev pub IsOfScratchPair : ScratchPair → Place → Type 0
IsOfScratchPair pair p = (pair.first ≡ Some p) ⊎ (pair.second ≡ Some p)

-- the place is one of the first `taken` of the two
abbrev pub IsScratchTaken : ScratchPair → ℕ → Place → Type 0
IsScratchTaken pair taken p = ((pair.first ≡ Some p) × (1 ≤ taken)) ⊎ ((pair.second ≡ Some p) × (2 ≤ taken))

-- the two differ
abbrev pub DoDiffer : ScratchPair → Type 0
DoDiffer pair = (p q : Place) → pair.first ≡ Some p → pair.second ≡ Some q → p ≢ q

-- the first call returns the first, the next call the second, and the one after it none
abbrev pub YieldsInOrder : {F : Type 0} → Mut F (Unit {0}) (Option Place) → F → ScratchPair → Type 0
YieldsInOrder {F} g f pair =
    (a : Option Place) (f1 : F) → Called g f tt a f1 → (a ≡ pair.first)
    × ((b : Option Place) (f2 : F) → Called g f1 tt b f2 → (b ≡ pair.second)
    × ((d : Option Place) (f3 : F) → Called g f2 tt d f3 → d ≡ None))

-- a call returns whether a place is on the stack, and may return that
abbrev pub DecidesStack : {H : Type 0} → Shared H (Place × Unit {0}) Bool → H → PRegSet → Type 0
DecidesStack g f fixed_stack = (p : Place) (b : Bool) → g.post f (p, tt) b → b ≡ is_on_stack fixed_stack p

abbrev pub MayDecideStack : {H : Type 0} → Shared H (Place × Unit {0}) Bool → H → PRegSet → Type 0
MayDecideStack g f fixed_stack = (p : Place) → g.post f (p, tt) (is_on_stack fixed_stack p)

-- not both places are on the stack
abbrev pub AreNotBothOnStack : PRegSet → Place → Place → Type 0
AreNotBothOnStack fixed_stack p q = true ≡ is_on_stack fixed_stack p → true ≡ is_on_stack fixed_stack q → ⊥

-- registers and slots that serve the moves: no move names them, they differ, and of registers none is on the stack
pub record IsUsableFor (l : ScratchPool) (ms : Moves) : Type 0 where
  pub free : (p : Place) → IsOfScratchPair l.registers p → (p ≢ NoPlace) × IsUnnamed p ms × (is_on_stack l.fixed_stack p ≡ false)
  pub unused : (n : Place) → IsOfScratchPair l.slots n → IsUnnamed n ms × ((k : ℕ) × (n ≡ InSlot k))
  pub registers_differ : DoDiffer l.registers
  pub slots_differ : DoDiffer l.slots
  pub slots_in_order : l.slots.first ≡ None → l.slots.second ≡ None
  pub borrowed : has_register l.fixed_stack l.borrowed ≡ false

-- The moves `made`, one after another, do what the given ones do, except in scratch places: all registers, and the first `taken` slots.
pub record IsOrderedWith (l : ScratchPool) (taken : ℕ) (given made : Moves) : Type 0 where
  pub same : (q : Place) → q ≢ NoPlace → (IsOfScratchPair l.registers q → ⊥) → (IsScratchTaken l.slots taken q → ⊥) →
      in_turn (ends_of made) own_names q ≡ in_turn (ends_of given) own_names q
  pub each : All (IsComputedMove (AreNotBothOnStack l.fixed_stack) (λ p. IsOfScratchPair l.registers p
      ⊎ (IsScratchTaken l.slots taken p ⊎ (p ≡ InRegister l.borrowed))) given)
      made

-- the first or the second slot of the pair is missing
abbrev pub HasTooFewSlots : ScratchPair → Type 0
HasTooFewSlots pair = (pair.first ≡ None) ⊎ (pair.second ≡ None)

-- the pair has the first `taken` places
abbrev pub AreThere : ScratchPair → ℕ → Type 0
AreThere pair taken = (taken ≤ 2) × (1 ≤ taken → (p : Place) × (pair.first ≡ Some p)) × (2 ≤ taken → (p : Place) × (pair.second ≡ Some p))

-- an error of moves as an error of an allocation
abbrev pub error_of : MoveFault → RegAllocError
error_of NoSlot = TooManySpillSlots
error_of Memory = OutOfMemory

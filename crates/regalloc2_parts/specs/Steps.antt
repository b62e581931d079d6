-- What private functions require, and what they guarantee to the public ones that call them, as one record each. No public contract cites this.
use Rattle.std.specs.Prelude.{◌≡◌, ◌<◌, ◌≤◌, ℕ, Bool, true, false, List, Option, None, Some, Result, IfOk, IfErr, IsOk, length, reverse, slice_index_or}
use Rattle.std.specs.Fn.{Mut, Shared}
use Rattle.std.specs.List.{All}
use Rattle.regalloc2_names.specs.Place.{Place}
use Rattle.regalloc2_parts.specs.AtOnce.{ends_of, IsOfMoves}
use Rattle.regalloc2_parts.specs.Giving.{AreMovesApart, AreNexts, IsOrder}
use Rattle.regalloc2_parts.specs.Resolved.{moves_listed, has_scratch, IsResolution, IsRunnable}
use Rattle.regalloc2_parts.specs.ScratchPool.{AreNotBothOnStack, AreThere, DecidesStack, HasTooFewSlots, IsOrderedWith, IsUsableFor, MayDecideStack}
use Rattle.regalloc2_parts.specs.ScratchPool.{YieldsInOrder}
use Rattle.regalloc2_parts.specs.declared.moves.MoveFault.{MoveFault}
use Rattle.regalloc2_parts.specs.declared.moves.MoveFault.TheVariants.{NoSlot}
use Rattle.regalloc2_parts.specs.declared.moves.resolved.MoveVecWithScratch.{MoveVecWithScratch}
use Rattle.regalloc2_parts.specs.declared.moves.scratch.MoveAndScratchResolver.{MoveAndScratchResolver}
use Rattle.regalloc2_parts.specs.declared.scratch_pool.OrderedMoves.{OrderedMoves}
use Rattle.regalloc2_parts.specs.declared.scratch_pool.ScratchPool.{ScratchPool}

-- the moves r do what the parallel moves ms do, and can be run
pub record IsRunnableResolution {T A : Type 0} (ms : List (Place × Place × T)) (r : MoveVecWithScratch T A) : Type 0 where
  pub resolved : IsResolution ms (has_scratch r) (moves_listed r)
  pub runnable : IsRunnable r

-- moves are to be put in the order that their nexts ask for
pub record CanReorder {T : Type 0} (ms : List (Place × Place × T)) (ks : List ℕ) : Type 0 where
  pub apart : AreMovesApart (ends_of ms)
  pub nexts : AreNexts (ends_of ms) ks
  pub indexed : length ks ≡ length ms

-- moves r are the moves ms in the order that their nexts ask for, and as many where no cycle was opened
pub record IsTurned {T A : Type 0} (ms : List (Place × Place × T)) (nexts : List ℕ) (r : MoveVecWithScratch T A) : Type 0 where
  pub given : List (Place × Place × T)
  pub order : IsOrder (ends_of ms) nexts (ends_of given)
  pub of_moves : All (IsOfMoves ms) given
  pub turned : moves_listed r ≡ reverse given
  pub more : has_scratch r ≡ true → length ms < length (moves_listed r)
  pub few : has_scratch r ≡ false → length (moves_listed r) ≤ length ms

-- the moves in the order that their nexts ask for; none where no move has a next, and they may stay as they are
abbrev pub IsReordered : {T A : Type 0} → List (Place × Place × T) → List ℕ → Option (MoveVecWithScratch T A) → Type 0
IsReordered ms nexts None = (k : ℕ) → k < length nexts → length nexts ≤ slice_index_or nexts k 0
IsReordered ms nexts (Some r) = IsTurned ms nexts r

-- a resolver's closures return the places of a pool, which serve the moves
pub record CanOrder {F G H A : Type 0} (pre : F → Type 0) (slots_pre : G → Type 0) (callable : H → Type 0) (r : Mut F (Unit {0}) (Option Place))
    (s : Mut G (Unit {0}) (Option Place)) (m : Shared H (Place × Unit {0}) Bool) (resolver : MoveAndScratchResolver F G H) (l : ScratchPool)
    (moves : MoveVecWithScratch (Unit {0}) A) : Type 0 where
  pub registers : (f : F) → pre f
  pub slots : (g : G) → slots_pre g
  pub stack : callable resolver.is_stack_alloc
  pub borrowed : resolver.borrowed_scratch_reg ≡ l.borrowed
  pub first : YieldsInOrder r resolver.find_free_reg l.registers
  pub second : YieldsInOrder s resolver.get_stackslot l.slots
  pub tells : DecidesStack m resolver.is_stack_alloc l.fixed_stack
  pub may_tell : MayDecideStack m resolver.is_stack_alloc l.fixed_stack
  pub serves : IsUsableFor l (moves_listed moves)
  pub runnable : IsRunnable moves

-- the moves were ordered with the places of a pool, or why they were not
pub record HasOrdered {A : Type 0} (l : ScratchPool) (moves : MoveVecWithScratch (Unit {0}) A) (result : Result (OrderedMoves A) MoveFault) : Type 0 where
  pub made : IfOk result (λ m. IsOrderedWith l m.slots (moves_listed moves) m.moves.items)
  pub there : IfOk result (λ m. AreThere l.slots m.slots)
  pub err : IfErr result (λ e. e ≡ NoSlot → HasTooFewSlots l.slots)
  pub plain : has_scratch moves ≡ false → All (λ m. AreNotBothOnStack l.fixed_stack m.0 m.1) (moves_listed moves) → IsOk result

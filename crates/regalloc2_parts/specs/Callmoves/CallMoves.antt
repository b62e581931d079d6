-- The moves of one call, their errors, and the scheduled moves.
use Rattle.std.specs.Prelude.{ℕ, ◌≡◌, ◌≢◌, ◌+◌, ◌<◌, ◌≤◌, ◌⊎◌, true, List, map, length, slice_index_or, Option, None, Some}
use Rattle.std.specs.List.{All}
use Rattle.regalloc2_names.specs.declared.sets.PRegSet.{PRegSet}
use Rattle.regalloc2_names.specs.Place.{Place, NoPlace, InRegister, InSlot, is_on_stack}
use Rattle.regalloc2_names.specs.Register.{Register, has_register}
use Rattle.regalloc2_parts.specs.AtOnce.{ends_of, own_names, in_turn}
use Rattle.regalloc2_parts.specs.declared.moves.MoveFault.{MoveFault}
use Rattle.regalloc2_parts.specs.declared.moves.MoveFault.TheVariants.{NoSlot as NoMoveSlot, Memory as NoMemory}
use Rattle.regalloc2_parts.specs.declared.scratch_pool.ScratchPool.{ScratchPool}
use Rattle.regalloc2_parts.specs.ScratchPool.{IsOfScratchPair, DoDiffer, HasTooFewSlots}
use Rattle.regalloc2_parts.specs.declared.callmoves.CallFault.{CallFault}
use Rattle.regalloc2_parts.specs.declared.callmoves.CallFault.TheVariants.{NoneNamed, TwoSources, InUse, NoSlot, Memory}
use Rattle.regalloc2_parts.specs.declared.callmoves.CallFrame.{CallFrame}
use Rattle.regalloc2_parts.specs.Callmoves.Frame.{free_at}

-- the moves of a call: each from a place to a place
abbrev pub CallMoves : Type 0
CallMoves = List (Place × Place)

-- the moves of a call, each with an empty value
abbrev pub with_units : CallMoves → List (Place × Place × Unit {0})
with_units ms = map (λ m. (m.0, m.1, tt)) ms

abbrev pub call_move : CallMoves → ℕ → Place × Place
call_move ms k = slice_index_or ms k (NoPlace, NoPlace)

abbrev pub source : CallMoves → ℕ → Place
source ms k = (call_move ms k).0

abbrev pub target : CallMoves → ℕ → Place
target ms k = (call_move ms k).1

-- below n there is no number at which P holds
abbrev pub HasNone : ℕ → (ℕ → Type 0) → Type 0
HasNone n P = (k : ℕ) → k < n → P k → ⊥

-- the lowest number at which P holds, which is below n
abbrev pub IsLowest : ℕ → (ℕ → Type 0) → ℕ → Type 0
IsLowest n P k = (k < n) × P k × HasNone k P

-- the lowest number at which P holds, or none if it holds at none below n
abbrev pub IsFirstOrNone : ℕ → (ℕ → Type 0) → Option ℕ → Type 0
IsFirstOrNone n P None = HasNone n P
IsFirstOrNone n P (Some k) = IsLowest n P k

-- a move names no place
abbrev pub NamesNoPlace : CallMoves → ℕ → Type 0
NamesNoPlace ms k = (source ms k ≡ NoPlace) ⊎ (target ms k ≡ NoPlace)

-- a move before k has the destination of the move k, and another source
abbrev pub HasOtherSource : CallMoves → ℕ → Type 0
HasOtherSource ms k = (j : ℕ) × (j < k) × (target ms j ≡ target ms k) × (source ms j ≢ source ms k)

-- a move is from the place or to it
abbrev pub MovesName : CallMoves → Place → Type 0
MovesName ms p = (k : ℕ) × (k < length ms) × ((source ms k ≡ p) ⊎ (target ms k ≡ p))

-- a register that isn't free: a move names it, it occurs earlier in the list, or it represents a stack place
abbrev pub IsNotFree : {A : Type 0} → CallMoves → CallFrame A → ℕ → Type 0
IsNotFree ms f k =
    MovesName ms (InRegister (free_at f k))
    ⊎ (((j : ℕ) × (j < k) × (free_at f j ≡ free_at f k))
    ⊎ (has_register f.stack_pregs (free_at f k) ≡ true))

-- a register is one of the free ones
abbrev pub IsFreeRegister : {A : Type 0} → CallFrame A → Register → Type 0
IsFreeRegister f r = (k : ℕ) × (k < length f.free_regs.items) × (free_at f k ≡ r)

-- the borrowed register is one of the free ones, or represents a stack place
abbrev pub IsBorrowedTaken : {A : Type 0} → CallFrame A → Type 0
IsBorrowedTaken f = IsFreeRegister f f.borrowed ⊎ (has_register f.stack_pregs f.borrowed ≡ true)

-- a slot of the range that a move names
abbrev pub IsNamedSlot : {A : Type 0} → CallMoves → CallFrame A → ℕ → Type 0
IsNamedSlot ms f n = (f.slots.start ≤ n) × MovesName ms (InSlot n)

-- the number of a place that is a slot from start on and below lowest, else lowest
pub record IsLower (p : Place) (start lowest result : ℕ) : Type 0 where
  pub least : result ≤ lowest
  pub slot : result < lowest → (start ≤ result) × (p ≡ InSlot result)
  pub other : (n : ℕ) → start ≤ n → n < result → p ≢ InSlot n

-- the first place in use that should be free: of the free registers, then the borrowed one, then the slots
abbrev pub IsFirstInUse : {A : Type 0} → CallMoves → CallFrame A → Place → Type 0
IsFirstInUse ms f p =
    ((k : ℕ) × IsLowest (length f.free_regs.items) (IsNotFree ms f) k × (p ≡ InRegister (free_at f k)))
    ⊎ (HasNone (length f.free_regs.items) (IsNotFree ms f) × IsBorrowedTaken f × (p ≡ InRegister f.borrowed))
    ⊎ (HasNone (length f.free_regs.items) (IsNotFree ms f) × (IsBorrowedTaken f → ⊥) × ((n : ℕ) × IsLowest f.slots.«end» (IsNamedSlot ms f) n × (p ≡ InSlot n)))

-- nothing is in use that should be free
pub record IsFree {A : Type 0} (ms : CallMoves) (f : CallFrame A) : Type 0 where
  pub registers : HasNone (length f.free_regs.items) (IsNotFree ms f)
  pub borrowed : IsBorrowedTaken f → ⊥
  pub slots : HasNone f.slots.«end» (IsNamedSlot ms f)

-- the place, or nothing
abbrev pub IsFirstInUseOrNone : {A : Type 0} → CallMoves → CallFrame A → Option Place → Type 0
IsFirstInUseOrNone ms f None = IsFree ms f
IsFirstInUseOrNone ms f (Some p) = IsFirstInUse ms f p

-- moves and scratch resources without error
pub record IsProper {A : Type 0} (ms : CallMoves) (f : CallFrame A) : Type 0 where
  pub named : HasNone (length ms) (NamesNoPlace ms)
  pub one_source : HasNone (length ms) (HasOtherSource ms)
  pub free : IsFree ms f

-- what an error says: of the first three variants the first that applies, else one of the last two
abbrev pub IsCallFault : {A : Type 0} → CallMoves → CallFrame A → CallFault → Type 0
IsCallFault ms f (NoneNamed k) = IsLowest (length ms) (NamesNoPlace ms) k
IsCallFault ms f (TwoSources p) = HasNone (length ms) (NamesNoPlace ms) × ((k : ℕ) × IsLowest (length ms) (HasOtherSource ms) k × (p ≡ target ms k))
IsCallFault ms f (InUse p) = HasNone (length ms) (NamesNoPlace ms) × HasNone (length ms) (HasOtherSource ms) × IsFirstInUse ms f p
IsCallFault ms f NoSlot = IsProper ms f × (f.slots.«end» ≤ f.slots.start + 1)
IsCallFault ms f Memory = IsProper ms f

-- no error, or the first one
abbrev pub IsFoundOrNone : {A : Type 0} → CallMoves → CallFrame A → Option CallFault → Type 0
IsFoundOrNone ms f None = IsProper ms f
IsFoundOrNone ms f (Some e) = IsCallFault ms f e

-- an error of the resolver as one of a call
abbrev pub fault_of : MoveFault → CallFault
fault_of NoMoveSlot = NoSlot
fault_of NoMemory = Memory

-- a free register, or a slot of the range
abbrev pub IsLent : {A : Type 0} → CallFrame A → Place → Type 0
IsLent f p =
    ((k : ℕ) × (k < length f.free_regs.items) × (p ≡ InRegister (free_at f k)))
    ⊎ ((n : ℕ) × (f.slots.start ≤ n) × (n < f.slots.«end») × (p ≡ InSlot n))

-- scratch places that a frame lends: free registers, slots of its range, and the borrowed register
pub record IsPoolOf {A : Type 0} (f : CallFrame A) (l : ScratchPool) : Type 0 where
  pub registers : (p : Place) → IsOfScratchPair l.registers p → (k : ℕ) × (k < length f.free_regs.items) × (p ≡ InRegister (free_at f k))
  pub slots : (p : Place) → IsOfScratchPair l.slots p → (n : ℕ) × (f.slots.start ≤ n) × (n < f.slots.«end») × (p ≡ InSlot n)
  -- two registers have two indexes in the frame, and two slots differ
  pub registers_apart : (p q : Place) → l.registers.first ≡ Some p → l.registers.second ≡ Some q → (j : ℕ) × (k : ℕ) × (j < k) × (k < length f.free_regs.items)
      × (p ≡ InRegister (free_at f j)) × (q ≡ InRegister (free_at f k))
  pub slots_apart : DoDiffer l.slots
  -- a slot is missing only where the range has fewer than two
  pub slots_missing : HasTooFewSlots l.slots → f.slots.«end» ≤ f.slots.start + 1
  pub slots_in_order : l.slots.first ≡ None → l.slots.second ≡ None
  pub fixed_stack : l.fixed_stack ≡ f.stack_pregs
  pub borrowed : l.borrowed ≡ f.borrowed

-- a move between places that are not both on the stack
pub record IsMove (stack_pregs : PRegSet) (from to : Place) : Type 0 where
  pub apart : is_on_stack stack_pregs from ≡ true → is_on_stack stack_pregs to ≡ true → ⊥
  pub between : (from ≢ NoPlace) × (to ≢ NoPlace)

-- The moves `made`, one after another, do what the parallel moves ms do, except in free registers and slots.
pub record IsScheduled {A : Type 0} (ms : CallMoves) (f : CallFrame A) (made : List (Place × Place × Unit {0})) : Type 0 where
  -- each destination has what its source had at first
  pub assigned : (k : ℕ) → k < length ms → in_turn (ends_of made) own_names (target ms k) ≡ source ms k
  -- each other place, but for free registers and slots of the range, has what it had
  pub kept : (q : Place) → q ≢ NoPlace → (IsLent f q → ⊥) → HasNone (length ms) (λ k. target ms k ≡ q) → in_turn (ends_of made) own_names q ≡ q
  pub each : All (λ m. IsMove f.stack_pregs m.0 m.1) made

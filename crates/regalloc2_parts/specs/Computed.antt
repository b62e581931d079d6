-- What the closures of a resolver of scratch places return and must guarantee, and the moves that it makes.
use Rattle.std.specs.Prelude.{◌≡◌, ◌≢◌, ◌⊎◌, ◌≤◌, Bool, true, false, List, length, Contains, Option, None, Some, Result, MatchResult, IsOk}
use Rattle.std.specs.List.{All, FoldsTo}
use Rattle.smallvec.specs.SmallVec.{SmallVec}
use Rattle.regalloc2_names.specs.Place.{Place, NoPlace, InRegister}
use Rattle.regalloc2_parts.specs.declared.moves.MoveFault.{MoveFault}
use Rattle.regalloc2_parts.specs.declared.moves.MoveFault.TheVariants.{NoSlot}
use Rattle.regalloc2_parts.specs.declared.moves.scratch.Handed.{Handed}
use Rattle.regalloc2_parts.specs.declared.moves.scratch.Handed.TheVariants.{Register, Slot}
use Rattle.regalloc2_parts.specs.declared.moves.passing.Held.{Held}
use Rattle.regalloc2_parts.specs.declared.moves.passing.Held.TheVariants.{Free, InRegister as Borrowed}
use Rattle.regalloc2_parts.specs.declared.moves.passing.ScratchReg.{ScratchReg}
use Rattle.regalloc2_parts.specs.declared.moves.scratch.MoveAndScratchResolver.{MoveAndScratchResolver}
use Rattle.regalloc2_parts.specs.declared.moves.resolved.MoveVecWithScratch.{MoveVecWithScratch}
use Rattle.regalloc2_parts.specs.AtOnce.{ends_of, own_names, in_turn}
use Rattle.regalloc2_parts.specs.Resolved.{moves_listed, has_scratch, IsRunnable, IsUnnamed}

module _ {G : Type 0} (step : G → Option Place → G → Type 0) where
  -- what a closure returned as it went from the state old to the state new, in at most two calls
  pub record Asked (old new : G) : Type 0 where
    pub answers : List (Option Place)
    pub few : length answers ≤ 2
    pub calls : FoldsTo step old answers new

  -- the closure may be called in the state s, and once more after that, where pre says in which states it may be called
  abbrev pub MayBeAskedTwice : (G → Type 0) → G → Type 0
  MayBeAskedTwice pre s = pre s × ((a : Option Place) (t : G) → step s a t → pre t)

  -- the place is what the first or the second call from the state s on returns
  abbrev pub MayAnswer : G → Place → Type 0
  MayAnswer s p =
      ((next : G) × step s (Some p) next)
      ⊎ ((first : Option Place) × (middle : G) × (next : G) × step s first middle × step middle (Some p) next)

  -- the first call and the second return different places
  abbrev pub AnswersDiffer : G → Type 0
  AnswersDiffer s = (p q : Place) (middle next : G) → step s (Some p) middle → step middle (Some q) next → p ≢ q

-- What the closures must guarantee to the moves: registers and slots that no move names and that differ, none of the registers a stack place.
pub record Owes {F G T : Type 0} (registers : F → Option Place → F → Type 0) (slots : G → Option Place → G → Type 0) (stack : Place → Bool → Type 0)
    (borrowed : Place) (ms : List (Place × Place × T)) (f : F) (g : G) : Type 0 where
  -- each returned place is one that no move names
  pub free : (p : Place) → MayAnswer registers f p → (p ≢ NoPlace) × IsUnnamed p ms
  pub unused : (p : Place) → MayAnswer slots g p → (p ≢ NoPlace) × IsUnnamed p ms
  -- all returned places differ
  pub registers_differ : AnswersDiffer registers f
  pub slots_differ : AnswersDiffer slots g
  pub apart : (p q : Place) → MayAnswer registers f p → MayAnswer slots g q → p ≢ q
  -- no register represents a stack place
  pub no_memory : (p : Place) → MayAnswer registers f p → stack p true → ⊥
  pub borrowed_no_memory : stack borrowed true → ⊥

-- What a resolver requires: its closures may be called, twice if they hand out places, and serve the moves, and the moves can be made.
pub record CanCompute {F G H T A : Type 0} (register_step : F → Option Place → F → Type 0) (register_pre : F → Type 0)
    (slot_step : G → Option Place → G → Type 0) (slot_pre : G → Type 0) (stack_post : H → Place → Bool → Type 0) (is_callable : H → Type 0)
    (resolver : MoveAndScratchResolver F G H) (moves : MoveVecWithScratch T A) : Type 0 where
  pub registers : MayBeAskedTwice register_step register_pre resolver.find_free_reg
  pub slots : MayBeAskedTwice slot_step slot_pre resolver.get_stackslot
  pub stack : is_callable resolver.is_stack_alloc
  pub runnable : IsRunnable moves
  pub owes : Owes register_step slot_step (stack_post resolver.is_stack_alloc) (InRegister resolver.borrowed_scratch_reg) (moves_listed moves)
      resolver.find_free_reg resolver.get_stackslot

-- both closures may be called
pub record CanAsk (register slot : Type 0) : Type 0 where
  pub registers : register
  pub slots : slot

-- the register or, if there is none, the slot that was returned
abbrev pub IsHanding : {F G : Type 0} → (F → Option Place → F → Type 0) → (G → Option Place → G → Type 0) → F → F → G → G → Handed → Type 0
IsHanding registers slots f f' g g' (Register p) = registers f (Some p) f' × (g' ≡ g)
IsHanding registers slots f f' g g' (Slot p) = registers f None f' × slots g (Some p) g'

-- neither a register nor a slot was returned
abbrev pub IsRefusing : {F G : Type 0} → (F → Option Place → F → Type 0) → (G → Option Place → G → Type 0) → F → F → G → G → Type 0
IsRefusing registers slots f f' g g' = registers f None f' × slots g None g'

-- the register through which moves go, and the slot in which it is saved: a free register needs none, and takes its place
abbrev pub IsVia : Handed → Place → ScratchReg → Held → Type 0
IsVia (Register p) borrowed via held = (via.register ≡ p) × (via.save ≡ p) × (held ≡ Free)
IsVia (Slot p) borrowed via held = (via.register ≡ borrowed) × (via.save ≡ p) × (held ≡ Borrowed)

abbrev pub handed_place : Handed → Place
handed_place (Register p) = p
handed_place (Slot p) = p

-- a scratch place was handed out, if one is needed
abbrev pub IsPlaceChosen : {F G : Type 0} → (F → Option Place → F → Type 0) → (G → Option Place → G → Type 0) → F → F → G → G → Bool → Place → Type 0
IsPlaceChosen registers slots f f' g g' is_needed place =
    ((is_needed ≡ false) × (f' ≡ f) × (g' ≡ g))
    ⊎ ((h : Handed) × (is_needed ≡ true) × IsHanding registers slots f f' g g' h × (place ≡ handed_place h))

-- a place is one of the returned ones
abbrev pub IsAnswer : List (Option Place) → List (Option Place) → Place → Type 0
IsAnswer registers slots p = Contains registers (Some p) ⊎ Contains slots (Some p)

-- the place isn't on the stack: a call of the closure said so, or no call can say that it is
abbrev pub IsAway : (Place → Bool → Type 0) → Place → Type 0
IsAway stack p = stack p false ⊎ (stack p true → ⊥)

-- one of two places isn't on the stack
abbrev pub IsEitherAway : (Place → Bool → Type 0) → Place → Place → Type 0
IsEitherAway stack p q = IsAway stack p ⊎ IsAway stack q

-- A move made of the given ones.
pub record IsComputedMove {T : Type 0} (are_apart : Place → Place → Type 0) (lent : Place → Type 0) (given : List (Place × Place × T))
    (m : Place × Place × T) : Type 0 where
  -- from a place to a place, one of them no stack place
  pub apart : are_apart m.0 m.1
  pub between : (m.0 ≢ NoPlace) × (m.1 ≢ NoPlace)
  -- each of its ends is an end of a given move or a scratch place; with the destination of a given move it carries that move's value
  pub source : lent m.0 ⊎ ((n : Place × Place × T) × Contains given n × (m.0 ≡ n.0))
  pub target : lent m.1 ⊎ ((n : Place × Place × T) × Contains given n × (m.1 ≡ n.1) × (m.2 ≡ n.2))

-- none of the moves is stack-to-stack
abbrev pub AreApartOnStack : {T : Type 0} → (Place → Bool → Type 0) → List (Place × Place × T) → Type 0
AreApartOnStack stack ms = All (λ m. stack m.0 true → stack m.1 true → ⊥) ms

-- for one end of each move, a call of the closure said that it isn't on the stack
abbrev pub AreSeenApart : {T : Type 0} → (Place → Bool → Type 0) → List (Place × Place × T) → Type 0
AreSeenApart stack ms = All (λ m. stack m.0 false ⊎ stack m.1 false) ms

-- The moves `made`, one after another, do what the given ones do, and none is stack-to-stack.
pub record IsComputed {T : Type 0} (stack : Place → Bool → Type 0) (borrowed : Place) (handed : Place → Type 0) (scratch : Bool)
    (given made : List (Place × Place × T)) : Type 0 where
  -- each place but the scratch places ends as the given moves leave it, the borrowed register too
  pub same : (q : Place) → q ≢ NoPlace → (handed q → ⊥) → in_turn (ends_of made) own_names q ≡ in_turn (ends_of given) own_names q
  pub each : All (IsComputedMove (IsEitherAway stack) (λ p. handed p ⊎ (p ≡ borrowed)) given) made
  -- if there is nothing to do they come back unchanged
  pub plain : scratch ≡ false → AreApartOnStack stack given → made ≡ given

-- What the closures returned as the resolver went from the state old to the state new, and the moves that it made of the given ones or why it made
-- none.
pub record Computes {F G H T A : Type 0} (registers : F → Option Place → F → Type 0) (slots : G → Option Place → G → Type 0) (stack : Place → Bool → Type 0)
    (old new : MoveAndScratchResolver F G H) (moves : MoveVecWithScratch T A) (result : Result (SmallVec (Place × Place × T)) MoveFault) : Type 0 where
  pub asked : Asked registers old.find_free_reg new.find_free_reg
  pub slots_asked : Asked slots old.get_stackslot new.get_stackslot
  pub stack_kept : new.is_stack_alloc ≡ old.is_stack_alloc
  pub borrowed_kept : new.borrowed_scratch_reg ≡ old.borrowed_scratch_reg
  -- the moves that are made, or why there are none
  pub outcome : MatchResult result
      (λ made. IsComputed stack (InRegister old.borrowed_scratch_reg) (IsAnswer asked.answers slots_asked.answers) (has_scratch moves) (moves_listed moves)
      made.items)
      (λ fault. fault ≡ NoSlot → Contains slots_asked.answers None)
  -- where nothing is needed nothing fails
  pub plain : has_scratch moves ≡ false → AreApartOnStack stack (moves_listed moves) → IsOk result

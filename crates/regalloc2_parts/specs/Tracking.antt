-- Stack-to-stack moves by way of a register, which may have to hold another value meanwhile.
use Rattle.std.specs.Prelude.{◌≡◌, ◌≢◌, ◌⊎◌, Bool, true, false, List, Contains}
use Rattle.std.specs.List.{All}
use Rattle.regalloc2_names.specs.Place.{Place, NoPlace}
use Rattle.regalloc2_parts.specs.declared.moves.passing.Held.{Held}
use Rattle.regalloc2_parts.specs.declared.moves.passing.Held.TheVariants.{Free, InRegister, InBoth, InSave}
use Rattle.regalloc2_parts.specs.declared.moves.passing.ScratchReg.{ScratchReg}
use Rattle.regalloc2_parts.specs.AtOnce.{CellsOf, ends_of, own_names, in_turn}
use Rattle.regalloc2_parts.specs.Resolved.{IsUnnamed, AreBetweenPlaces}
use Rattle.regalloc2_parts.specs.Computed.{IsEitherAway}

-- a free register needs no save slot, and takes its place
abbrev pub FreeNeedsNoSave : Held → Place → Place → Type 0
FreeNeedsNoSave held register save = held ≡ Free → register ≡ save

-- where the value is that the moves put into the register
abbrev pub stands_where : Held → Type 0 → Type 0 → Type 0
stands_where Free here there = Unit {0}
stands_where InRegister here there = here
stands_where InBoth here there = here × there
stands_where InSave here there = there

-- d is c, the cells that the moves make, except in the save slot and for what passes through the register; a register that is its own save slot
-- counts as that
pub record Tracks (register save : Place) (held : Held) (c d : CellsOf Place) : Type 0 where
  pub fits : FreeNeedsNoSave held register save
  pub others : (q : Place) → q ≢ register → q ≢ save → d q ≡ c q
  pub borrowed : register ≢ save → stands_where held (d register ≡ c register) (d save ≡ c register)

-- the register may be filled with something else
abbrev pub CanPass : Held → Type 0
CanPass Free = Unit {0}
CanPass InRegister = ⊥
CanPass InBoth = ⊥
CanPass InSave = Unit {0}

-- nothing has gone through the register yet
abbrev pub IsUnused : Held → Type 0
IsUnused Free = Unit {0}
IsUnused InRegister = Unit {0}
IsUnused InBoth = ⊥
IsUnused InSave = ⊥

-- one of the two places
abbrev pub IsEither : Place → Place → Place → Type 0
IsEither register save p = (p ≡ register) ⊎ (p ≡ save)

-- a move that saves the register or restores it
abbrev pub SavesOrRestores : {T : Type 0} → Place → Place → Place × Place × T → Type 0
SavesOrRestores register save x = ((x.0 ≡ register) × (x.1 ≡ save)) ⊎ ((x.0 ≡ save) × (x.1 ≡ register))

-- one of the two moves that make the move m by way of the register
abbrev pub GoesThrough : {T : Type 0} → Place → Place × Place × T → Place × Place × T → Type 0
GoesThrough register m x = ((x.0 ≡ m.0) × (x.1 ≡ register)) ⊎ ((x.0 ≡ register) × (x.1 ≡ m.1) × (x.2 ≡ m.2))

-- a move that is made for the move m: by way of the register if it is stack-to-stack, else as it is
abbrev pub IsMadeFor : {T : Type 0} → Place → Bool → Place × Place × T → Place × Place × T → Type 0
IsMadeFor register true m x = GoesThrough register m x
IsMadeFor register false m x = x ≡ m

-- A move that is made for the moves ms, not stack-to-stack.
pub record IsMade {T : Type 0} (stack : Place → Bool → Type 0) (register save : Place) (ms : List (Place × Place × T)) (m : Place × Place × T) : Type 0 where
  pub apart : IsEitherAway stack m.0 m.1
  pub between : (m.0 ≢ NoPlace) × (m.1 ≢ NoPlace)
  pub source : IsEither register save m.0 ⊎ ((n : Place × Place × T) × Contains ms n × (m.0 ≡ n.0))
  pub target : IsEither register save m.1 ⊎ ((n : Place × Place × T) × Contains ms n × (m.1 ≡ n.1) × (m.2 ≡ n.2))

-- the moves can be made by way of the register, which the closure never reports as a stack place, and the slot, which no move names
pub record CanExpand {T : Type 0} (stack : Place → Bool → Type 0) (register save : Place) (held : Held) (ms : List (Place × Place × T)) : Type 0 where
  pub no_memory : stack register true → ⊥
  pub first : IsUnused held
  pub fits : FreeNeedsNoSave held register save
  pub unnamed : IsUnnamed save ms
  pub real : (register ≢ NoPlace) × (save ≢ NoPlace)
  pub between : AreBetweenPlaces ms

-- the closure may be called for each place, and with what it returns the moves can be made by way of the register and the slot
pub record CanExpandBy {H T : Type 0} (is_callable : H → Type 0) (answers : H → Place → Bool → Type 0) (closure : H) (via : ScratchReg) (held : Held)
    (ms : List (Place × Place × T)) : Type 0 where
  pub callable : is_callable closure
  pub can : CanExpand (answers closure) via.register via.save held ms

-- The moves `made` do what the moves ms do, except in the slot, and none of them is stack-to-stack.
pub record IsExpanded {T : Type 0} (stack : Place → Bool → Type 0) (register save : Place) (ms made : List (Place × Place × T)) : Type 0 where
  pub same : (q : Place) → q ≢ save → in_turn (ends_of made) own_names q ≡ in_turn (ends_of ms) own_names q
  pub each : All (IsMade stack register save ms) made

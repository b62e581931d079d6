-- Resolved moves, with or without a place that is still to be chosen.
use Rattle.std.specs.Prelude.{◌≡◌, ◌≢◌, ◌↔◌, ◌≤◌, IsTrue, length, Bool, true, false, if◌then◌else◌, List, map, Option, None, Some}
use Rattle.std.specs.List.{All}
use Rattle.smallvec.specs.SmallVec.{SmallVec}
use Rattle.regalloc2_names.specs.Place.{Place, NoPlace, is_no_place}
use Rattle.regalloc2_parts.specs.declared.moves.resolved.MoveVecWithScratch.{MoveVecWithScratch}
use Rattle.regalloc2_parts.specs.declared.moves.resolved.MoveVecWithScratch.TheVariants.{NoScratch, Scratch}
use Rattle.regalloc2_parts.specs.AtOnce.{ends_of, own_names, in_turn, AreAtOnce, IsOfMoves, WritesNoneFirst}
use Rattle.regalloc2_parts.specs.Cycles.{HasCycle, IsCounted}

-- each move is from a place to a place
abbrev pub AreBetweenPlaces : {T : Type 0} → List (Place × Place × T) → Type 0
AreBetweenPlaces ms = All (λ m. (m.0 ≢ NoPlace) × (m.1 ≢ NoPlace)) ms

-- The moves `made`, one after another, do what the parallel moves ms do.
pub record IsResolution {T : Type 0} (ms : List (Place × Place × T)) (scratch : Bool) (made : List (Place × Place × T)) : Type 0 where
  -- what each place holds then
  pub at_once : AreAtOnce (ends_of ms) own_names (in_turn (ends_of made) own_names)
  -- a scratch place is needed just where there is a cycle
  pub cyclic : IsTrue scratch ↔ HasCycle (ends_of ms)
  -- how many they are
  pub counted : 2 ≤ length ms → IsCounted (ends_of ms) (length made)
  -- no move, or one, comes back as it is
  pub short : length ms ≤ 1 → made ≡ ms
  -- where each move that is made, and its value, come from
  pub of_moves : All (IsOfMoves ms) made
  -- no move names `none`, or `none` is written before it is read
  pub plain : scratch ≡ false → AreBetweenPlaces made
  pub written : WritesNoneFirst (ends_of made)

module _ {T A : Type 0} where
  -- the moves in the order in which they are made
  abbrev pub moves_listed : MoveVecWithScratch T A → List (Place × Place × T)
  moves_listed (NoScratch ms) = ms.items
  moves_listed (Scratch ms) = ms.items

  -- whether a scratch place is still to be chosen
  abbrev pub has_scratch : MoveVecWithScratch T A → Bool
  has_scratch (NoScratch ms) = false
  has_scratch (Scratch ms) = true

  -- the moves where no scratch place is to be chosen
  abbrev pub unscratched : MoveVecWithScratch T A → Option (SmallVec (Place × Place × T))
  unscratched (NoScratch ms) = Some ms
  unscratched (Scratch ms) = None

  -- moves that can be made: none names `none`, or `none` is written before it is read
  abbrev pub IsRunnable : MoveVecWithScratch T A → Type 0
  IsRunnable (NoScratch ms) = AreBetweenPlaces ms.items
  IsRunnable (Scratch ms) = WritesNoneFirst (ends_of ms.items)

-- a place, or the scratch place in place of none
abbrev pub place_or : Place → Place → Place
place_or scratch p = if is_no_place p then scratch else p

abbrev pub filled : {T : Type 0} → Place → Place × Place × T → Place × Place × T
filled scratch m = (place_or scratch m.0, place_or scratch m.1, m.2)

module _ {T A : Type 0} where
  -- the moves with a scratch place chosen
  abbrev pub with_place : Place → MoveVecWithScratch T A → List (Place × Place × T)
  with_place scratch (NoScratch ms) = ms.items
  with_place scratch (Scratch ms) = map (filled scratch) ms.items

-- no move names the place
abbrev pub IsUnnamed : {T : Type 0} → Place → List (Place × Place × T) → Type 0
IsUnnamed p ms = All (λ m. (m.0 ≢ p) × (m.1 ≢ p)) ms

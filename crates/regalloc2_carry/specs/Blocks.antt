-- The obligation of each block, and the theorem on paths.
use Rattle.std.specs.Prelude.{ℕ, ◌≡◌, ◌≢◌, ◌<◌, ◌≤◌, ◌⊎◌, false, List, [], ◌∷◌, length, Contains, Option, Some}
use Rattle.regalloc2_names.specs.Register.{VirtualRegister}
use Rattle.regalloc2_names.specs.Place.{Place}
use Rattle.regalloc2_function.specs.FunctionValue.{FunctionValue, block_at, inst_at}
use Rattle.regalloc2_function.specs.OutputValue.{OutputValue}
use Rattle.regalloc2_semantics.specs.Runs.{first_of, arguments_at, IsDefinitelyAssigned, IsReached}
use Rattle.regalloc2_carry.specs.Listing.{Item, block_items, IsReadIn}
use Rattle.regalloc2_carry.specs.Carry.{Carries}
use Rattle.regalloc2_semantics.specs.Sound.{Undefined, names, HasEdge, target_at, IsParameter, IsEnteredOnce, HasSoundBlocks}
use Rattle.regalloc2_carry.specs.BlockByPoints.{block_walked, Rising, EndsQuiet}
use Rattle.regalloc2_semantics.specs.Laws.{ReadsAgreeOnPaths}

-- no instruction of the block writes v
abbrev pub IsUnwritten : FunctionValue → ℕ → VirtualRegister → Type 0
IsUnwritten f b v = (i : ℕ) → (block_at f b).range.first ≤ i → i < (block_at f b).range.end → Undefined (inst_at f i).operands v

-- v is read by an instruction, or passed on an edge
abbrev pub IsUsed : FunctionValue → VirtualRegister → Type 0
IsUsed f v = ((b : ℕ) × IsReadIn f b v) ⊎ ((b k : ℕ) × HasEdge f b k × Contains (arguments_at f b k) v)

-- a block reads v, or passes it on an edge
abbrev pub IsUsedIn : FunctionValue → ℕ → VirtualRegister → Type 0
IsUsedIn f b v = IsReadIn f b v ⊎ ((k : ℕ) × HasEdge f b k × Contains (arguments_at f b k) v)

-- v may be live out of the block: the block has an edge, and either leaves v unwritten, or another block uses v and
-- leaves it unwritten
abbrev pub IsWantedBehind : FunctionValue → ℕ → VirtualRegister → Type 0
IsWantedBehind f b v = ((k : ℕ) × HasEdge f b k) × (IsUnwritten f b v ⊎ ((c : ℕ) × (c < length f.blocks) × (c ≢ b) × IsUnwritten f c v × IsUsedIn f c v))

-- v is a parameter of a successor that only this block leads to: then the block has no obligation for v
abbrev pub IsExcused : FunctionValue → ℕ → VirtualRegister → Type 0
IsExcused f b v = (k : ℕ) × HasEdge f b k × IsEnteredOnce f (target_at f b k) × IsParameter f (target_at f b k) v

-- the block neither reads v nor passes it
abbrev pub IsSilent : FunctionValue → ℕ → VirtualRegister → Type 0
IsSilent f b v = (IsReadIn f b v → ⊥) × ((k : ℕ) → HasEdge f b k → Contains (arguments_at f b k) v → ⊥)

-- what a block may assume: it neither reads nor passes the vregs for which it has no obligation
abbrev pub ExcusedAreSilent : FunctionValue → ℕ → Type 0
ExcusedAreSilent f b = (v : VirtualRegister) → IsExcused f b v → IsSilent f b v

-- a is the argument passed for the parameter v; if v is listed more than once, its last position counts
unfoldable pub Passes : VirtualRegister → VirtualRegister → List VirtualRegister → List VirtualRegister → Type 0
Passes v a [] arguments = ⊥
Passes v a (p ∷ ps) [] = ⊥
Passes v a (p ∷ ps) (x ∷ xs) = Passes v a ps xs ⊎ ((p ≡ v) × (x ≡ a) × (names v ps ≡ false))

module _ (f : FunctionValue) (slot : VirtualRegister → Option Place) where
  -- where v's value may be assumed to be at the block's beginning: in its slot, unless the block writes v
  abbrev pub StandsBefore : ℕ → VirtualRegister → Place → Type 0
  StandsBefore b v p = IsUnwritten f b v × (slot v ≡ Some p)

  -- where v's value has to be at the block's end: in its slot, if v may be live out and is no parameter of a successor,
  -- and in the slot of each parameter that v is passed to
  abbrev pub StandsAfter : ℕ → VirtualRegister → Place → Type 0
  StandsAfter b v p =
      (((k : ℕ) → HasEdge f b k → names v (block_at f (target_at f b k)).params ≡ false) × IsWantedBehind f b v × (slot v ≡ Some p))
      ⊎ ((k : ℕ) × (u : VirtualRegister) × HasEdge f b k × Passes u v (block_at f (target_at f b k)).params (arguments_at f b k) × (slot u ≡ Some p))

-- Values that aren't in one slot at every block's beginning: `stand` gives the place of each vreg at each block's
-- beginning.
module _ (f : FunctionValue) (stand : ℕ → VirtualRegister → Option Place) where
  -- where v's value may be assumed to be at the block's beginning: in its place there, unless the block writes v
  abbrev pub ComesIn : ℕ → VirtualRegister → Place → Type 0
  ComesIn b v p = IsUnwritten f b v × (stand b v ≡ Some p)

  -- where v's value has to be at the block's end: in its place at the beginning of each successor, if v may be live out
  -- and is no parameter of a successor, and in the place there of each parameter that v is passed to
  abbrev pub GoesOut : ℕ → VirtualRegister → Place → Type 0
  GoesOut b v p =
      ((k : ℕ) × HasEdge f b k × ((j : ℕ) → HasEdge f b j → names v (block_at f (target_at f b j)).params ≡ false) × IsWantedBehind f b v
      × (stand (target_at f b k) v ≡ Some p))
      ⊎ ((k : ℕ) × (u : VirtualRegister) × HasEdge f b k × Passes u v (block_at f (target_at f b k)).params (arguments_at f b k)
      × (stand (target_at f b k) u ≡ Some p))

  -- the block's obligation, for each vreg that is used somewhere
  abbrev pub BlockCarriesOn : ℕ → List Item → Type 0
  BlockCarriesOn b items = ExcusedAreSilent f b → (v : VirtualRegister) → IsUsed f v → (IsExcused f b v → ⊥) → Carries v items (ComesIn b v) (GoesOut b v)

-- if every vreg is definitely assigned (`IsDefinitelyAssigned`), and every reachable block meets its obligation, reads agree
-- on every path
abbrev pub BlocksAgreeInPlaces : Type 0
BlocksAgreeInPlaces = (f : FunctionValue) (out : OutputValue) (stand : ℕ → VirtualRegister → Option Place) → HasSoundBlocks f → IsDefinitelyAssigned f →
    ((b : ℕ) → IsReached f (first_of f b) → BlockCarriesOn f stand b (block_items f out b)) → ReadsAgreeOnPaths f out

-- the same, with listings built from the program points of the moves
abbrev pub BlocksAgreeInPlacesByPoints : Type 0
BlocksAgreeInPlacesByPoints = (f : FunctionValue) (out : OutputValue) (stand : ℕ → VirtualRegister → Option Place) → HasSoundBlocks f → IsDefinitelyAssigned f →
    Rising out.edits → ((b : ℕ) → b < length f.blocks → EndsQuiet f out b) →
    ((b : ℕ) → IsReached f (first_of f b) → BlockCarriesOn f stand b (block_walked f out b)) → ReadsAgreeOnPaths f out

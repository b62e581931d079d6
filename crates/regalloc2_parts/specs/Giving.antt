-- What the private steps of the move resolver guarantee one another: moves are emitted from the last to the first. No public contract cites this.
use Rattle.std.specs.Prelude.{ℕ, ◌≡◌, ◌<◌, ◌≤◌, ◌+◌, ◌==◌, Bool, true, false, if◌then◌else◌, List, reverse, count_by, Contains, [], ◌∷◌, length}
use Rattle.std.specs.Prelude.{slice_index_or, ◌⊎◌, ◌≢◌}
use Rattle.regalloc2_names.specs.Place.{Place, NoPlace, is_place}
use Rattle.std.specs.List.{All, AllPairs}
use Rattle.regalloc2_names.specs.PlaceBits.{bits_of_place}
use Rattle.regalloc2_parts.specs.AtOnce.{Ends, ends_of, no_move, WritesNoneFirst, IsOfMoves, IsPlace}
use Rattle.regalloc2_parts.specs.declared.moves.order.State.{State}
use Rattle.regalloc2_parts.specs.declared.moves.order.State.TheVariants.{Todo, Pending, Done}

abbrev pub from_at : List Ends → ℕ → Place
from_at ms k = (slice_index_or ms k no_move).from

abbrev pub to_at : List Ends → ℕ → Place
to_at ms k = (slice_index_or ms k no_move).to

abbrev pub state_at : List State → ℕ → State
state_at st k = slice_index_or st k Todo

abbrev pub number_at : List ℕ → ℕ → ℕ
number_at ks i = slice_index_or ks i 0

-- the place whose value p holds after a move
abbrev pub place_before : Ends → Place → Place
place_before m p = if is_place m.to p then m.from else p

-- the place whose value q holds after the moves are run from the last to the first
unfoldable pub origin : List Ends → Place → Place
origin [] q = q
origin (m ∷ ms) q = origin ms (place_before m q)

-- the source of the move k, where the move `cut` reads `none`
abbrev pub source_but : ℕ → List Ends → ℕ → Place
source_but cut ms k = if k == cut then NoPlace else from_at ms k

-- each place has one writer, and no move names `none`
pub record AreMovesApart (ms : List Ends) : Type 0 where
  pub one_writer : (j k : ℕ) → j < length ms → k < length ms → to_at ms j ≡ to_at ms k → j ≡ k
  pub from_some : (k : ℕ) → k < length ms → from_at ms k ≡ NoPlace → ⊥
  pub to_some : (k : ℕ) → k < length ms → to_at ms k ≡ NoPlace → ⊥
  pub away : (k : ℕ) → k < length ms → from_at ms k ≡ to_at ms k → ⊥

-- the move that writes a place, or past the end if there is none
pub record IsWriterOf (ms : List Ends) (place : Place) (found : ℕ) : Type 0 where
  pub within : found ≤ length ms
  pub writes : found < length ms → to_at ms found ≡ place
  pub absent : (found < length ms → ⊥) → (j : ℕ) → j < length ms → to_at ms j ≡ place → ⊥

-- the next of each move: the move that writes what it reads, or past the end if there is none
pub record AreNexts (ms : List Ends) (nexts : List ℕ) : Type 0 where
  pub as_many : length nexts ≡ length ms
  pub found : (k : ℕ) → k < length ms → number_at nexts k < length ms → to_at ms (number_at nexts k) ≡ from_at ms k
  pub absent : (k : ℕ) → k < length ms → (number_at nexts k < length ms → ⊥) → (j : ℕ) → j < length ms → to_at ms j ≡ from_at ms k → ⊥

-- the emitted moves do what the done ones do in parallel, and each place that the done ones read is written by done moves, if at all
pub record HasGiven (cut : ℕ) (ms : List Ends) (st : List State) (given : List Ends) : Type 0 where
  pub gave : (k : ℕ) → k < length ms → state_at st k ≡ Done → origin given (to_at ms k) ≡ source_but cut ms k
  pub kept : (q : Place) → (q ≡ NoPlace → ⊥) → ((k : ℕ) → k < length ms → state_at st k ≡ Done → to_at ms k ≡ q → ⊥) → origin given q ≡ q
  pub closed : (k j : ℕ) → k < length ms → j < length ms → state_at st k ≡ Done → to_at ms j ≡ source_but cut ms k → state_at st j ≡ Done

-- the move that writes what the move k reads is done, if there is one
abbrev pub IsNextDone : List ℕ → List State → ℕ → Type 0
IsNextDone nexts st k = number_at nexts k < length nexts → state_at st (number_at nexts k) ≡ Done

-- a chain of moves: each is followed by its next, and the pending moves are just the moves of the chain
pub record IsMoveChain (nexts : List ℕ) (st : List State) (chain : List ℕ) : Type 0 where
  pub inside : (i : ℕ) → i < length chain → number_at chain i < length nexts
  pub pending : (i : ℕ) → i < length chain → state_at st (number_at chain i) ≡ Pending
  pub differ : (i j : ℕ) → i < j → j < length chain → number_at chain i ≡ number_at chain j → ⊥
  pub linked : (i : ℕ) → i + 1 < length chain → number_at nexts (number_at chain i) ≡ number_at chain (i + 1)
  pub only : (k : ℕ) → k < length nexts → state_at st k ≡ Pending → (i : ℕ) × (i < length chain) × (number_at chain i ≡ k)

-- what comes after the last move of the chain
abbrev pub LeadsTo : List ℕ → List ℕ → ℕ → Type 0
LeadsTo nexts chain stop = (i : ℕ) → i + 1 ≡ length chain → number_at nexts (number_at chain i) ≡ stop

-- whether a move is done
unfoldable pub is_done : State → Bool
is_done Todo = false
is_done Pending = false
is_done Done = true

-- a ring of moves, by their indexes: each is followed by its next, and the first is the next of the last
pub record IsRingOfMoves (nexts ring : List ℕ) : Type 0 where
  pub many : 2 ≤ length ring
  pub inside : (i : ℕ) → i < length ring → number_at ring i < length nexts
  pub differ : (i j : ℕ) → i < j → j < length ring → number_at ring i ≡ number_at ring j → ⊥
  pub linked : (i : ℕ) → i + 1 < length ring → number_at nexts (number_at ring i) ≡ number_at ring (i + 1)
  pub closed : (i : ℕ) → i + 1 ≡ length ring → number_at nexts (number_at ring i) ≡ number_at ring 0

abbrev pub ring_at : List (List ℕ) → ℕ → List ℕ
ring_at rings r = slice_index_or rings r []

-- a move is in one of the rings
abbrev pub StandsIn : List (List ℕ) → ℕ → Type 0
StandsIn rings k = (r : ℕ) × (i : ℕ) × (r < length rings) × (i < length (ring_at rings r)) × (number_at (ring_at rings r) i ≡ k)

-- the rings that were met as moves were emitted, and how many moves were emitted: one for each that is done, and one for each ring
pub record HasRings (nexts : List ℕ) (st : List State) (count : ℕ) : Type 0 where
  pub rings : List (List ℕ)
  pub each : (r : ℕ) → r < length rings → IsRingOfMoves nexts (ring_at rings r)
  pub apart : (r s i j : ℕ) → r < s → s < length rings → i < length (ring_at rings r) → j < length (ring_at rings s) →
      number_at (ring_at rings r) i ≡ number_at (ring_at rings s) j → ⊥
  pub reached : (k : ℕ) → StandsIn rings k → state_at st k ≡ Todo → ⊥
  pub onward : (k : ℕ) → k < length nexts → state_at st k ≡ Done → number_at nexts k < length nexts → (state_at st (number_at nexts k) ≡ Done)
      ⊎ StandsIn rings k
  pub whole : (ring : List ℕ) → IsRingOfMoves nexts ring → ((i : ℕ) → i < length ring → state_at st (number_at ring i) ≡ Done) → (i : ℕ) × (i < length ring)
      × StandsIn rings (number_at ring i)
  pub counted : count ≡ count_by is_done st + length rings

-- all moves in the rings are done
abbrev pub AreRingsDone : List State → List (List ℕ) → Type 0
AreRingsDone st rings = (k : ℕ) → StandsIn rings k → state_at st k ≡ Done

-- the emitted moves write `none` before they read it
abbrev pub HasWrittenFirst : List Ends → Type 0
HasWrittenFirst given = WritesNoneFirst (reverse given)

-- each move is from a place to a place
abbrev pub AreBetween : List Ends → Type 0
AreBetween ms = All (λ (m : Ends). (m.from ≡ NoPlace → ⊥) × (m.to ≡ NoPlace → ⊥)) ms

-- where no ring added a move, each emitted move is from a place to a place
abbrev pub IsPlain : List State → List Ends → Type 0
IsPlain st given = length given ≡ count_by is_done st → AreBetween given

-- no ring is open
pub record HasNoRing (ms : List Ends) (nexts : List ℕ) (st : List State) (given : List Ends) (cut first : ℕ) : Type 0 where
  pub cut_past : cut ≡ length ms
  pub first_past : first ≡ length ms
  pub rings : HasRings nexts st (length given)
  pub written : HasWrittenFirst given
  pub plain : IsPlain st given

-- the ring whose last move reads `none`, down to its first, which is still to be emitted
pub record IsMoveRing (ms : List Ends) (nexts : List ℕ) (st : List State) (chain : List ℕ) (given : List Ends) (cut first : ℕ) : Type 0 where
  pub cut_within : cut < length ms
  pub cut_done : state_at st cut ≡ Done
  pub first_within : first < length ms
  pub follows : to_at ms first ≡ from_at ms cut
  pub stands : (i : ℕ) × (i < length chain) × (number_at chain i ≡ first)
  pub rings : HasRings nexts st (length given + 1)
  pub least : count_by is_done st ≤ length given

-- the chain is being emitted, from its end on
pub record IsGiving (ms : List Ends) (nexts : List ℕ) (st : List State) (chain : List ℕ) (given : List Ends) (cut first : ℕ) : Type 0 where
  pub had : HasGiven cut ms st given
  pub is_chain : IsMoveChain nexts st chain
  pub ready : (i : ℕ) → i + 1 ≡ length chain → IsNextDone nexts st (number_at chain i)
  pub ring : HasNoRing ms nexts st given cut first ⊎ IsMoveRing ms nexts st chain given cut first

-- the moves emitted so far, with no ring open
pub record HasGivenWhole (ms : List Ends) (nexts : List ℕ) (st : List State) (given : List Ends) : Type 0 where
  pub had : HasGiven (length ms) ms st given
  pub rings : HasRings nexts st (length given)
  pub written : HasWrittenFirst given
  pub plain : IsPlain st given

-- no move is pending
abbrev pub HasNonePending : List State → Type 0
HasNonePending st = (k : ℕ) → k < length st → state_at st k ≡ Pending → ⊥

-- what was not `Todo` at first isn't now
abbrev pub HasGoneOn : List State → List State → Type 0
HasGoneOn old new = (k : ℕ) → (state_at old k ≡ Todo → ⊥) → state_at new k ≡ Todo → ⊥

-- just the moves that were done before are done now
pub record AreSameDone (old new : List State) : Type 0 where
  pub stays : (k : ℕ) → state_at old k ≡ Done → state_at new k ≡ Done
  pub was : (k : ℕ) → state_at new k ≡ Done → state_at old k ≡ Done

-- a chain was emitted to its first move, no other is begun, and the emitted moves are made of the moves
pub record IsGivenOut {T : Type 0} (moves : List (Place × Place × T)) (nexts : List ℕ) (old new : List State) (chain : List ℕ)
    (given : List (Place × Place × T)) : Type 0 where
  pub had : HasGivenWhole (ends_of moves) nexts new (ends_of given)
  pub none_pending : HasNonePending new
  pub empty : chain ≡ []
  pub goes_on : HasGoneOn old new
  pub of_moves : All (IsOfMoves moves) given

-- a chain can be followed from the move `at` on
pub record CanFollow (nexts : List ℕ) (st : List State) (chain : List ℕ) (at : ℕ) : Type 0 where
  pub as_many : length st ≡ length nexts
  pub none_pending : HasNonePending st
  pub empty : chain ≡ []
  pub start : state_at st at ≡ Todo
  pub within : at < length nexts

-- the ring can be opened that a chain closes which stops at `stop`
pub record CanOpen {T : Type 0} (moves : List (Place × Place × T)) (ks : List ℕ) (st : List State) (line : List ℕ) (given : List (Place × Place × T))
    (stop : ℕ) : Type 0 where
  pub apart : AreMovesApart (ends_of moves)
  pub nexts : AreNexts (ends_of moves) ks
  pub as_many : length st ≡ length moves
  pub indexed : length ks ≡ length moves
  pub had : HasGivenWhole (ends_of moves) ks st (ends_of given)
  pub rings : (met : HasRings ks st (length given)) × AreRingsDone st met.rings
  pub chain : IsMoveChain ks st line
  pub link : LeadsTo ks line stop
  pub stops : stop < length ks → state_at st stop ≢ Todo
  pub of_moves : All (IsOfMoves moves) given

-- the moves of a chain can be emitted
pub record CanGive {T : Type 0} (moves : List (Place × Place × T)) (ks : List ℕ) (st : List State) (chain : List ℕ) (given : List (Place × Place × T))
    (cut first : ℕ) : Type 0 where
  pub apart : AreMovesApart (ends_of moves)
  pub nexts : AreNexts (ends_of moves) ks
  pub as_many : length st ≡ length moves
  pub indexed : length ks ≡ length moves
  pub giving : IsGiving (ends_of moves) ks st chain (ends_of given) cut first
  pub of_moves : All (IsOfMoves moves) given

-- the chain that begins at the move `at` can be emitted
pub record CanBegin {T : Type 0} (moves : List (Place × Place × T)) (ks : List ℕ) (st : List State) (chain : List ℕ) (given : List (Place × Place × T))
    (at : ℕ) : Type 0 where
  pub apart : AreMovesApart (ends_of moves)
  pub nexts : AreNexts (ends_of moves) ks
  pub as_many : length st ≡ length moves
  pub indexed : length ks ≡ length moves
  pub had : HasGivenWhole (ends_of moves) ks st (ends_of given)
  pub none_pending : HasNonePending st
  pub empty : chain ≡ []
  pub start : state_at st at ≡ Todo
  pub within : at < length moves
  pub of_moves : All (IsOfMoves moves) given

-- p is the place whose value q holds after the parallel moves
pub record TakesFrom (ms : List Ends) (q p : Place) : Type 0 where
  pub written : (k : ℕ) → k < length ms → to_at ms k ≡ q → p ≡ from_at ms k
  pub unwritten : ((k : ℕ) → k < length ms → to_at ms k ≡ q → ⊥) → p ≡ q

-- all moves were emitted, and `rings` are all rings among them
pub record IsOrder (ms : List Ends) (nexts : List ℕ) (given : List Ends) : Type 0 where
  pub takes : (q : Place) → (q ≡ NoPlace → ⊥) → TakesFrom ms q (origin given q)
  pub rings : List (List ℕ)
  pub each : (r : ℕ) → r < length rings → IsRingOfMoves nexts (ring_at rings r)
  pub apart : (r s i j : ℕ) → r < s → s < length rings → i < length (ring_at rings r) → j < length (ring_at rings s) →
      number_at (ring_at rings r) i ≡ number_at (ring_at rings s) j → ⊥
  pub whole : (ring : List ℕ) → IsRingOfMoves nexts ring → (i : ℕ) × (i < length ring) × StandsIn rings (number_at ring i)
  pub counted : length given ≡ length ms + length rings
  pub written : HasWrittenFirst given
  pub plain : length given ≡ length ms → AreBetween given

-- the encodings of the places give them back
abbrev pub AreProper : List Ends → Type 0
AreProper ms = (m : Ends) → Contains ms m → IsPlace m.from × IsPlace m.to

-- of two moves, the second writes a place of a higher encoding
abbrev pub Below : Ends → Ends → Type 0
Below x y = bits_of_place x.to < bits_of_place y.to

-- a list of moves with each move once, in order of their destinations, without the moves that change nothing
pub record IsTidied (old new : List Ends) : Type 0 where
  pub strict : AllPairs Below new
  pub away : (m : Ends) → Contains new m → m.from ≡ m.to → ⊥
  pub of_old : (m : Ends) → Contains new m → Contains old m
  pub of_new : (m : Ends) → Contains old m → (m.from ≡ m.to → ⊥) → Contains new m

-- two moves into one place are one move, and no move names no place
pub record AreFair (ms : List Ends) : Type 0 where
  pub one_source : (a b : Ends) → Contains ms a → Contains ms b → a.to ≡ b.to → a.from ≡ b.from
  pub real : (m : Ends) → Contains ms m → (m.from ≡ NoPlace → ⊥) × (m.to ≡ NoPlace → ⊥)

-- of two moves, the second writes a place of a higher encoding, or they are one move
abbrev pub IsBefore : Ends → Ends → Type 0
IsBefore x y = (bits_of_place x.to < bits_of_place y.to) ⊎ ((x.from ≡ y.from) × (x.to ≡ y.to))

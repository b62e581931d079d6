-- The cycles among moves, and how many moves an order of them takes.
use Rattle.std.specs.Prelude.{ℕ, ◌≡◌, ◌≢◌, ◌+◌, ◌<◌, ◌≤◌, List, [], Contains, length, slice_index_or}
use Rattle.regalloc2_parts.specs.AtOnce.{Ends, no_move}

abbrev pub move_at : List Ends → ℕ → Ends
move_at ms i = slice_index_or ms i no_move

-- a cycle: two or more distinct moves in a ring, of which each reads the place that the next one writes, and the last what the first writes
pub record IsCycle (ms ring : List Ends) : Type 0 where
  pub many : 2 ≤ length ring
  pub of_moves : (i : ℕ) → i < length ring → Contains ms (move_at ring i)
  pub differ : (i j : ℕ) → i < j → j < length ring → move_at ring i ≢ move_at ring j
  pub linked : (i : ℕ) → i + 1 < length ring → (move_at ring i).from ≡ (move_at ring (i + 1)).to
  pub closed : (i : ℕ) → i + 1 ≡ length ring → (move_at ring i).from ≡ (move_at ring 0).to

abbrev pub HasCycle : List Ends → Type 0
HasCycle ms = (ring : List Ends) × IsCycle ms ring

abbrev pub cycle_at : List (List Ends) → ℕ → List Ends
cycle_at rings r = slice_index_or rings r []

-- the cycles of moves: no two of them share a move, and each cycle has a move in one of them
pub record AreCycles (ms : List Ends) (rings : List (List Ends)) : Type 0 where
  pub each : (r : ℕ) → r < length rings → IsCycle ms (cycle_at rings r)
  pub apart : (r s i j : ℕ) → r < s → s < length rings → i < length (cycle_at rings r) → j < length (cycle_at rings s) →
      move_at (cycle_at rings r) i ≢ move_at (cycle_at rings s) j
  pub whole : (ring : List Ends) → IsCycle ms ring →
      (i : ℕ) × (r : ℕ) × (j : ℕ) × (i < length ring) × (r < length rings) × (j < length (cycle_at rings r)) × (move_at (cycle_at rings r) j ≡ move_at ring i)

-- the distinct moves whose source is not their destination
pub record AreChanges (ms changes : List Ends) : Type 0 where
  pub of_moves : (m : Ends) → Contains changes m → Contains ms m × (m.from ≢ m.to)
  pub whole : (m : Ends) → Contains ms m → m.from ≢ m.to → Contains changes m
  pub differ : (i j : ℕ) → i < j → j < length changes → move_at changes i ≢ move_at changes j

-- one move for each distinct one whose source is not its destination, and one more for each cycle
pub record IsCounted (ms : List Ends) (count : ℕ) : Type 0 where
  pub changes : List Ends
  pub are_changes : AreChanges ms changes
  pub cycles : List (List Ends)
  pub are_cycles : AreCycles ms cycles
  pub counted : count ≡ length changes + length cycles

-- Parallel moves, and moves made one after another.
use Rattle.std.specs.Prelude.{◌≡◌, ◌≢◌, Bool, true, false, if◌then◌else◌, List, [], ◌∷◌, map, Contains, refl, ◌⊎◌}
use Rattle.std.specs.List.{All}
use Rattle.std.proofs.Common.{ap, ◌∙◌, sym}
use Rattle.regalloc2_names.specs.Place.{Place, NoPlace, is_place}
use Rattle.regalloc2_names.specs.PlaceBits.{place_of_bits, bits_of_place}

-- the places that a move copies from and to
pub record Ends : Type 0 where
  pub from : Place
  pub to : Place

-- the default move, for an index that no move has
abbrev pub no_move : Ends
no_move = record { from = NoPlace; to = NoPlace }

abbrev pub ends : {T : Type 0} → Place × Place × T → Ends
ends m = record { from = m.0; to = m.1 }

abbrev pub ends_of : {T : Type 0} → List (Place × Place × T) → List Ends
ends_of ms = map ends ms

-- The cells: what each place holds. X may be an option, if a place may hold nothing. `none` is one more cell: the scratch place until it is chosen.
abbrev pub CellsOf : Type 0 → Type 0
CellsOf X = Place → X

-- the cells with one changed
abbrev pub moved : {X : Type 0} → CellsOf X → Place → X → CellsOf X
moved c p x q = if is_place p q then x else c q

-- the cells after the moves, one after another
unfoldable pub in_turn : {X : Type 0} → List Ends → CellsOf X → CellsOf X
in_turn [] c = c
in_turn (m ∷ ms) c = in_turn ms (moved c m.to (c m.from))

-- the cells after parallel moves: each destination has what its source had at first, all others stay, and the cell `none` is left open
pub record AreAtOnce {X : Type 0} (ms : List Ends) (old new : CellsOf X) : Type 0 where
  pub assigned : (m : Ends) → Contains ms m → new m.to ≡ old m.from
  pub kept : (q : Place) → q ≢ NoPlace → ((m : Ends) → Contains ms m → m.to ≢ q) → new q ≡ old q

-- Each place holds its own name. The cells after moves from this start say of each place which place its value came from, and so what the moves make
-- of any cells (`in_turn-any`).
abbrev pub own_names : CellsOf Place
own_names q = q

-- two moves into one place have one source
abbrev pub HasOneSourceEach : List Ends → Type 0
HasOneSourceEach ms = (a b : Ends) → Contains ms a → Contains ms b → a.to ≡ b.to → a.from ≡ b.from

-- A move of a list that was made of the moves ms: one of them, or a move with `none` as an end. It carries the value of the move of ms that has
-- its destination.
abbrev pub IsOfMoves : {T : Type 0} → List (Place × Place × T) → Place × Place × T → Type 0
IsOfMoves {T} ms m =
    ((m.1 ≡ NoPlace) × (n : Place × Place × T) × Contains ms n × (m.0 ≡ n.0))
    ⊎ ((n : Place × Place × T) × Contains ms n × (m.1 ≡ n.1) × (m.2 ≡ n.2) × ((m.0 ≡ NoPlace) ⊎ (m.0 ≡ n.0)))

-- `none` is written before it is read
unfoldable pub WritesNoneFirst : List Ends → Type 0
WritesNoneFirst [] = Unit {0}
WritesNoneFirst (m ∷ ms) = (m.from ≢ NoPlace) × (m.to ≢ NoPlace → WritesNoneFirst ms)

-- a place that an allocation encodes, and its encoding gives it back
abbrev pub IsPlace : Place → Type 0
IsPlace p = place_of_bits (bits_of_place p) ≡ p

-- a move from a place to a place
abbrev pub IsRealMove : {T : Type 0} → Place × Place × T → Type 0
IsRealMove m = IsPlace m.0 × IsPlace m.1 × (m.0 ≢ NoPlace) × (m.1 ≢ NoPlace)

abbrev pub AreReal : {T : Type 0} → List (Place × Place × T) → Type 0
AreReal ms = All IsRealMove ms

-- moves only copy
moved-any : {X : Type 0} (b : Bool) (c : CellsOf X) (p q : Place) → (if b then c p else c q) ≡ c (if b then p else q)
moved-any true c p q = refl
moved-any false c p q = refl

pub in_turn-any : {X : Type 0} (ms : List Ends) (c : CellsOf X) (q : Place) → in_turn ms c q ≡ c (in_turn ms own_names q)
unfolding in_turn
in_turn-any [] c q = refl
in_turn-any (m ∷ ms) c q =
    in_turn-any ms (moved c m.to (c m.from)) q
    ∙ moved-any (is_place m.to (in_turn ms own_names q)) c m.from (in_turn ms own_names q)
    ∙ sym (ap c (in_turn-any ms (moved own_names m.to m.from) q))

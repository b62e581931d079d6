-- Lemmas on lists of moves and on their ends.
use Rattle.std.proofs.Common.{◌≡◌, ℕ, ◌<◌, List, [], ◌∷◌, ◌++◌, length, get_or, inl, inr, refl, sym, ap, ◌∙◌, subst}
use Rattle.std.specs.Prelude.{Contains}
use Rattle.std.proofs.lemmas.List.{get_or-map, length-map, map-append}
use Rattle.std.proofs.lemmas.List.Elements.{Contains-get_or}
use Rattle.regalloc2_names.specs.Place.{Place, NoPlace}
use Rattle.regalloc2_parts.specs.AtOnce.{Ends, ends, ends_of, IsOfMoves, no_move}
use Rattle.regalloc2_parts.specs.Giving.{from_at, to_at}

module _ {T : Type 0} where
  -- a list of moves has as many pairs of ends as moves
  pub length_ends : (ms : List (Place × Place × T)) → length (ends_of ms) ≡ length ms
  length_ends ms = length-map ms ends

  -- a move that is pushed pushes its ends
  pub ends_push : (ms : List (Place × Place × T)) (m : Place × Place × T) → ends_of (ms ++ m ∷ []) ≡ ends_of ms ++ ends m ∷ []
  ends_push ms m = map-append ends ms (m ∷ [])

  -- the ends at an index are the ends of the move there
  pub read_ends : (ms : List (Place × Place × T)) (k : ℕ) (m : Place × Place × T) → k < length ms → m ≡ get_or ms k m → get_or (ends_of ms) k no_move ≡ ends m
  read_ends ms k m r e = get_or-map ends ms k m no_move r ∙ ap ends (sym e)

  -- a move's source is the one at its index
  pub read_from : (ms : List (Place × Place × T)) (k : ℕ) (m : Place × Place × T) → k < length ms → m ≡ get_or ms k m → m.0 ≡ from_at (ends_of ms) k
  read_from ms k m r e = ap (λ (x : Ends). x.from) (sym (read_ends ms k m r e))

  -- a move's destination is the one at its index
  pub read_to : (ms : List (Place × Place × T)) (k : ℕ) (m : Place × Place × T) → k < length ms → m ≡ get_or ms k m → m.1 ≡ to_at (ends_of ms) k
  read_to ms k m r e = ap (λ (x : Ends). x.to) (sym (read_ends ms k m r e))

  -- a move that is read at an index is in the list
  pub read_in : (ms : List (Place × Place × T)) (k : ℕ) (m : Place × Place × T) → k < length ms → m ≡ get_or ms k m → Contains ms m
  read_in ms k m r e = subst (λ x. Contains ms x) (sym e) (Contains-get_or ms k m r)

  -- one of the moves, one that reads `none`, and one that writes its source to `none`
  pub of_itself : (ms : List (Place × Place × T)) (m : Place × Place × T) → Contains ms m → IsOfMoves ms m
  of_itself ms m h = inr (m, h, refl, refl, inr refl)

  -- a move of the list, with no place as its source, is made of the list's moves
  pub of_end : (ms : List (Place × Place × T)) (m n : Place × Place × T) → Contains ms n → m.0 ≡ NoPlace → m.1 ≡ n.1 → m.2 ≡ n.2 → IsOfMoves ms m
  of_end ms m n h aside to value = inr (n, h, to, value, inl aside)

  -- a move from the source of one of the list, to no place, is made of the list's moves
  pub of_aside : (ms : List (Place × Place × T)) (m n : Place × Place × T) → Contains ms n → m.1 ≡ NoPlace → m.0 ≡ n.0 → IsOfMoves ms m
  of_aside ms m n h aside from = inl (aside, n, h, from)

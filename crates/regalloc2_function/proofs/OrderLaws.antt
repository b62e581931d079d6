-- Edits in order, as they are stored and as the definitions have them.
use Rattle.std.proofs.Common.{◌≡◌, ◌≢◌, ℕ, zero, suc, ◌-◌, ◌<◌, ◌≤◌, List, [], ◌∷◌, length, get_or, map, refl, arith}
use Rattle.std.specs.Prelude.{All}
use Rattle.std.specs.List.{AllAdjacentBelow}
use Rattle.std.specs.List.Sorted.{IsNonDecreasingBy}
use Rattle.std.proofs.lemmas.List.{get_or_default, length-map}
use Rattle.std.proofs.lemmas.List.Elements.{All-map}
use Rattle.std.proofs.lemmas.List.Sorted.{IsNonDecreasingBy-from_all_adjacent}
use Rattle.regalloc2_names.specs.Place.{NoPlace}
use Rattle.regalloc2_function.specs.declared.listing.Edit.{Edit}
use Rattle.regalloc2_function.specs.OutputValue.{MoveValue}
use Rattle.regalloc2_function.specs.Views.{edit_of, move_of}

-- an edit below the one before
pub points_fall : (xs : List (ℕ × Edit)) (i : ℕ) (a b : ℕ × Edit) → 1 ≤ i → i < length xs → (get_or xs i a).0 < (get_or xs (i - 1) b).0 →
    IsNonDecreasingBy (λ (e : ℕ × Edit). e.0) xs → ⊥
points_fall xs i a b one l lt h =
    let r : (get_or xs (i - 1) a).0 ≤ (get_or xs i a).0 = h (i - 1) i a (omega arith) l in
    let d : get_or xs (i - 1) a ≡ get_or xs (i - 1) b = get_or_default xs (i - 1) a b (omega arith) in
    let s : (get_or xs (i - 1) b).0 ≤ (get_or xs i a).0 = rw d at r in
    omega arith

-- stored edits of which no two neighbours descend are in order of their points
pub points_rise : (xs : List (ℕ × Edit)) (n : ℕ) → length xs ≤ n → AllAdjacentBelow (λ (x y : ℕ × Edit). x.0 ≤ y.0) xs n →
    IsNonDecreasingBy (λ (e : ℕ × Edit). e.0) xs
points_rise xs n l h = IsNonDecreasingBy-from_all_adjacent (λ (e : ℕ × Edit). e.0) xs (λ k d w. h k d (omega arith))

mapped_at : (items : List (ℕ × Edit)) (j : ℕ) (d : ℕ × MoveValue) → j < length items → (P : (ℕ × MoveValue) → Type 0) →
    ((e : ℕ × Edit) → P (edit_of (get_or items j e))) → P (get_or (map edit_of items) j d)
mapped_at [] j d h P f = absurd (omega arith)
mapped_at (x ∷ xs) zero d h P f = f x
mapped_at (x ∷ xs) (suc j) d h P f = mapped_at xs j d (omega arith) P f

at_map : (items : List (ℕ × Edit)) (j : ℕ) (d : ℕ × Edit) → get_or (map edit_of items) j (edit_of d) ≡ edit_of (get_or items j d)
at_map [] j d = refl
at_map (x ∷ xs) zero d = refl
at_map (x ∷ xs) (suc j) d = at_map xs j d

-- edits that are in order as they are stored are in order by the specs' points
pub sorted_edits : (items : List (ℕ × Edit)) → IsNonDecreasingBy (λ (e : ℕ × Edit). e.0) items →
    IsNonDecreasingBy (λ (e : ℕ × MoveValue). e.0) (map edit_of items)
sorted_edits items h = λ i j d a b.
    let l : length (map edit_of items) ≡ length items = length-map items edit_of in
    mapped_at items j d (omega arith) (λ y. (get_or (map edit_of items) i d).0 ≤ y.0)
    (λ e. mapped_at items i d (omega arith) (λ x. x.0 ≤ (edit_of (get_or items j e)).0)
    (λ e'. rw (get_or_default items j e e' (omega arith)) (h i j e' a (omega arith))))

-- if no stored edit has an end that is no place, no move of the specs' edits has
pub places_in_edits : (items : List (ℕ × Edit)) → All (λ (e : ℕ × Edit). ((move_of e.1).from ≢ NoPlace) × ((move_of e.1).to ≢ NoPlace)) items →
    All (λ (e : ℕ × MoveValue). (e.1.from ≢ NoPlace) × (e.1.to ≢ NoPlace)) (map edit_of items)
places_in_edits items h = All-map (λ (e : ℕ × MoveValue). (e.1.from ≢ NoPlace) × (e.1.to ≢ NoPlace)) edit_of items h

-- if no move of the specs' edits has an end that is no place, no stored edit has
pub places_in_items : (items : List (ℕ × Edit)) → All (λ (e : ℕ × MoveValue). (e.1.from ≢ NoPlace) × (e.1.to ≢ NoPlace)) (map edit_of items) →
    All (λ (e : ℕ × Edit). ((move_of e.1).from ≢ NoPlace) × ((move_of e.1).to ≢ NoPlace)) items
places_in_items items h = λ k d w.
    let l : length (map edit_of items) ≡ length items = length-map items edit_of in
    rw (at_map items k d) at (h k (edit_of d) (omega arith))

-- A part of a list whose items are all equal.
use Rattle.std.proofs.Common.{ℕ, ◌≡◌, ◌+◌, ◌<◌, ◌≤◌, ⊎_elim, List, take, drop, ◌∙◌, arith, slice_index_or}
use Rattle.std.proofs.lemmas.Bool.{cases_lt}
use Rattle.std.proofs.lemmas.List.{length-take, get_or-take, get_or-drop, get_or_past}

-- in a part of a list whose items up to the part's end are all d, each item is d
pub blank_part : {X : Type 0} (xs : List X) (a k : ℕ) (d : X) → ((j : ℕ) → j < a + k → slice_index_or xs j d ≡ d) → (j : ℕ) →
    slice_index_or (take k (drop a xs)) j d ≡ d
blank_part xs a k d h j = ⊎_elim
    (λ (lt : j < k). get_or-take k (drop a xs) j d lt ∙ get_or-drop a xs j d ∙ h (a + j) (omega arith))
    (λ (ge : k ≤ j). get_or_past (take k (drop a xs)) j d (omega (arith, length-take k (drop a xs))))
    (cases_lt j k)

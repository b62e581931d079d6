-- Points that never rise.
use Rattle.std.proofs.Common.{ℕ, ◌≡◌, ◌≢◌, ◌+◌, ◌-◌, ◌<◌, ◌≤◌, List, [], ◌∷◌, ◌++◌, reverse, sym, length, ◌⊎◌, ⊎_elim, inl, inr, arith}
use Rattle.std.specs.List.Sorted.{IsNonDecreasingBy}
use Rattle.std.proofs.lemmas.List.{get_or_append_left, get_or_push, get_or-reverse, length_push, length-reverse}
use Rattle.std.proofs.lemmas.List.Elements.{All-push}
use Rattle.std.proofs.lemmas.Bool.{cases_eq}
use Rattle.regalloc2_function.specs.OutputValue.{MoveValue}
use Rattle.regalloc2_fastalloc_state.specs.StateParts.{PointsDescend, AllAtOrAfter}

-- an index of a list with one more element is an old one or the last
pub split_push : {X : Type 0} (xs : List X) (k : ℕ) (x : X) → k < length (xs ++ x ∷ []) → (k < length xs) ⊎ (k ≡ length xs)
split_push xs k x h =
    let n : length (xs ++ x ∷ []) ≡ length xs + 1 = length_push xs x in
    ⊎_elim (λ (e : k ≡ length xs). inr e) (λ (d : k ≢ length xs). inl (omega arith)) (cases_eq k (length xs))

-- edits all at or after a point, with one more that is, are all at or after it
pub none_before_push : (es : List (ℕ × MoveValue)) (p : ℕ) (x : ℕ × MoveValue) → AllAtOrAfter p es → p ≤ x.0 → AllAtOrAfter p (es ++ x ∷ [])
none_before_push es p x later le = All-push (λ e. p ≤ e.0) es x later le

-- points that descend still do when an edit is pushed whose point is at most all of theirs
pub never_rise_push : (es : List (ℕ × MoveValue)) (x : ℕ × MoveValue) → PointsDescend es → AllAtOrAfter x.0 es → PointsDescend (es ++ x ∷ [])
never_rise_push es x falls later = λ i j d le lt. ⊎_elim
    (λ (w : j < length es). rw (get_or_append_left es (x ∷ []) d j w, get_or_append_left es (x ∷ []) d i (omega arith)) (falls i j d le w))
    (λ (e : j ≡ length es). ⊎_elim
    (λ (v : i < length es). rw (get_or_push es x d j (sym e), get_or_append_left es (x ∷ []) d i v) (later i d v))
    (λ (f : i ≡ length es). rw (get_or_push es x d j (sym e), get_or_push es x d i (sym f)) (omega arith))
    (split_push es i x (omega arith)))
    (split_push es j x lt)

-- listed the other way round, they never fall
pub rising_reverse : (es : List (ℕ × MoveValue)) → PointsDescend es → IsNonDecreasingBy (λ e. e.0) (reverse es)
rising_reverse es falls = λ i j d le lt.
    let n : length (reverse es) ≡ length es = length-reverse es in
    rw (get_or-reverse es i d (omega arith), get_or-reverse es j d (omega arith)) (falls (length es - 1 - j) (length es - 1 - i) d (omega arith) (omega arith))

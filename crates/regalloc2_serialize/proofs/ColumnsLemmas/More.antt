-- One more item of a list that is made number by number.
use Rattle.std.proofs.Common.{◌≡◌, ℕ, ◌+◌, List, [], ◌∷◌, ◌++◌, map, arith, refl}
use Rattle.std.specs.List.{range_with_len}
use Rattle.std.proofs.lemmas.List.{map-append}
use Rattle.std.proofs.lemmas.List.FromFn.{map-range_with_len_more}

pub made-more : {X Y : Type 0} (f : X → Y) (h : ℕ → X) (xs : List Y) (x : Y) (k : ℕ) → xs ≡ map f (map h (range_with_len 0 k)) → x ≡ f (h k) →
    xs ++ x ∷ [] ≡ map f (map h (range_with_len 0 (k + 1)))
made-more f h xs x k before is =
    rw (map-range_with_len_more h 0 k k (omega arith), map-append f (map h (range_with_len 0 k)) (h k ∷ []), ← before, ← is) refl

pub seen-more : {X Y : Type 0} (f : X → Y) (h : ℕ → Y) (xs : List X) (x : X) (k : ℕ) → map f xs ≡ map h (range_with_len 0 k) → f x ≡ h k →
    map f (xs ++ x ∷ []) ≡ map h (range_with_len 0 (k + 1))
seen-more f h xs x k before is = rw (map-append f xs (x ∷ []), map-range_with_len_more h 0 k k (omega arith), before, is) refl

-- Where a walk over a range of instructions stands.
use Rattle.std.proofs.Common.{ℕ, zero, suc, ◌≡◌, ◌+◌, ◌-◌, ◌<◌, ◌≤◌, List, [], ◌∷◌, ◌++◌, length, length-append, ap, sym, ◌∙◌, append_assoc, append-nil, arith}
use Rattle.regalloc2_index.specs.Range.{Span, numbers_from, numbers_of}

-- a number of a list of numbers in turn is the first plus the length of what comes before, and is within the list
numbers_at : (n k : ℕ) (xs ys : List ℕ) (x : ℕ) → xs ++ x ∷ ys ≡ numbers_from n k → (x ≡ n + length xs) × (x < n + k)
numbers_at n zero [] ys x e = absurd cc
numbers_at n (suc k) [] ys x e = let at : x ≡ n = cc in (omega (arith, at), omega (arith, at))
numbers_at n zero (y ∷ xs) ys x e = absurd cc
numbers_at n (suc k) (y ∷ xs) ys x e =
    let rest : xs ++ x ∷ ys ≡ numbers_from (n + 1) k = cc in
    let h = numbers_at (n + 1) k xs ys x rest in (omega (arith, h.0), omega (arith, h.1))

numbers_counted : (n k : ℕ) → length (numbers_from n k) ≡ k
numbers_counted n zero = omega arith
numbers_counted n (suc k) = omega (arith, numbers_counted (n + 1) k)

-- the walk's next instruction: the first plus the number of instructions so far, and within the range
pub next_at : (range : Span) (so_far left rest : List ℕ) (x : ℕ) → so_far ++ left ≡ numbers_of range → left ≡ x ∷ rest →
    (x ≡ range.first + length so_far) × (x < range.end)
next_at range so_far left rest x whole next =
    let h = numbers_at range.first (range.end - range.first) so_far rest x (sym (ap (λ l. so_far ++ l) next) ∙ whole) in
    (h.0, omega (arith, h.0, h.1))

-- one instruction more was walked over
pub walked_more : (range : Span) (so_far left rest : List ℕ) (x : ℕ) → so_far ++ left ≡ numbers_of range → left ≡ x ∷ rest →
    (so_far ++ x ∷ []) ++ rest ≡ numbers_of range
walked_more range so_far left rest x whole next = rw (append_assoc, ← next) whole

-- the walk is over
pub walked_all : (range : Span) (so_far left : List ℕ) → so_far ++ left ≡ numbers_of range → left ≡ [] → so_far ≡ numbers_of range
walked_all range so_far left whole none = sym (append-nil so_far) ∙ sym (ap (λ l. so_far ++ l) none) ∙ whole

-- where the walk is over, it stands at the range's end
pub ends_at : (range : Span) (so_far left : List ℕ) → range.first ≤ range.end → so_far ++ left ≡ numbers_of range → left ≡ [] →
    range.first + length so_far ≡ range.end
ends_at range so_far left ordered whole none =
    let all = ap length (walked_all range so_far left whole none) ∙ numbers_counted range.first (range.end - range.first) in
    omega (arith, all)

-- a walk begins at the first number
pub begins_at : (first : ℕ) → first + 0 ≡ first
begins_at first = omega arith

-- after one instruction more the walk stands one further
pub one_further : (first : ℕ) (so_far : List ℕ) (x : ℕ) → first + length so_far + 1 ≡ first + length (so_far ++ x ∷ [])
one_further first so_far x = omega (arith, length-append so_far (x ∷ []))

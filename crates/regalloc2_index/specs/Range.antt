-- Numbers of instructions and blocks, and ranges of instructions, as contracts see them.
use Rattle.std.specs.Prelude.{ℕ, zero, suc, ◌≡◌, ◌<◌, ◌+◌, ◌-◌, List, [], ◌∷◌, ◌++◌, refl}
use Rattle.std.proofs.Common.{arith, ap}

-- the number that stands for no instruction, and for no block
abbrev pub invalid_number : ℕ
invalid_number = 4294967295

-- the numbers of instructions and blocks, with the invalid number, are below it
abbrev pub number_limit : ℕ
number_limit = 4294967296

-- the instructions from `first` on, up to but without `end`
pub record Span : Type 0 where
  pub first : ℕ
  pub end : ℕ

-- `k` numbers from `n` on
abbrev pub numbers_from : ℕ → ℕ → List ℕ
numbers_from n zero = []
numbers_from n (suc k) = n ∷ numbers_from (n + 1) k

-- the numbers of a range
abbrev pub numbers_of : Span → List ℕ
numbers_of s = numbers_from s.first (s.end - s.first)

-- the list that is one number longer has that number at its end
pub numbers_from-snoc : (n k : ℕ) → numbers_from n (suc k) ≡ numbers_from n k ++ (n + k) ∷ []
numbers_from-snoc n zero = let e : n + 0 ≡ n = omega arith in rw e refl
numbers_from-snoc n (suc k) = let e : n + 1 + k ≡ n + suc k = omega arith in ap (λ (l : List ℕ). n ∷ l) (rw (← e) (numbers_from-snoc (n + 1) k))

-- the numbers of a range are its first number, and the numbers of the rest
pub numbers_of-first : (a b c : ℕ) → a < b → c ≡ a + 1 → numbers_from a (b - a) ≡ a ∷ numbers_from c (b - c)
numbers_of-first a b c h e = let k : b - a ≡ suc (b - c) = omega arith in rw (k, e) refl

-- the numbers of a range are the numbers before the last, and the last number
pub numbers_of-last : (a b c : ℕ) → a < b → c ≡ b - 1 → numbers_from a (b - a) ≡ numbers_from a (c - a) ++ c ∷ []
numbers_of-last a b c h e =
    let k : b - a ≡ suc (c - a) = omega arith in
    let m : a + (c - a) ≡ c = omega arith in
    rw (k, numbers_from-snoc a (c - a), m) refl

-- Sets of numbers, as contracts see them: words of 64 bits by their keys.
use Rattle.std.specs.Prelude.{ℕ, zero, suc, ◌+◌, ◌*◌, ◌/◌, ◌%◌, ◌^◌, ◌≡◌, Bool, false, ◌&&◌, ◌||◌, cond, nat_eq, List, [], ◌∷◌, ◌++◌, map, ◌≤◌, if◌then◌else◌}
use Rattle.std.specs.Int.{bit_at}

-- the bits of a word
abbrev pub word_bits : ℕ
word_bits = 64

-- the members of sets are below: keys of words have 32 bits, and a word has 64 members
abbrev pub set_limit : ℕ
set_limit = 2 ^ 38

-- a set: the word of key k has the bits of the 64 numbers from 64 k on
abbrev pub NumberSet : Type 0
NumberSet = List (ℕ × ℕ)

-- the word of a key; one that isn't stored is 0
unfoldable pub word_of : NumberSet → ℕ → ℕ
word_of [] k = 0
word_of (e ∷ es) k = cond (nat_eq k e.0) e.1 0 + word_of es k

-- whether a number is a member
unfoldable pub has_number : NumberSet → ℕ → Bool
has_number s i = nat_eq (bit_at (word_of s (i / 64)) (i % 64)) 1

-- the numbers of a word's bits that are set, among `n` bits from the bit `k` on
unfoldable pub bits_from : ℕ → ℕ → ℕ → List ℕ
bits_from k zero w = []
bits_from k (suc n) w = cond (nat_eq (bit_at w k) 1) (k ∷ bits_from (k + 1) n w) (bits_from (k + 1) n w)

-- the numbers of the bits that are set in a word of 64, by rising number
abbrev pub bits_of : ℕ → List ℕ
bits_of w = bits_from 0 64 w

-- the members, word by word
unfoldable pub numbers_of_set : NumberSet → List ℕ
numbers_of_set [] = []
numbers_of_set (e ∷ es) = map (λ b. e.0 * 64 + b) (bits_of e.1) ++ numbers_of_set es

-- how often a number is listed
unfoldable pub times_listed : List ℕ → ℕ → ℕ
times_listed [] i = 0
times_listed (x ∷ xs) i = cond (nat_eq x i) 1 0 + times_listed xs i

-- each number of a list is at least so great, and greater than the one before it
unfoldable pub RisesFrom : ℕ → List ℕ → Type 0
RisesFrom low [] = Unit {0}
RisesFrom low (x ∷ xs) = (low ≤ x) × RisesFrom (x + 1) xs

-- the members of a set, each once and nothing else, in whatever order
abbrev pub ListsMembers : NumberSet → List ℕ → Type 0
ListsMembers s xs = (i : ℕ) → times_listed xs i ≡ (if has_number s i then 1 else 0)

-- whether the bit of a number is set in a word with its key
abbrev pub has_bit : (ℕ × ℕ) → ℕ → Bool
has_bit e i = nat_eq (i / 64) e.0 && nat_eq (bit_at e.1 (i % 64)) 1

-- whether the bit of a number is set in some word
unfoldable pub in_some_word : NumberSet → ℕ → Bool
in_some_word [] i = false
in_some_word (e ∷ es) i = has_bit e i || in_some_word es i

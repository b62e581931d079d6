-- How outputs are laid out as words.
use Rattle.std.specs.Prelude.{ℕ, ◌≡◌, ◌≤◌, ◌/◌, ◌%◌, ◌^◌, List, [], ◌∷◌, ◌++◌, length}
use Rattle.std.specs.List.{flat_map}
use Rattle.regalloc2_function.specs.declared.serialize.StoredOutput.{StoredOutput}

-- a number is one word
abbrev pub one_word : ℕ → List ℕ
one_word n = n ∷ []

-- a number of 64 bits is two words, the lower half first
abbrev pub words_of_long : ℕ → List ℕ
words_of_long n = n % 2 ^ 32 ∷ n / 2 ^ 32 ∷ []

-- a list is its length, and then its members
abbrev pub words_of_list : {A : Type 0} → (A → List ℕ) → List A → List ℕ
words_of_list words xs = length xs ∷ flat_map words xs

abbrev pub words_of_triple : (ℕ × ℕ × ℕ) → List ℕ
words_of_triple p = one_word p.0 ++ (one_word p.1 ++ one_word p.2)

abbrev pub words_of_quadruple : (ℕ × ℕ × ℕ × ℕ) → List ℕ
words_of_quadruple p = one_word p.0 ++ (one_word p.1 ++ (one_word p.2 ++ one_word p.3))

-- an output is its fields, in the order of `StoredOutput`
abbrev pub output_words : {A : Type 0} → StoredOutput A → List ℕ
output_words o = words_of_long o.num_spillslots
    ++ (words_of_list words_of_triple o.edits.items ++ (words_of_list one_word o.allocs.items ++ (words_of_list one_word o.inst_alloc_offsets.items
    ++ words_of_list words_of_quadruple o.debug_locations.items)))

-- `given` begins with the words of no value
abbrev pub BeginsNone : {A : Type 0} → (A → List ℕ) → List ℕ → Type 0
BeginsNone {A} words given = (x : A) (rest : List ℕ) → given ≡ words x ++ rest → ⊥

-- `given` are the words of no value
abbrev pub IsNone : {A : Type 0} → (A → List ℕ) → List ℕ → Type 0
IsNone {A} words given = (x : A) → given ≡ words x → ⊥

-- a number of `numbers` doesn't fit in 32 bits
pub record HasLongWord (numbers : List ℕ) : Type 0 where
  pub before : List ℕ
  pub number : ℕ
  pub after : List ℕ
  pub parts : numbers ≡ before ++ (number ∷ after)
  pub is_long : 2 ^ 32 ≤ number

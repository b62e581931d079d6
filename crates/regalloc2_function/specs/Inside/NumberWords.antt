-- Words by keys that differ.
use Rattle.std.specs.Prelude.{ℕ, ◌≡◌, ◌<◌, ◌≤◌, ◌⊎◌, false, nat_eq, List, [], ◌∷◌, length, slice_index_or}
use Rattle.regalloc2_function.specs.Numbers.{word_of}

-- how many words a set has inline
abbrev pub inline_words : ℕ
inline_words = 12

-- no word has the key
unfoldable pub LacksKey : ℕ → List (ℕ × ℕ) → Type 0
LacksKey k [] = Unit {0}
LacksKey k (e ∷ es) = (nat_eq k e.0 ≡ false) × LacksKey k es

-- no two words have one key
unfoldable pub KeysApart : List (ℕ × ℕ) → Type 0
KeysApart [] = Unit {0}
KeysApart (e ∷ es) = LacksKey e.0 es × KeysApart es

-- where the word of a key may be written: over its own, over one that is zero, or past the last
pub record IsIndexFor (es : List (ℕ × ℕ)) (key p : ℕ) : Type 0 where
  pub within : p ≤ length es
  pub replaces : p < length es → ((slice_index_or es p (0, 0)).0 ≡ key) ⊎ (((slice_index_or es p (0, 0)).1 ≡ 0) × LacksKey key es)
  pub past : p ≡ length es → LacksKey key es

-- no key has a word that isn't zero in both lists
abbrev pub KeysInOneOnly : List (ℕ × ℕ) → List (ℕ × ℕ) → Type 0
KeysInOneOnly few many = (k : ℕ) → (word_of few k ≡ 0) ⊎ (word_of many k ≡ 0)

-- What a write to one of two lists of words does to both.
use Rattle.std.proofs.Common.{ℕ, ◌≡◌, ◌+◌, inl, inr, cond, nat_eq, refl, arith}
use Rattle.std.specs.Prelude.{◌⊎◌, Result, Ok, Err, OnOk, OnErr}
use Rattle.std.proofs.lemmas.Bool.Decides.{eqb_tells}

-- a word is written for a key in one list, and the other has none for it: no key has words in both
pub once_written : (other old new : ℕ → ℕ) (key w : ℕ) → ((k : ℕ) → (other k ≡ 0) ⊎ (old k ≡ 0)) → other key ≡ 0
    → ((k : ℕ) → new k ≡ cond (nat_eq k key) w (old k)) → (k : ℕ) → (other k ≡ 0) ⊎ (new k ≡ 0)
once_written other old new key w once none h k = elim (eqb_tells k key) [
  | inl same ↦ inl (rw same.1 none)
  | inr apart ↦ rw (h k, apart.0) (once k)
]

-- both lists together have the word that was written
pub sum_written : (other old new : ℕ → ℕ) (key w : ℕ) → other key ≡ 0 → ((k : ℕ) → new k ≡ cond (nat_eq k key) w (old k)) → (k : ℕ) →
    other k + new k ≡ cond (nat_eq k key) w (other k + old k)
sum_written other old new key w none h k = elim (eqb_tells k key) [
  | inl same ↦ rw (h k, same.0) (let z : other k ≡ 0 = rw same.1 none in omega arith)
  | inr apart ↦ rw (h k, apart.0) refl
]

-- both lists together have the word that was written to the first
pub written_once : (old new other : ℕ → ℕ) (key w : ℕ) → ((k : ℕ) → (old k ≡ 0) ⊎ (other k ≡ 0)) → other key ≡ 0
    → ((k : ℕ) → new k ≡ cond (nat_eq k key) w (old k)) → (k : ℕ) → (new k ≡ 0) ⊎ (other k ≡ 0)
written_once old new other key w once none h k = elim (eqb_tells k key) [
  | inl same ↦ inr (rw same.1 none)
  | inr apart ↦ rw (h k, apart.0) (once k)
]

pub written_sum : (old new other : ℕ → ℕ) (key w : ℕ) → other key ≡ 0 → ((k : ℕ) → new k ≡ cond (nat_eq k key) w (old k)) → (k : ℕ) →
    new k + other k ≡ cond (nat_eq k key) w (old k + other k)
written_sum old new other key w none h k = elim (eqb_tells k key) [
  | inl same ↦ rw (h k, same.0) (let z : other k ≡ 0 = rw same.1 none in omega arith)
  | inr apart ↦ rw (h k, apart.0) refl
]

-- a key without a word in either list has the word 0
pub sum_same : (few many : ℕ → ℕ) (key w : ℕ) → few key ≡ 0 → many key ≡ 0 → w ≡ 0 → (k : ℕ) → few k + many k ≡ cond (nat_eq k key) w (few k + many k)
sum_same few many key w a b z k = elim (eqb_tells k key) [
  | inl same ↦ rw same.0 (let x : few k ≡ 0 = rw same.1 a in let y : many k ≡ 0 = rw same.1 b in omega arith)
  | inr apart ↦ rw apart.0 refl
]

-- a key with a word in the first list has none in the second
pub in_second : (few many : ℕ → ℕ) (key : ℕ) → ((k : ℕ) → (few k ≡ 0) ⊎ (many k ≡ 0)) → (few key ≡ 0 → ⊥) → many key ≡ 0
in_second few many key once there = elim (once key) [ inl z ↦ absurd (there z) | inr z ↦ z ]

-- what holds after a success and after a failure holds, and what holds in any case holds after a failure
pub in_either : {T E P Q X : Type 0} (r : Result T E) → OnOk r P → OnErr r Q → (P → X) → (Q → X) → X
in_either (Ok x) p q f g = f p
in_either (Err e) p q f g = g q

pub on_err_always : {T E P : Type 0} (r : Result T E) → P → OnErr r P
on_err_always (Ok x) p = tt
on_err_always (Err e) p = p

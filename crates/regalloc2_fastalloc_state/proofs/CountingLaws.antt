-- Lemmas on counting.
use Rattle.std.proofs.Common.{ℕ, zero, suc, refl, ◌≡◌, ◌≢◌, ◌+◌, ◌<◌, ◌≤◌, ◌⊎◌, Bool, true, false, sym, ap, ◌∙◌, subst, arith, inl, inr}
use Rattle.std.specs.Prelude.{if◌then◌else◌}
use Rattle.std.proofs.lemmas.Bool.{cases_Bool, cases_eq}
use Rattle.regalloc2_function.specs.Machine.{count_below}

-- if each number that passes p passes q, p counts no more than q
pub count_le : (p q : ℕ → Bool) (n : ℕ) → ((k : ℕ) → k < n → p k ≡ true → q k ≡ true) → count_below p n ≤ count_below q n
unfolding count_below
count_le p q zero h = omega arith
count_le p q (suc n) h =
    let rest : count_below p n ≤ count_below q n = count_le p q n (λ k lt e. h k (omega arith) e) in
    elim (cases_Bool (p n)) [
      | inl e ↦ rw (e, h n (omega arith) e) (omega (arith, rest))
      | inr e ↦ elim (cases_Bool (q n)) [
        | inl f ↦ rw (e, f) (omega (arith, rest))
        | inr f ↦ rw (e, f) (omega (arith, rest))
      ]
    ]

-- what passes a test passes one of two others
pub count_union : (p q r : ℕ → Bool) (n : ℕ) → ((k : ℕ) → k < n → p k ≡ true → (q k ≡ true) ⊎ (r k ≡ true)) →
    count_below p n ≤ count_below q n + count_below r n
unfolding count_below
count_union p q r zero h = omega arith
count_union p q r (suc n) h =
    let rest : count_below p n ≤ count_below q n + count_below r n = count_union p q r n (λ k lt e. h k (omega arith) e) in
    elim (cases_Bool (p n)) [
      | inl e ↦ elim (h n (omega arith) e) [
        | inl f ↦ elim (cases_Bool (r n)) [
          | inl g ↦ rw (e, f, g) (omega (arith, rest))
          | inr g ↦ rw (e, f, g) (omega (arith, rest))
        ]
        | inr f ↦ elim (cases_Bool (q n)) [
          | inl g ↦ rw (e, g, f) (omega (arith, rest))
          | inr g ↦ rw (e, g, f) (omega (arith, rest))
        ]
      ]
      | inr e ↦ rw e (omega (arith, rest))
    ]

-- the two tests differ at one number at most, where the first passes
pub count_but_one : (p q : ℕ → Bool) (m n : ℕ) → ((k : ℕ) → k < n → k ≢ m → p k ≡ true → q k ≡ true) → count_below p n ≤ count_below q n + 1
unfolding count_below
count_but_one p q m zero h = omega arith
count_but_one p q m (suc n) h = elim (cases_eq n m) [
  | inl e ↦ (let rest : count_below p n ≤ count_below q n = count_le p q n (λ k lt x. h k (omega arith) (λ same. omega (arith, same, lt, e)) x) in
      elim (cases_Bool (p n)) [
        | inl a ↦ elim (cases_Bool (q n)) [ inl b ↦ rw (a, b) (omega (arith, rest)) | inr b ↦ rw (a, b) (omega (arith, rest)) ]
        | inr a ↦ elim (cases_Bool (q n)) [ inl b ↦ rw (a, b) (omega (arith, rest)) | inr b ↦ rw (a, b) (omega (arith, rest)) ]
      ])
  | inr ne ↦ (let rest : count_below p n ≤ count_below q n + 1 = count_but_one p q m n (λ k lt d x. h k (omega arith) d x) in
      elim (cases_Bool (p n)) [
        | inl a ↦ rw (a, h n (omega arith) ne a) (omega (arith, rest))
        | inr a ↦ elim (cases_Bool (q n)) [ inl b ↦ rw (a, b) (omega (arith, rest)) | inr b ↦ rw (a, b) (omega (arith, rest)) ]
      ])
]

-- one more passes
pub count_more : (p q : ℕ → Bool) (m n : ℕ) → m < n → p m ≡ false → q m ≡ true → ((k : ℕ) → k < n → k ≢ m → q k ≡ p k) → count_below q n ≡ count_below p n + 1
unfolding count_below
count_more p q m zero lt f t h = absurd (omega arith)
count_more p q m (suc n) lt f t h = elim (cases_eq n m) [
  | inl e ↦ (
      let down : count_below q n ≤ count_below p n = count_le q p n (λ k l x. sym (h k (omega arith) (λ same. omega (arith, same, l, e))) ∙ x) in
      let up : count_below p n ≤ count_below q n = count_le p q n (λ k l x. h k (omega arith) (λ same. omega (arith, same, l, e)) ∙ x) in
      let a : p n ≡ false = ap p e ∙ f in
      let b : q n ≡ true = ap q e ∙ t in
      rw (a, b) (omega (arith, down, up)))
  | inr ne ↦ (
      let rest : count_below q n ≡ count_below p n + 1 = count_more p q m n (omega arith) f t (λ k l d. h k (omega arith) d) in
      let same : q n ≡ p n = h n (omega arith) ne in
      rw same (elim (cases_Bool (p n)) [ inl b ↦ rw b (omega (arith, rest)) | inr b ↦ rw b (omega (arith, rest)) ]))
]

-- where some pass, there is one
pub count_some : (p : ℕ → Bool) (n : ℕ) → 0 < count_below p n → (k : ℕ) × (k < n) × (p k ≡ true)
unfolding count_below
count_some p zero h = absurd (omega arith)
count_some p (suc n) h = elim (cases_Bool (p n)) [
  | inl e ↦ (n, omega arith, e)
  | inr e ↦ (let less : 0 < count_below p n = (let x : 0 < 0 + count_below p n = subst (λ (b : Bool). 0 < (if b then 1 else 0) + count_below p n) e h in
      omega (arith, x)) in
      let s = count_some p n less in (s.0, (let l = s.1 in omega (arith, l)), s.2))
]

-- if a number passes, the count is above zero
pub some_count : (p : ℕ → Bool) (n k : ℕ) → k < n → p k ≡ true → 0 < count_below p n
unfolding count_below
some_count p zero k lt h = absurd (omega arith)
some_count p (suc n) k lt h = elim (cases_eq k n) [
  | inl e ↦ (let t : p n ≡ true = sym (ap p e) ∙ h in rw t (omega arith))
  | inr ne ↦ (let rest : 0 < count_below p n = some_count p n k (omega arith) h in
      elim (cases_Bool (p n)) [ inl b ↦ rw b (omega (arith, rest)) | inr b ↦ rw b (omega (arith, rest)) ])
]

-- tests that agree below n count the same
pub count_same : (p q : ℕ → Bool) (n : ℕ) → ((k : ℕ) → k < n → p k ≡ q k) → count_below p n ≡ count_below q n
unfolding count_below
count_same p q zero h = refl
count_same p q (suc n) h = rw (h n (omega arith), count_same p q n (λ k lt. h k (omega arith))) refl

-- of tests that nothing passes none is counted
pub count_none : (p : ℕ → Bool) (n : ℕ) → ((k : ℕ) → k < n → p k ≡ false) → count_below p n ≡ 0
unfolding count_below
count_none p zero h = refl
count_none p (suc n) h = rw (h n (omega arith), count_none p n (λ k lt. h k (omega arith))) refl

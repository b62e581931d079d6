-- Slots that are added to a list, in turn.
use Rattle.std.proofs.lemmas.List.Elements.{Contains-append_left, Contains-push, Contains-push_cases}
use Rattle.std.proofs.Common.{ℕ, ◌≡◌, ◌+◌, ◌<◌, ◌≤◌, ◌++◌, ◌∷◌, List, [], length, arith, true, sym, ap, ◌∙◌, subst, inl, inr}
use Rattle.std.proofs.lemmas.Bool.{cases_lt}
use Rattle.regalloc2_names.specs.Place.{Place, NoPlace, InRegister, InSlot, is_in_slot}
use Rattle.regalloc2_names.specs.PlaceBits.{index_of_place}
use Rattle.std.specs.Prelude.{◌⊎◌, ◌↔◌, Contains}
use Rattle.regalloc2_checker.specs.NamedSlots.{AddsSlots}

-- what is added after others
pub adds_both : (P Q : ℕ → ℕ → Type 0) (xs ys zs : List (ℕ × ℕ)) → AddsSlots P xs ys → AddsSlots Q ys zs → AddsSlots (λ n u. P n u ⊎ Q n u) xs zs
adds_both P Q xs ys zs first next n u = (λ h. there ((next n u).0 h), λ h. back h)
  where
    behind : Q n u → Contains xs (n, u) ⊎ (P n u ⊎ Q n u)
    behind q = inr (inr q)

    before : Contains xs (n, u) ⊎ P n u → Contains xs (n, u) ⊎ (P n u ⊎ Q n u)
    before (inl p) = inl p
    before (inr p) = inr (inl p)

    there : Contains ys (n, u) ⊎ Q n u → Contains xs (n, u) ⊎ (P n u ⊎ Q n u)
    there (inl h) = before ((first n u).0 h)
    there (inr q) = behind q

    back : Contains xs (n, u) ⊎ (P n u ⊎ Q n u) → Contains zs (n, u)
    back (inl p) = (next n u).1 (inl ((first n u).1 (inl p)))
    back (inr (inl p)) = (next n u).1 (inl ((first n u).1 (inr p)))
    back (inr (inr q)) = (next n u).1 (inr q)

-- slots that two equivalent relations name are added alike
pub adds_same : (P Q : ℕ → ℕ → Type 0) (xs ys : List (ℕ × ℕ)) → ((n u : ℕ) → P n u → Q n u) → ((n u : ℕ) → Q n u → P n u) → AddsSlots P xs ys →
    AddsSlots Q xs ys
adds_same P Q xs ys to from h n u = (λ c. there ((h n u).0 c), λ c. back c)
  where
    there : Contains xs (n, u) ⊎ P n u → Contains xs (n, u) ⊎ Q n u
    there (inl p) = inl p
    there (inr p) = inr (to n u p)

    back : Contains xs (n, u) ⊎ Q n u → Contains ys (n, u)
    back (inl p) = (h n u).1 (inl p)
    back (inr q) = (h n u).1 (inr (from n u q))

-- none are added before the first index
pub adds_none : (R : ℕ → ℕ → ℕ → Type 0) (xs : List (ℕ × ℕ)) → AddsSlots (λ n u. (j : ℕ) × (j < 0) × R j n u) xs xs
adds_none R xs n u = (λ h. inl h, λ h. back h)
  where
    back : Contains xs (n, u) ⊎ ((j : ℕ) × (j < 0) × R j n u) → Contains xs (n, u)
    back (inl p) = p
    back (inr (j, less, r)) = absurd (omega (arith, less))

-- the slots of one index more are added
pub adds_more : (R : ℕ → ℕ → ℕ → Type 0) (k : ℕ) (xs ys zs : List (ℕ × ℕ)) → AddsSlots (λ n u. (j : ℕ) × (j < k) × R j n u) xs ys →
    AddsSlots (λ n u. R k n u) ys zs → AddsSlots (λ n u. (j : ℕ) × (j < k + 1) × R j n u) xs zs
adds_more R k xs ys zs first next =
    adds_same (λ n u. ((j : ℕ) × (j < k) × R j n u) ⊎ R k n u) (λ n u. (j : ℕ) × (j < k + 1) × R j n u) xs zs (λ n u h. to n u h) (λ n u h. from n u h)
    (adds_both (λ n u. (j : ℕ) × (j < k) × R j n u) (λ n u. R k n u) xs ys zs first next)
  where
    to : (n u : ℕ) → ((j : ℕ) × (j < k) × R j n u) ⊎ R k n u → (j : ℕ) × (j < k + 1) × R j n u
    to n u (inl h) = (h.0, omega (arith, h.1), h.2)
    to n u (inr h) = (k, omega arith, h)

    from : (n u : ℕ) → (j : ℕ) × (j < k + 1) × R j n u → ((j : ℕ) × (j < k) × R j n u) ⊎ R k n u
    from n u (j, less, h) = elim (cases_lt j k) [
      | inl below ↦ inl (j, below, h)
      | inr above ↦ inr (let same : j ≡ k = omega (arith, less, above) in subst (λ i. R i n u) same h)
    ]

-- a place that is in a slot, by other words for both
pub adds_at : (p q : Place) (s t : ℕ) (xs ys : List (ℕ × ℕ)) → p ≡ q → s ≡ t → AddsSlots (λ n u. (p ≡ InSlot n) × (u ≡ s)) xs ys →
    AddsSlots (λ n u. (q ≡ InSlot n) × (u ≡ t)) xs ys
adds_at p q s t xs ys e d h =
    subst (λ (r : Place). AddsSlots (λ n u. (r ≡ InSlot n) × (u ≡ t)) xs ys) e
    (subst (λ (v : ℕ). AddsSlots (λ n u. (p ≡ InSlot n) × (u ≡ v)) xs ys) d h)

-- what is added of each index below a bound, once all are gone through
pub adds_all : (R : ℕ → ℕ → ℕ → Type 0) (k count : ℕ) (xs ys : List (ℕ × ℕ)) → k ≤ count → count ≤ k → AddsSlots (λ n u. (j : ℕ) × (j < k) × R j n u) xs ys →
    AddsSlots (λ n u. (j : ℕ) × (j < count) × R j n u) xs ys
adds_all R k count xs ys within all h = let same : k ≡ count = omega (arith, within, all) in
    subst (λ (m : ℕ). AddsSlots (λ n u. (j : ℕ) × (j < m) × R j n u) xs ys) same h

-- what is added to none is what there is
pub from_none : (P : ℕ → ℕ → Type 0) (xs zs : List (ℕ × ℕ)) → xs ≡ [] → AddsSlots P xs zs → (n u : ℕ) → Contains zs (n, u) ↔ P n u
from_none P xs zs none h n u = (λ c. there ((h n u).0 c), λ p. (h n u).1 (inr p))
  where
    there : Contains xs (n, u) ⊎ P n u → P n u
    there (inl c) = let empty : length xs ≡ 0 = ap (λ (l : List (ℕ × ℕ)). length l) none in absurd (omega (arith, empty, c.1))
    there (inr p) = p

-- a place's own slot
pub adds_own : (p : Place) (index units : ℕ) (xs ys : List (ℕ × ℕ)) → is_in_slot p ≡ true → index ≡ index_of_place p →
    AddsSlots (λ n u. (n ≡ index) × (u ≡ units)) xs ys → AddsSlots (λ n u. (p ≡ InSlot n) × (u ≡ units)) xs ys
adds_own NoPlace index units xs ys slot is h = absurd cc
adds_own (InRegister r) index units xs ys slot is h = absurd cc
adds_own (InSlot m) index units xs ys slot is h =
    adds_same (λ n u. (n ≡ index) × (u ≡ units)) (λ n u. (InSlot m ≡ InSlot n) × (u ≡ units)) xs ys
    (λ n u d. (ap (λ (k : ℕ). InSlot k) (sym (d.0 ∙ is)), d.1)) (λ n u d. let same : m ≡ n = cc in (sym same ∙ sym is, d.1)) h

-- one slot more at the end
pub adds_one : (xs ys : List (ℕ × ℕ)) (s t : ℕ) → ys ≡ xs ++ (s, t) ∷ [] → AddsSlots (λ n u. (n ≡ s) × (u ≡ t)) xs ys
adds_one xs ys s t e n u =
    subst (λ (l : List (ℕ × ℕ)). Contains l (n, u) ↔ (Contains xs (n, u) ⊎ ((n ≡ s) × (u ≡ t)))) (sym e)
    (λ h. there (Contains-push_cases xs (s, t) (n, u) h), λ h. back h)
  where
    there : Contains xs (n, u) ⊎ (◌≡◌ {A = ℕ × ℕ} (s, t) (n, u)) → Contains xs (n, u) ⊎ ((n ≡ s) × (u ≡ t))
    there (inl p) = inl p
    there (inr q) = inr (sym (ap (λ (x : ℕ × ℕ). x.0) q), sym (ap (λ (x : ℕ × ℕ). x.1) q))

    back : Contains xs (n, u) ⊎ ((n ≡ s) × (u ≡ t)) → Contains (xs ++ (s, t) ∷ []) (n, u)
    back (inl p) = Contains-append_left xs ((s, t) ∷ []) (n, u) p
    back (inr q) = subst (λ m. Contains (xs ++ (s, t) ∷ []) (m, u)) (sym q.0)
        (subst (λ m. Contains (xs ++ (s, t) ∷ []) (s, m)) (sym q.1) (Contains-push xs (s, t)))

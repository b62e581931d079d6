-- How often a number is in a list.
use Rattle.std.proofs.Common.{ℕ, suc, ◌≡◌, ◌+◌, ◌<◌, ◌≤◌, Bool, List, [], ◌∷◌, length, get_or, set, replicate, take, drop, refl, sym, ap, ◌∙◌, eq-eqb}
use Rattle.std.proofs.Common.{◌-◌, ◌≢◌, arith, inl, inr, ◌⊎◌}
use Rattle.std.proofs.lemmas.Bool.Decides.{Decides-eqb}
use Rattle.std.specs.Prelude.{filter, nat_eq, Contains, All}
use Rattle.std.proofs.lemmas.Bool.{cases_Bool, cases_eq, ne_eqb}
use Rattle.std.proofs.lemmas.List.{get_or-replicate, get_or-set_other, get_or-set_same, get_or_past, length-take, length-append, length-replicate, take-append-drop}
use Rattle.std.proofs.lemmas.List.Sums.{count_by-le-length, count_by_more_no, count_by_more_yes, length-filter}
use Rattle.std.proofs.lemmas.List.Elements.{filter-append, All-contains}
use Rattle.regalloc2_function.specs.WellFormed.{times_in}

-- a number is in the first items of a list at most as often as in the whole list
pub times-take : (b i : ℕ) (xs : List ℕ) → times_in b (take i xs) ≤ times_in b xs
times-take b i xs =
    let p : ℕ → Bool = λ x. nat_eq x b in
    let e : length (filter p xs) ≡ length (filter p (take i xs)) + length (filter p (drop i xs)) =
    ap (λ l. length (filter p l)) (sym (take-append-drop i xs)) ∙ ap length (filter-append p (take i xs) (drop i xs))
    ∙ length-append (filter p (take i xs)) (filter p (drop i xs)) in
    omega (arith, length-filter p xs, length-filter p (take i xs), e)

-- a list that needs one more than there are
pub too_many : (b i old now : ℕ) (xs : List ℕ) → i < length xs → b ≡ get_or xs i b → now ≡ 0 → now + times_in b (take i xs) ≡ old → times_in b xs ≤ old → ⊥
too_many b i old now xs less is none so_far enough =
    let more : times_in b (take (i + 1) xs) ≡ times_in b (take i xs) + 1 = count_by_more_yes (λ x. nat_eq x b) xs i b less
    (eq-eqb (get_or xs i b) b (sym is)) in
    let le = times-take b (i + 1) xs in
    absurd (omega (arith, more, le))

in_or_none : (b : ℕ) (xs : List ℕ) → (length (filter (λ x. nat_eq x b) xs) ≡ 0) ⊎ Contains xs b
in_or_none b [] = inl refl
in_or_none b (x ∷ xs) =
    elim (cases_Bool (nat_eq x b)) [
      | inl e ↦ inr (0, omega arith, (Decides-eqb x b).0 e)
      | inr e ↦ elim (in_or_none b xs) [
        | inl h ↦ inl (rw e h)
        | inr h ↦ inr (suc h.0, omega arith, h.2)
      ]
    ]

-- what is left of the counts of a list is 0 at each number, where it is so at the list's own
pub all_used : (xs ys left : List ℕ) → ((b : ℕ) → get_or left b 0 + times_in b ys ≡ times_in b xs) → All (λ b. get_or left b 0 ≡ 0) xs → (b : ℕ) →
    get_or left b 0 ≡ 0
all_used xs ys left sums used b =
    let s = sums b in
    let f = length-filter (λ x. nat_eq x b) xs in
    elim (in_or_none b xs) [
      | inl h ↦ omega (arith, s, f)
      | inr h ↦ All-contains (λ z. get_or left z 0 ≡ 0) xs b used h
    ]

-- lists with equal counts use one another up
pub used_up : (xs ys left : List ℕ) → ((b : ℕ) → get_or left b 0 + times_in b ys ≡ times_in b xs) → ((b : ℕ) → times_in b ys ≡ times_in b xs) →
    All (λ b. get_or left b 0 ≡ 0) xs
used_up xs ys left sums same k d less = let s = sums (get_or xs k d) in let e = same (get_or xs k d) in omega (arith, s, e)

-- counts that are all 0
pub zeros : (n k : ℕ) → get_or (replicate {A = ℕ} n 0) k 0 ≡ 0
zeros n k =
    elim (lt_or_le k n) [
      | inl less ↦ get_or-replicate n k 0 0 less
      | inr past ↦ get_or_past (replicate {A = ℕ} n 0) k 0 (rw length-replicate past)
    ]
  where
    lt_or_le : (m n : ℕ) → (m < n) ⊎ (n ≤ m)
    lt_or_le m n = grind arith

-- a number is in the first items of a list at most so often
pub times-bound : (b i : ℕ) (xs : List ℕ) → times_in b (take i xs) ≤ i
times-bound b i xs =
    let less = count_by-le-length (λ x. nat_eq x b) (take i xs) in
    let few = length-take i xs in
    omega (arith, less, few)

-- the next item of a list, or another number
times_next : (b i s : ℕ) (xs : List ℕ) → i < length xs → s ≡ get_or xs i s → ((s ≡ b) × (times_in b (take (i + 1) xs) ≡ times_in b (take i xs) + 1))
    ⊎ ((b ≢ s) × (times_in b (take (i + 1) xs) ≡ times_in b (take i xs)))
times_next b i s xs less is = elim (cases_eq s b) [
  | inl e ↦ inl (e, count_by_more_yes (λ x. nat_eq x b) xs i s less (eq-eqb (get_or xs i s) b (sym is ∙ e)))
  | inr ne ↦ inr (λ q. ne (sym q), count_by_more_no (λ x. nat_eq x b) xs i s less (ne_eqb (get_or xs i s) b (λ q. ne (is ∙ q))))
]

-- the count of the next item is one more
pub counted_more : (counts old xs : List ℕ) (i s : ℕ) → i < length xs → s ≡ get_or xs i s → s < length counts →
    ((b : ℕ) → get_or counts b 0 ≡ get_or old b 0 + times_in b (take i xs)) → (b : ℕ) →
    get_or (set counts s (get_or counts s 0 + 1)) b 0 ≡ get_or old b 0 + times_in b (take (i + 1) xs)
counted_more counts old xs i s less is there before b =
    let so_far = before b in
    elim (times_next b i s xs less is) [
      | inl this ↦ (let more = this.1 in
          let now : get_or (set counts s (get_or counts s 0 + 1)) b 0 ≡ get_or counts b 0 + 1 = ap (λ m. get_or (set counts s (get_or counts s 0 + 1)) m 0) (sym this.0)
          ∙ get_or-set_same counts s (get_or counts s 0 + 1) 0 there ∙ ap (λ m. get_or counts m 0 + 1) this.0 in
          omega (arith, so_far, more, now))
      | inr other ↦ (let same = other.1 in
          let now = get_or-set_other counts s b (get_or counts s 0 + 1) 0 other.0 in
          omega (arith, so_far, same, now))
    ]

-- the count of the next item, which isn't 0, is one less
pub counted_less : (counts old xs : List ℕ) (i s : ℕ) → i < length xs → s ≡ get_or xs i s → s < length counts → get_or counts s 0 ≢ 0 →
    ((b : ℕ) → get_or counts b 0 + times_in b (take i xs) ≡ get_or old b 0) → (b : ℕ) →
    get_or (set counts s (get_or counts s 0 - 1)) b 0 + times_in b (take (i + 1) xs) ≡ get_or old b 0
counted_less counts old xs i s less is there some before b =
    let so_far = before b in
    elim (times_next b i s xs less is) [
      | inl this ↦ (let more = this.1 in
          let here : get_or counts b 0 ≢ 0 = λ e. some (ap (λ m. get_or counts m 0) this.0 ∙ e) in
          let now : get_or (set counts s (get_or counts s 0 - 1)) b 0 ≡ get_or counts b 0 - 1 = ap (λ m. get_or (set counts s (get_or counts s 0 - 1)) m 0) (sym this.0)
          ∙ get_or-set_same counts s (get_or counts s 0 - 1) 0 there ∙ ap (λ m. get_or counts m 0 - 1) this.0 in
          omega (arith, so_far, more, now, here))
      | inr other ↦ (let same = other.1 in
          let now = get_or-set_other counts s b (get_or counts s 0 - 1) 0 other.0 in
          omega (arith, so_far, same, now))
    ]

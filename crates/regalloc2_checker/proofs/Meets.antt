-- A meet of the current array with a saved copy, part by part.
use Rattle.std.proofs.Common.{inl, inr, ◌⊎◌, ℕ, ◌≡◌, ◌+◌, ◌<◌, ◌≤◌, arith, Bool, true, false, List, length, refl, sym, ap, ◌∙◌, subst}
use Rattle.std.specs.Prelude.{◌&&◌}
use Rattle.std.proofs.lemmas.Bool.{cases_eq, cases_lt}
use Rattle.regalloc2_index.proofs.Bools.{and_second}
use Rattle.regalloc2_function.specs.Numbers.{NumberSet}
use Rattle.regalloc2_checker_sets.specs.SavedNumbers.{NumberCopies, saved_number, number_now}
use Rattle.regalloc2_checker_sets.specs.EntrySets.{is_member, IsLess}
use Rattle.regalloc2_checker.specs.Holding.{LosesSome, IsMetBetween}
use Rattle.regalloc2_checker_sets.specs.Held.{held, AreBelow, AreStill}
use Rattle.regalloc2_checker.proofs.Holders.{still-same, still-then}

both-same : (b : Bool) → b ≡ (b && b)
both-same true = refl
both-same false = refl

-- a part without positions needs no meet
pub met-none : (s : List NumberSet) (e : NumberCopies) (k from end bound : ℕ) (a : Bool) → end ≤ from → AreBelow s e → IsMetBetween s e s e k from end bound a a
met-none s e k from end bound a none h = record {
  still = still-same s e h;
  done = λ i y l r b. absurd (omega arith);
  low = λ i l. refl;
  rest = λ i l. refl;
  fewer = λ i y l is. is;
  less = λ q. inl q;
  same = λ q. (q, λ i y l r b is. absurd (omega arith));
}

-- positions past the bound need none
pub met-past : (s t : List NumberSet) (e f : NumberCopies) (k from end later bound : ℕ) (a b : Bool) → end ≤ later → (end < later → bound ≤ end) →
    IsMetBetween s e t f k from end bound a b → IsMetBetween s e t f k from later bound a b
met-past s t e f k from end later bound a b l past h = record {
  still = h.still;
  done = λ i y lo hi bo. h.done i y lo (inside i hi bo) bo;
  low = h.low;
  rest = λ i lo. h.rest i (omega arith);
  fewer = h.fewer;
  less = h.less;
  same = λ q. let w = h.same q in (w.0, λ i y lo hi bo is. w.1 i y lo (inside i hi bo) bo is);
}
  where
    inside : (i : ℕ) → i < later → i < bound → i < end
    inside i hi bo = elim (cases_lt i end) [
      | inl x ↦ x
      | inr x ↦ (let p = past (omega arith) in absurd (omega arith))
    ]

-- one position is met with a set
pub record IsMetAt (t u : List NumberSet) (f g : NumberCopies) (had p : ℕ) (a b : Bool) : Type 0 where
  pub still : AreStill t f u g
  pub others : (i : ℕ) → (i ≡ p → ⊥) → number_now g i ≡ number_now f i
  pub here : (y : ℕ) → held u g p y ≡ (is_member t had y && held t f p y)
  pub more : b ≡ true → (a ≡ true) ⊎ IsLess (is_member t had) (held t f p)
  pub same : b ≡ false → (a ≡ false) × ((y : ℕ) → is_member t had y ≡ true → held t f p y ≡ true)

-- that is a part of one position
pub met-at : (s t : List NumberSet) (e f : NumberCopies) (k p end bound had : ℕ) (a b : Bool) → AreBelow s e → p < bound → end ≡ p + 1 →
    had ≡ saved_number e k p → IsMetAt s t e f had p a b → IsMetBetween s e t f k p end bound a b
met-at s t e f k p end bound had a b below pb one is-had at = record {
  still = w.still;
  done = λ i y lo hi bo. (let q : i ≡ p = omega arith in
      ap (λ n. held t f n y) q ∙ w.here y ∙ ap (λ n. is_member s (saved_number e k n) y && held s e n y) (sym q));
  low = λ i l. w.others i (λ q. absurd (omega arith));
  rest = λ i l. w.others i (λ q. absurd (omega arith));
  fewer = λ i y l is. elim (cases_eq i p) [
    | inl q ↦ ap (λ n. held s e n y) q
        ∙ and_second (is_member s (saved_number e k p) y) (held s e p y) (sym (w.here y) ∙ ap (λ n. held t f n y) (sym q) ∙ is)
    | inr n ↦ sym (ap (λ z. is_member t z y) (w.others i n) ∙ w.still.more.kept (number_now e i) y (below i l)) ∙ is
  ];
  less = λ q. lost (w.more q);
  same = λ q. let h = w.same q in (
    h.0,
    λ i y lo hi bo is. (let z : i ≡ p = omega arith in
        ap (λ n. held s e n y) z ∙ h.1 y (ap (λ n. is_member s (saved_number e k n) y) (sym z) ∙ is)),
  );
}
  where
    w : IsMetAt s t e f (saved_number e k p) p a b
    w = subst (λ (h : ℕ). IsMetAt s t e f h p a b) is-had at

    lost : (a ≡ true) ⊎ IsLess (is_member s (saved_number e k p)) (held s e p) →
        (a ≡ true) ⊎ (d : LosesSome bound (λ i y. is_member s (saved_number e k i) y) (held s e)) × (p ≤ d.place)
    lost (inl q) = inl q
    lost (inr d) = inr (record { place = p; bits = d.bits; place_small = pb; bits_small = d.small; here = d.here; not_there = d.not_there }, omega arith)

-- a part is met, and from its end up to the next part the array and the saved copy have the same numbers
pub record IsMetUpTo (s t : List NumberSet) (e f : NumberCopies) (k from mid next bound : ℕ) (a b : Bool) : Type 0 where
  pub met : IsMetBetween s e t f k from mid bound a b
  pub order : from ≤ mid
  pub after : mid ≤ next
  pub inside : bound ≤ length e.cells
  pub below : AreBelow s e
  pub saved : (i : ℕ) → i < length e.cells → saved_number e k i < length s
  pub between : (i : ℕ) → mid ≤ i → i < next → number_now f i ≡ saved_number f k i

module _ (s t : List NumberSet) (e f : NumberCopies) (k from mid next bound : ℕ) (a b : Bool) (x : IsMetUpTo s t e f k from mid next bound a b) where
  -- past the part, the array holds what it held
  pub now-there : (i y : ℕ) → mid ≤ i → i < length e.cells → held t f i y ≡ held s e i y
  now-there i y l li = ap (λ n. is_member t n y) (x.met.rest i l) ∙ x.met.still.more.kept (number_now e i) y (x.below i li)

  -- the saved copy has the members that it had
  pub saved-there : (i y : ℕ) → i < length e.cells → is_member t (saved_number f k i) y ≡ is_member s (saved_number e k i) y
  saved-there i y li = ap (λ n. is_member t n y) (x.met.still.saved k i) ∙ x.met.still.more.kept (saved_number e k i) y (x.saved i li)

  -- between the parts, the array holds what the saved copy has
  pub same-there : (i y : ℕ) → mid ≤ i → i < next → i < length e.cells → is_member s (saved_number e k i) y ≡ held s e i y
  same-there i y l lp li = sym (saved-there i y li) ∙ ap (λ n. is_member t n y) (sym (x.between i l lp)) ∙ now-there i y l li

-- both parts, and what is between them
pub met-then : (s t u : List NumberSet) (e f g : NumberCopies) (k from mid next end bound : ℕ) (a b c : Bool) → IsMetUpTo s t e f k from mid next bound a b →
    next ≤ end → IsMetBetween t f u g k next end bound b c → IsMetBetween s e u g k from end bound a c
met-then s t u e f g k from mid next end bound a b c x ord w = record {
  still = still-then s t u e f g x.met.still w.still;
  done = done;
  low = λ i l. w.low i (let o = x.order in let p = x.after in omega arith) ∙ x.met.low i l;
  rest = λ i l. w.rest i l ∙ x.met.rest i (let p = x.after in omega arith);
  fewer = λ i y l is. x.met.fewer i y l (w.fewer i y (let h = long in omega arith) is);
  less = λ q. lost (w.less q);
  same = λ q. kept (w.same q);
}
  where
    long : length f.cells ≡ length e.cells
    long = x.met.still.long

    early : (i y : ℕ) → i < next → i < length e.cells → held u g i y ≡ held t f i y
    early i y n l = ap (λ z. is_member u z y) (w.low i n) ∙ w.still.more.kept (number_now f i) y (x.met.still.below i (let h = long in omega arith))

    done : (i y : ℕ) → from ≤ i → i < end → i < bound → held u g i y ≡ (is_member s (saved_number e k i) y && held s e i y)
    done i y lo hi bo =
        let ins = x.inside in
        let aft = x.after in
        elim (cases_lt i next) [
          | inl n ↦ early i y n (omega arith) ∙ elim (cases_lt i mid) [
            | inl m ↦ x.met.done i y lo m bo
            | inr m ↦
                now-there s t e f k from mid next bound a b x i y m (omega arith) ∙ both-same (held s e i y)
                ∙ ap (λ z. z && held s e i y) (sym (same-there s t e f k from mid next bound a b x i y m n (omega arith)))
          ]
          | inr n ↦
              w.done i y n hi bo ∙ ap (λ z. z && held t f i y) (saved-there s t e f k from mid next bound a b x i y (omega arith))
              ∙ ap (λ z. is_member s (saved_number e k i) y && z) (now-there s t e f k from mid next bound a b x i y (omega arith) (omega arith))
        ]

    lost : (b ≡ true) ⊎ (d : LosesSome bound (λ i y. is_member t (saved_number f k i) y) (held t f)) × (next ≤ d.place) →
        (a ≡ true) ⊎ (d : LosesSome bound (λ i y. is_member s (saved_number e k i) y) (held s e)) × (from ≤ d.place)
    lost (inl q) = x.met.less q
    lost (inr (d, l)) =
        let ins = x.inside in
        let aft = x.after in
        let ord = x.order in
        let small = d.place_small in
        inr (
          record {
            place = d.place;
            bits = d.bits;
            place_small = d.place_small;
            bits_small = d.bits_small;
            here = sym (saved-there s t e f k from mid next bound a b x d.place d.bits (omega arith)) ∙ d.here;
            not_there = sym (now-there s t e f k from mid next bound a b x d.place d.bits (omega arith) (omega arith)) ∙ d.not_there;
          },
          omega arith,
        )

    kept : (b ≡ false) × ((i y : ℕ) → next ≤ i → i < end → i < bound → is_member t (saved_number f k i) y ≡ true → held t f i y ≡ true) →
        (a ≡ false) × ((i y : ℕ) → from ≤ i → i < end → i < bound → is_member s (saved_number e k i) y ≡ true → held s e i y ≡ true)
    kept h =
        let first = x.met.same h.0 in (
          first.0,
          λ i y lo hi bo is. (let ins = x.inside in let aft = x.after in elim (cases_lt i next) [
            | inl n ↦ elim (cases_lt i mid) [
              | inl m ↦ first.1 i y lo m bo is
              | inr m ↦ sym (same-there s t e f k from mid next bound a b x i y m n (omega arith)) ∙ is
            ]
            | inr n ↦ sym (now-there s t e f k from mid next bound a b x i y (omega arith) (omega arith))
                ∙ h.1 i y n hi bo (saved-there s t e f k from mid next bound a b x i y (omega arith) ∙ is)
          ]),
        )

-- the rest of the positions, at which the array and the saved copy have the same numbers
pub met-end : (s t : List NumberSet) (e f : NumberCopies) (k from mid end bound : ℕ) (a b : Bool) → IsMetUpTo s t e f k from mid end bound a b →
    IsMetBetween s e t f k from end bound a b
met-end s t e f k from mid end bound a b x =
    met-then s t t e f f k from mid end end bound a b b x (omega arith) (met-none t f k end end bound b (omega arith) x.met.still.below)

-- Slots that are compared in turn, each with the last one before it that has another number.
use Rattle.std.proofs.Common.{ℕ, ◌≡◌, ◌≢◌, ◌+◌, ◌-◌, ◌<◌, ◌≤◌, Bool, true, false, List, length, get_or, arith, refl, sym, ◌∙◌, ap, subst, inl, inr, Option}
use Rattle.std.proofs.Common.{Some}
use Rattle.std.specs.Prelude.{◌⊎◌, ◌↔◌, Contains, reverse}
use Rattle.std.specs.List.Sorted.{IsNonDecreasingBy}
use Rattle.std.proofs.lemmas.Bool.{cases_lt}
use Rattle.std.proofs.lemmas.List.{get_or_default, get_or-reverse}
use Rattle.regalloc2_checker.specs.Cells.{AreUnitsApart}
use Rattle.regalloc2_checker.specs.CellFaults.{slot_at, ComesBefore, AreTurned, AreAllApart, IsShared, IsSlotFault, IsNextSlot, SlotReaches}
use Rattle.regalloc2_checker.specs.declared.cells.CellFault.{CellFault}
use Rattle.regalloc2_checker.specs.declared.cells.CellFault.TheVariants.{Shared}

-- a list by rising numbers is in order where slots are named by their last units
pub turned_rising : (b : Bool) (xs : List (ℕ × ℕ)) → b ≡ true → IsNonDecreasingBy (λ (s : ℕ × ℕ). s.0) xs → AreTurned b xs
turned_rising true xs e up i j le less = up i j (0, 0) le less
turned_rising false xs e up i j le less = absurd cc

-- a list by rising numbers is turned round where slots are named by their first units
pub turned_falling : (b : Bool) (xs ys : List (ℕ × ℕ)) → b ≡ false → ys ≡ reverse xs → length ys ≡ length xs → IsNonDecreasingBy (λ (s : ℕ × ℕ). s.0) xs →
    AreTurned b ys
turned_falling true xs ys e same len up i j le less = absurd cc
turned_falling false xs ys e same len up i j le less =
    let li : i < length xs = omega (arith, le, less, len) in
    let lj : j < length xs = omega (arith, less, len) in
    let a : slot_at ys i ≡ get_or xs (length xs - 1 - i) (0, 0) = ap (λ l. slot_at l i) same ∙ get_or-reverse xs i (0, 0) li in
    let b : slot_at ys j ≡ get_or xs (length xs - 1 - j) (0, 0) = ap (λ l. slot_at l j) same ∙ get_or-reverse xs j (0, 0) lj in
    let upward : (get_or xs (length xs - 1 - j) (0, 0)).0 ≤ (get_or xs (length xs - 1 - i) (0, 0)).0 =
    up (length xs - 1 - j) (length xs - 1 - i) (0, 0) (omega (arith, le, li)) (omega (arith, li)) in
    subst (λ (s : ℕ × ℕ). (slot_at ys j).0 ≤ s.0) (sym a) (subst (λ (s : ℕ × ℕ). s.0 ≤ (get_or xs (length xs - 1 - i) (0, 0)).0) (sym b) upward)

-- a number is that of a slot among the first
abbrev pub IsSeen : List (ℕ × ℕ) → ℕ → ℕ → Type 0
IsSeen named k n = (j : ℕ) × (j < k) × ((slot_at named j).0 ≡ n)

-- a later slot doesn't reach an earlier number
abbrev pub IsBeyond : Bool → (ℕ × ℕ) → ℕ → Type 0
IsBeyond true s n = n + s.1 ≤ s.0
IsBeyond false s n = s.0 + s.1 ≤ n

-- the number before the current one
abbrev pub IsOther : Bool → List (ℕ × ℕ) → ℕ → Option ℕ → ℕ → Type 0
IsOther b named k current o = IsSeen named k o × ((c : ℕ) × (current ≡ Some c) × (o ≢ c) × ComesBefore b o c)

-- the first slots: each has the current number or comes no later than the one before it, and none reaches an earlier one of another number
pub record AreSwept (b : Bool) (named : List (ℕ × ℕ)) (k : ℕ) (now : Option ℕ × Option ℕ) : Type 0 where
  pub seen : (j : ℕ) → j < k → (now.0 ≡ Some (slot_at named j).0) ⊎ ((o : ℕ) × (now.1 ≡ Some o) × ComesBefore b (slot_at named j).0 o)
  pub current : (c : ℕ) → now.0 ≡ Some c → IsSeen named k c
  pub other : (o : ℕ) → now.1 ≡ Some o → IsOther b named k now.0 o
  pub apart : (i j : ℕ) → i < j → j < k → (slot_at named i).0 ≢ (slot_at named j).0 → IsBeyond b (slot_at named j) (slot_at named i).0

before_self : (b : Bool) (m : ℕ) → ComesBefore b m m
before_self true m = omega arith
before_self false m = omega arith

before_before : (b : Bool) (m n o : ℕ) → ComesBefore b m n → ComesBefore b n o → ComesBefore b m o
before_before true m n o h k = omega (arith, h, k)
before_before false m n o h k = omega (arith, h, k)

-- a slot that doesn't reach the slot before it is beyond all slots that come before it
beyond : (b : Bool) (s : ℕ × ℕ) (o n : ℕ) → ComesBefore b o s.0 → ComesBefore b n o → (SlotReaches b s o → ⊥) → IsBeyond b s n
beyond true s o n before earlier free = elim (cases_lt (s.0 - o) s.1) [ inl r ↦ absurd (free r) | inr h ↦ omega (arith, before, earlier, h) ]
beyond false s o n before earlier free = elim (cases_lt (o - s.0) s.1) [ inl r ↦ absurd (free r) | inr h ↦ omega (arith, before, earlier, h) ]

same_number : (a b : ℕ) (o : Option ℕ) → o ≡ Some a → o ≡ Some b → a ≡ b
same_number a b o p q = cc

seen_more : (named : List (ℕ × ℕ)) (k n : ℕ) → IsSeen named k n → IsSeen named (k + 1) n
seen_more named k n h = (h.0, omega (arith, h.1), h.2)

-- where a slot is gone on to, it is the current one
now_current : (n : ℕ) (old now : Option ℕ × Option ℕ) → IsNextSlot n old now → now.0 ≡ Some n
now_current n old now (inl h) = ap (λ (p : Option ℕ × Option ℕ). p.0) h.1 ∙ h.0
now_current n old now (inr h) = h.1

-- the last slot before a slot that is gone on to, of another number, comes before it
pub now_other : (b : Bool) (named : List (ℕ × ℕ)) (k n : ℕ) (old now : Option ℕ × Option ℕ) → AreTurned b named → k < length named → n ≡ (slot_at named k).0 →
    IsNextSlot n old now → AreSwept b named k old → (o : ℕ) → now.1 ≡ Some o → IsSeen named k o × (o ≢ n) × ComesBefore b o n
now_other b named k n old now turned less is (inl h) swept o e =
    let r = swept.other o (sym (ap (λ (p : Option ℕ × Option ℕ). p.1) h.1) ∙ e) in
    let same : r.1.0 ≡ n = same_number r.1.0 n old.0 r.1.1 h.0 in
    (r.0, subst (λ (c : ℕ). o ≢ c) same r.1.2, subst (λ (c : ℕ). ComesBefore b o c) same r.1.3)
now_other b named k n old now turned less is (inr h) swept o e =
    let was : old.0 ≡ Some o = sym h.2 ∙ e in
    let r = swept.current o was in (
      r,
      λ same. h.0 (subst (λ (c : ℕ). old.0 ≡ Some c) same was),
      subst (λ (c : ℕ). ComesBefore b o c) (sym is) (subst (λ (c : ℕ). ComesBefore b c (slot_at named k).0) r.2 (turned r.0 k (omega (arith, r.1)) less)),
    )

-- one slot more
pub swept_more : (b : Bool) (named : List (ℕ × ℕ)) (k n : ℕ) (old now : Option ℕ × Option ℕ) → AreTurned b named → k < length named →
    n ≡ (slot_at named k).0 → IsNextSlot n old now → ((o : ℕ) → now.1 ≡ Some o → SlotReaches b (slot_at named k) o → ⊥) → AreSwept b named k old →
    AreSwept b named (k + 1) now
swept_more b named k n old now turned less is step free swept = record {
  seen = λ j below. seen_at j below;
  current = λ c e. (k, omega arith, sym is ∙ same_number n c now.0 (now_current n old now step) e);
  other = λ o e. let r = now_other b named k n old now turned less is step swept o e in
      (seen_more named k o r.0, (n, now_current n old now step, r.1, r.2));
  apart = λ i j before below differ. apart_at i j before below differ;
}
  where
    seen_old : (j : ℕ) → j < k → IsNextSlot n old now → (old.0 ≡ Some (slot_at named j).0)
        ⊎ ((o : ℕ) × (old.1 ≡ Some o) × ComesBefore b (slot_at named j).0 o) →
        (now.0 ≡ Some (slot_at named j).0) ⊎ ((o : ℕ) × (now.1 ≡ Some o) × ComesBefore b (slot_at named j).0 o)
    seen_old j below (inl h) (inl e) = inl (ap (λ (p : Option ℕ × Option ℕ). p.0) h.1 ∙ e)
    seen_old j below (inl h) (inr q) = inr (q.0, ap (λ (p : Option ℕ × Option ℕ). p.1) h.1 ∙ q.1, q.2)
    seen_old j below (inr h) (inl e) = inr ((slot_at named j).0, h.2 ∙ e, before_self b (slot_at named j).0)
    seen_old j below (inr h) (inr q) =
        let r = (swept.other q.0 q.1).1 in
        inr (r.0, h.2 ∙ r.1, before_before b (slot_at named j).0 q.0 r.0 q.2 r.3)

    seen_at : (j : ℕ) → j < k + 1 → (now.0 ≡ Some (slot_at named j).0) ⊎ ((o : ℕ) × (now.1 ≡ Some o) × ComesBefore b (slot_at named j).0 o)
    seen_at j below = elim (cases_lt j k) [
      | inl h ↦ seen_old j h step (swept.seen j h)
      | inr h ↦ inl (let same : k ≡ j = omega (arith, below, h) in
          now_current n old now step ∙ ap (λ (m : ℕ). Some m) (is ∙ ap (λ i. (slot_at named i).0) same))
    ]

    beyond_at : (i : ℕ) → (slot_at named i).0 ≢ (slot_at named k).0 →
        (now.0 ≡ Some (slot_at named i).0) ⊎ ((o : ℕ) × (now.1 ≡ Some o) × ComesBefore b (slot_at named i).0 o) →
        IsBeyond b (slot_at named k) (slot_at named i).0
    beyond_at i differ (inl e) = absurd (differ (sym (same_number n (slot_at named i).0 now.0 (now_current n old now step) e) ∙ is))
    beyond_at i differ (inr q) =
        beyond b (slot_at named k) q.0 (slot_at named i).0
        (subst (λ (c : ℕ). ComesBefore b q.0 c) is (now_other b named k n old now turned less is step swept q.0 q.1).2) q.2 (free q.0 q.1)

    apart_at : (i j : ℕ) → i < j → j < k + 1 → (slot_at named i).0 ≢ (slot_at named j).0 → IsBeyond b (slot_at named j) (slot_at named i).0
    apart_at i j before below differ = elim (cases_lt j k) [
      | inl h ↦ swept.apart i j before h differ
      | inr h ↦ (let same : k ≡ j = omega (arith, below, h) in
          subst (λ (m : ℕ). IsBeyond b (slot_at named m) (slot_at named i).0) same
          (beyond_at i (subst (λ (m : ℕ). (slot_at named i).0 ≢ (slot_at named m).0) (sym same) differ) (seen_at i (omega (arith, before, below)))))
    ]

-- of two slots that are apart in the list, the lower one ends before the other
lower : (b : Bool) (s t : ℕ × ℕ) (m u n w : ℕ) → s ≡ (m, u) → t ≡ (n, w) → m < n → IsBeyond b t s.0 → AreUnitsApart b m u n w
lower true s t m u n w e d less h = subst (λ (p : ℕ × ℕ). m + p.1 ≤ p.0) d (subst (λ (p : ℕ × ℕ). p.0 + t.1 ≤ t.0) e h)
lower false s t m u n w e d less h =
    let past : n + w ≤ m = subst (λ (p : ℕ × ℕ). p.0 + p.1 ≤ m) d (subst (λ (p : ℕ × ℕ). t.0 + t.1 ≤ p.0) e h) in absurd (omega (arith, past, less))

upper : (b : Bool) (s t : ℕ × ℕ) (m u n w : ℕ) → s ≡ (m, u) → t ≡ (n, w) → m < n → IsBeyond b s t.0 → AreUnitsApart b m u n w
upper true s t m u n w e d less h =
    let past : n + u ≤ m = subst (λ (p : ℕ × ℕ). p.0 + u ≤ m) d (subst (λ (p : ℕ × ℕ). t.0 + p.1 ≤ p.0) e h) in absurd (omega (arith, past, less))
upper false s t m u n w e d less h = subst (λ (p : ℕ × ℕ). m + u ≤ p.0) d (subst (λ (p : ℕ × ℕ). p.0 + p.1 ≤ t.0) e h)

-- once all are compared, all are apart
pub swept_all : (b : Bool) (named : List (ℕ × ℕ)) (k : ℕ) (now : Option ℕ × Option ℕ) → length named ≤ k → AreSwept b named k now → AreAllApart b named
swept_all b named k now all swept m u n w less (i, li, ei) (j, lj, ej) = elim (cases_lt i j) [
  | inl h ↦ lower b (slot_at named i) (slot_at named j) m u n w p q less (swept.apart i j h (omega (arith, lj, all)) differ)
  | inr h ↦ elim (cases_lt j i) [
    | inl g ↦ upper b (slot_at named i) (slot_at named j) m u n w p q less (swept.apart j i g (omega (arith, li, all)) (λ e. differ (sym e)))
    | inr g ↦ absurd (differ (let same : i ≡ j = omega (arith, h, g) in ap (λ x. (slot_at named x).0) same))
  ]
]
  where
    p : slot_at named i ≡ (m, u)
    p = get_or_default named i (0, 0) (m, u) li ∙ ei

    q : slot_at named j ≡ (n, w)
    q = get_or_default named j (0, 0) (n, w) lj ∙ ej

    differ : (slot_at named i).0 ≢ (slot_at named j).0
    differ e = let same : m ≡ n = sym (ap (λ (s : ℕ × ℕ). s.0) p) ∙ e ∙ ap (λ (s : ℕ × ℕ). s.0) q in omega (arith, same, less)

in_list : (named : List (ℕ × ℕ)) (k : ℕ) → k < length named → Contains named (slot_at named k)
in_list named k less = (k, less, get_or_default named k (slot_at named k) (0, 0) less)

-- a slot that reaches the one before it shares a unit with it
pub is_shared : (b : Bool) (named : List (ℕ × ℕ)) (k n o : ℕ) (r : CellFault) → k < length named → n ≡ (slot_at named k).0 → IsSeen named k o → o ≢ n →
    ComesBefore b o n → SlotReaches b (slot_at named k) o → (b ≡ true → r ≡ Shared o n) → (b ≡ false → r ≡ Shared n o) →
    (x y : ℕ) × (r ≡ Shared x y) × IsShared b named x y
is_shared true named k n o r less is seen differ before reach up down =
    let below : o < n = omega (arith, differ, before) in (
      o,
      n,
      up refl,
      (
        (slot_at named seen.0).1,
        (slot_at named k).1,
        below,
        subst (λ (x : ℕ). Contains named (x, (slot_at named seen.0).1)) seen.2 (in_list named seen.0 (omega (arith, seen.1, less))),
        subst (λ (x : ℕ). Contains named (x, (slot_at named k).1)) (sym is) (in_list named k less),
        λ h. omega (arith, h, reach, is, below),
      ),
    )
is_shared false named k n o r less is seen differ before reach up down =
    let below : n < o = omega (arith, differ, before) in (
      n,
      o,
      down refl,
      (
        (slot_at named k).1,
        (slot_at named seen.0).1,
        below,
        subst (λ (x : ℕ). Contains named (x, (slot_at named k).1)) (sym is) (in_list named k less),
        subst (λ (x : ℕ). Contains named (x, (slot_at named seen.0).1)) seen.2 (in_list named seen.0 (omega (arith, seen.1, less))),
        λ h. omega (arith, h, reach, is, below),
      ),
    )

same_other : (b : Bool) (s : ℕ × ℕ) (a o : ℕ) (r : Option ℕ) → r ≡ Some a → r ≡ Some o → SlotReaches b s o → SlotReaches b s a
same_other b s a o r e d h = subst (λ (m : ℕ). SlotReaches b s m) (same_number o a r d e) h

-- a slot that was tested doesn't reach the one before it
pub reaches_none : (b : Bool) (s : ℕ × ℕ) (a o : ℕ) (r : Option ℕ) → r ≡ Some a → r ≡ Some o → (SlotReaches b s a → ⊥) → SlotReaches b s o → ⊥
reaches_none b s a o r e d free h = free (same_other b s a o r e d h)

-- what is said of a list is said of another one with the same slots
pub apart_before : (b : Bool) (old now : List (ℕ × ℕ)) → ((s : ℕ × ℕ) → Contains old s ↔ Contains now s) → AreAllApart b now → AreAllApart b old
apart_before b old now same h m u n w less p q = h m u n w less ((same (m, u)).0 p) ((same (n, w)).0 q)

pub shared_before : (b : Bool) (count : ℕ) (old now : List (ℕ × ℕ)) → ((s : ℕ × ℕ) → Contains old s ↔ Contains now s) → (e : CellFault) →
    (m n : ℕ) × (e ≡ Shared m n) × IsShared b now m n → IsSlotFault b count old e
shared_before b count old now same e h =
    let s : IsShared b now h.0 h.1 = h.3 in
    let found : IsShared b old h.0 h.1 = (s.0, s.1, s.2, (same (h.0, s.0)).1 s.3, (same (h.1, s.1)).1 s.4, s.5) in
    subst (λ (x : CellFault). IsSlotFault b count old x) (sym h.2) found

-- Kept sets that are moved down, and their new numbers.
use Rattle.std.proofs.Common.{ℕ, ◌≡◌, ◌+◌, ◌-◌, ◌<◌, ◌≤◌, inl, inr, arith, List, [], length, get_or, take, drop, set, ◌++◌, refl, sym, ap, ◌∙◌, subst}
use Rattle.std.proofs.Common.{Bool, true, false}
use Rattle.std.specs.Prelude.{if◌then◌else◌}
use Rattle.std.specs.List.{swap}
use Rattle.std.proofs.lemmas.Bool.{cases_eq, cases_lt, lt-ltb, le-ltb}
use Rattle.std.proofs.lemmas.List.{get_or-set_same, get_or-set_other, get_or-take, length-take-le}
use Rattle.std.proofs.lemmas.List.Edits.{swapped_from_swap}
use Rattle.std.proofs.Math.Seq.{take-append_seam}
use Rattle.regalloc2_index.proofs.Bools.{not_both}
use Rattle.regalloc2_function.specs.Numbers.{NumberSet}
use Rattle.regalloc2_checker_sets.specs.EntrySets.{has_bits, all_sets}
use Rattle.regalloc2_checker_sets.specs.Renumbering.{renamed, IsMarked, IsMovedTo, AreMovedDown, AreMarkedKept}
use Rattle.regalloc2_checker_sets.proofs.AllSets.{all-long, kept-at, few-same}

-- a set without a mark
pub moved-skip : (marks : List Bool) (old new : List NumberSet) (numbers : List ℕ) (i next : ℕ) → i < length numbers → get_or marks i true ≡ false →
    AreMovedDown marks old new numbers i next → AreMovedDown marks old new (set numbers i 0) (i + 1) next
moved-skip marks old new numbers i next less unset h = record {
  moved = λ j l is. elim (cases_eq j i) [
    | inl e ↦ absurd (not_both (get_or marks j true) is (ap (λ n. get_or marks n true) e ∙ unset))
    | inr n ↦ (let m = h.moved j (omega (arith, l, n)) is in
        record { to = m.to; number = get_or-set_other numbers i j 0 0 n ∙ m.number; below = m.below; same = m.same })
  ];
  dropped = λ j l is. elim (cases_eq j i) [
    | inl e ↦ ap (λ n. get_or (set numbers i 0) n 0) e ∙ get_or-set_same numbers i 0 0 less
    | inr n ↦ get_or-set_other numbers i j 0 0 n ∙ h.dropped j (omega (arith, l, n)) is
  ];
  each = λ m l.
      let (j, low, is, number) = h.each m l in
      (j, omega (arith, low), is, get_or-set_other numbers i j 0 0 (λ e. omega (arith, e, low)) ∙ number);
}

-- a set with a mark
pub moved-next : (marks : List Bool) (old mid new : List NumberSet) (numbers : List ℕ) (i next : ℕ) → i < length numbers → i < length mid → next ≤ i →
    get_or marks i true ≡ true → get_or mid i [] ≡ get_or old i [] → new ≡ swap mid next i → AreMovedDown marks old mid numbers i next →
    AreMovedDown marks old new (set numbers i (2147483648 + next)) (i + 1) (next + 1)
moved-next marks old mid new numbers i next less inside low marked at e h =
    let s = swapped_from_swap mid new next i [] (omega (arith, inside, low)) inside e in
    let written = set numbers i (2147483648 + next) in
    record {
      moved = λ j l is. elim (cases_eq j i) [
        | inl q ↦ record {
          to = next;
          number = ap (λ n. get_or written n 0) q ∙ get_or-set_same numbers i (2147483648 + next) 0 less;
          below = omega arith;
          same = s.0 ∙ at ∙ ap (λ n. get_or old n []) (sym q);
        }
        | inr n ↦ (let m = h.moved j (omega (arith, l, n)) is in record {
          to = m.to;
          number = get_or-set_other numbers i j (2147483648 + next) 0 n ∙ m.number;
          below = omega (arith, m.below);
          same = s.2 m.to (λ q. omega (arith, q, m.below)) (λ q. omega (arith, q, m.below, low)) ∙ m.same;
        })
      ];
      dropped = λ j l is. elim (cases_eq j i) [
        | inl q ↦ absurd (not_both (get_or marks j true) (ap (λ n. get_or marks n true) q ∙ marked) is)
        | inr n ↦ get_or-set_other numbers i j (2147483648 + next) 0 n ∙ h.dropped j (omega (arith, l, n)) is
      ];
      each = λ m l. elim (cases_eq m next) [
        | inl q ↦ (i, omega arith, marked, get_or-set_same numbers i (2147483648 + next) 0 less ∙ ap (λ n. 2147483648 + n) (sym q))
        | inr n ↦
            let (j, below, is, number) = h.each m (omega (arith, l, n)) in
            (j, omega (arith, below), is, get_or-set_other numbers i j (2147483648 + next) 0 (λ q. omega (arith, q, below)) ∙ number)
      ];
    }

-- the sets past an index are where they were
pub rest-next : (old mid new : List NumberSet) (i next : ℕ) → i < length mid → next ≤ i → new ≡ swap mid next i →
    ((j : ℕ) → i ≤ j → get_or mid j [] ≡ get_or old j []) → (j : ℕ) → i + 1 ≤ j → get_or new j [] ≡ get_or old j []
rest-next old mid new i next inside low e h j high =
    let s = swapped_from_swap mid new next i [] (omega (arith, inside, low)) inside e in
    s.2 j (λ q. omega (arith, q, high, low)) (λ q. omega (arith, q, high)) ∙ h j (omega (arith, high))

-- the sets past the last one that was moved are dropped
pub moved-all : (marks : List Bool) (old mid new : List NumberSet) (numbers : List ℕ) (i next n : ℕ) → next ≤ length mid → i ≡ n → new ≡ take next mid →
    AreMovedDown marks old mid numbers i next → AreMovedDown marks old new numbers n (length new)
moved-all marks old mid new numbers i next n low e q h =
    let long : length new ≡ next = ap (λ (l : List NumberSet). length l) q ∙ length-take-le next mid low in
    subst (λ (k : ℕ). AreMovedDown marks old new numbers k (length new)) e (subst (λ (k : ℕ). AreMovedDown marks old new numbers i k) (sym long) (record {
      moved = λ j l is. (let m = h.moved j l is in record {
        to = m.to;
        number = m.number;
        below = m.below;
        same = ap (λ (l : List NumberSet). get_or l m.to []) q ∙ get_or-take next mid m.to [] m.below ∙ m.same;
      });
      dropped = h.dropped;
      each = h.each;
    }))

-- the new number of a kept set, and that of another
pub renamed-kept : (numbers : List ℕ) (n j : ℕ) → n ≡ 2147483648 + j → renamed numbers n ≡ get_or numbers j 0
renamed-kept numbers n j e =
    ap (λ b. if b then n else get_or numbers (n - 2147483648) 0) (le-ltb n 2147483648 (omega (arith, e)))
    ∙ ap (λ m. get_or numbers m 0) (from n j e)
  where
    from : (n j : ℕ) → n ≡ 2147483648 + j → n - 2147483648 ≡ j
    from n j e = omega (arith, e)

pub renamed-few : (numbers : List ℕ) (n : ℕ) → n < 2147483648 → renamed numbers n ≡ n
renamed-few numbers n l = ap (λ b. if b then n else get_or numbers (n - 2147483648) 0) (lt-ltb n 2147483648 l)

-- the sets that are kept have new numbers
pub marked-kept : (marks : List Bool) (sets old new : List NumberSet) (numbers : List ℕ) (n k : ℕ) → all_sets old ≡ sets → n ≡ length old → k ≡ length new →
    AreMovedDown marks old new numbers n k → AreMarkedKept marks sets (all_sets new) numbers
marked-kept marks sets old new numbers n k e d f h =
    let a = all-long sets old e in
    let b = all-long (all_sets new) new refl in
    let at : (m : ℕ) → 2147483648 ≤ m → 2147483648 + (m - 2147483648) ≡ m = λ m high. omega (arith, high) in
    let to : (m : ℕ) → 2147483648 ≤ m → m < length sets → IsMarked marks m → IsMovedTo old new numbers k (m - 2147483648) =
    λ m high l is. h.moved (m - 2147483648) (omega (arith, high, l, a, d)) (is high) in
    record {
      below = λ m l is. elim (cases_lt m 2147483648) [
        | inl low ↦ subst (λ (x : ℕ). x < length (all_sets new)) (sym (renamed-few numbers m low)) (omega (arith, low, b))
        | inr high ↦
            let t = to m high l is in
            subst (λ (x : ℕ). x < length (all_sets new)) (sym (renamed-kept numbers m (m - 2147483648) (sym (at m high)) ∙ t.number))
            (omega (arith, b, f, t.below))
      ];
      members = λ m y l is. ap (λ (s : NumberSet). has_bits s y) (elim (cases_lt m 2147483648) [
        | inl low ↦
            ap (λ x. get_or (all_sets new) x []) (renamed-few numbers m low) ∙ few-same old new m low ∙ ap (λ (x : List NumberSet). get_or x m []) e
        | inr high ↦
            let t = to m high l is in
            kept-at (all_sets new) new _ t.to refl (renamed-kept numbers m (m - 2147483648) (sym (at m high)) ∙ t.number)
            ∙ t.same ∙ sym (kept-at sets old m (m - 2147483648) e (sym (at m high)))
      ]);
      dropped = λ m l no. elim (cases_lt m 2147483648) [
        | inl low ↦ absurd (no (λ high. absurd (omega (arith, low, high))))
        | inr high ↦ renamed-kept numbers m (m - 2147483648) (sym (at m high)) ∙ h.dropped (m - 2147483648) (omega (arith, high, l, a, d))
            (not_true (get_or marks (m - 2147483648) true) (λ is. no (λ u. is)))
      ];
      each = λ m l. elim (cases_lt m 2147483648) [
        | inl low ↦ (m, omega (arith, low, a), (λ high. absurd (omega (arith, low, high))), renamed-few numbers m low)
        | inr high ↦
            let (j, less, is, number) = h.each (m - 2147483648) (omega (arith, high, l, b, f)) in (
              2147483648 + j,
              omega (arith, less, a, d),
              (λ u. ap (λ x. get_or marks x true) (back j) ∙ is),
              renamed-kept numbers (2147483648 + j) j refl ∙ number ∙ at m high,
            )
      ];
    }
  where
    not_true : (b : Bool) → (b ≡ true → ⊥) → b ≡ false
    not_true true h = absurd (h refl)
    not_true false h = refl

    back : (j : ℕ) → 2147483648 + j - 2147483648 ≡ j
    back j = omega arith

-- what is written over all of a list
pub written-back : {X : Type 0} (xs ys : List X) (n : ℕ) → n ≡ length xs → take n (xs ++ drop (length xs) ys) ≡ xs
written-back xs ys n e = ap (λ m. take m (xs ++ drop (length xs) ys)) e ∙ take-append_seam xs (drop (length xs) ys)

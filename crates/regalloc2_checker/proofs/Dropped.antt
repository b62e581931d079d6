-- What is left of tables that are stored anew.
use Rattle.std.proofs.Common.{ℕ, ◌≡◌, ◌<◌, ◌≤◌, ◌⊎◌, inl, inr, arith, Bool, true, false, List, length, get_or, refl, sym, ap, ◌∙◌, subst}
use Rattle.std.specs.Prelude.{◌&&◌, nat_lt, Option, None}
use Rattle.regalloc2_function.specs.Numbers.{NumberSet}
use Rattle.regalloc2_checker_sets.specs.Homes.{no_homes}
use Rattle.regalloc2_checker_sets.specs.SavedNumbers.{NumberCopies, saved_number, number_now, IsSomeArray, IsWithout}
use Rattle.regalloc2_checker_sets.specs.EntrySets.{is_member, AreMore, IsSetOf}
use Rattle.regalloc2_checker.specs.Showing.{showing, read_as, shows_in, AreShown}
use Rattle.regalloc2_checker.specs.declared.passing.Passed.{Passed}
use Rattle.regalloc2_checker.specs.Holding.{Holding, count_of, holds_in, IsHome, IsSavedHome, AreEntries, IsSoundHolding}
use Rattle.regalloc2_checker.proofs.TableLaws.{entries-as, entries-more, entries-within}
use Rattle.regalloc2_checker_sets.proofs.HomeLaws.{saved-is-home}
use Rattle.regalloc2_checker.proofs.Shown.{when-below}

-- each number is an old one, or that of the empty set
entries-or-none : (s : List NumberSet) (P : ℕ → ℕ → Type 0) (n count : ℕ) (f g : ℕ → ℕ) → count ≤ n → IsSetOf s 0 (λ y. false) →
    ((i : ℕ) → i < n → (g i ≡ 0) ⊎ (g i ≡ f i)) → AreEntries s P n count f → AreEntries s P n count g
entries-or-none s P n count f g within empty q e = record { below = low; homed = at }
  where
    true-false : (b : Bool) → b ≡ true → b ≡ false → ⊥
    true-false true x y = absurd cc
    true-false false x y = absurd cc

    low : (i : ℕ) → i < n → g i < length s
    low i l = elim (q i l) [
      | inl z ↦ subst (λ (x : ℕ). x < length s) (sym z) empty.below
      | inr d ↦ subst (λ (x : ℕ). x < length s) (sym d) (e.below i l)
    ]

    at : (i y : ℕ) → i < count → is_member s (g i) y ≡ true → P i y
    at i y l is = elim (q i (omega (arith, l, within))) [
      | inl z ↦ absurd (true-false (is_member s 0 y) (ap (λ x. is_member s x y) (sym z) ∙ is) (empty.members y))
      | inr d ↦ e.homed i y l (ap (λ x. is_member s x y) (sym d) ∙ is)
    ]

-- what stays true of tables does so if each number is an old one, or that of the empty set
sound-anew : (t : Holding) (f : NumberCopies) → IsSoundHolding t → length f.cells ≡ length t.entries.cells → IsSomeArray t.entries f →
    ((k i : ℕ) → i < length t.entries.cells → (saved_number f k i ≡ 0) ⊎ (saved_number f k i ≡ saved_number t.entries k i)) →
    IsSoundHolding (record t { entries = f })
sound-anew t f a el array each =
    let long = a.long in
    record {
      places_rise = a.places_rise;
      vregs_rise = a.vregs_rise;
      long = omega arith;
      few = a.few;
      empty = a.empty;
      homes_long = a.homes_long;
      now = as-long (IsHome t.vregs t.homes) (number_now f) (now-anew array);
      tables = λ k. as-long (IsSavedHome t.vregs t.homes) (saved_number f k)
          (entries-or-none t.sets (IsSavedHome t.vregs t.homes) (length t.entries.cells) (length t.places) (saved_number t.entries k) (saved_number f k)
          (entries-within t a) a.empty (each k) (a.tables k));
    }
  where
    as-long : (P : ℕ → ℕ → Type 0) (g : ℕ → ℕ) → AreEntries t.sets P (length t.entries.cells) (length t.places) g →
        AreEntries t.sets P (length f.cells) (length t.places) g
    as-long P g e = subst (λ (m : ℕ). AreEntries t.sets P m (length t.places) g) (sym el) e

    same : AreMore t.sets t.sets
    same = record { longer = omega arith; kept = λ n y l. refl }

    now-anew : IsSomeArray t.entries f → AreEntries t.sets (IsHome t.vregs t.homes) (length t.entries.cells) (length t.places) (number_now f)
    now-anew (inl h) =
        entries-as t.sets (IsHome t.vregs t.homes) (length t.entries.cells) (length t.places) (number_now t.entries) (number_now f) (entries-within t a) h
        a.now
    now-anew (inr (k, h)) =
        entries-as t.sets (IsHome t.vregs t.homes) (length t.entries.cells) (length t.places) (saved_number t.entries k) (number_now f)
        (entries-within t a) h
        (entries-more t.sets t.sets (IsSavedHome t.vregs t.homes) (IsHome t.vregs t.homes) (length t.entries.cells) (length t.places)
        (saved_number t.entries k) (entries-within t a) same
        (λ i y home j less e. saved-is-home (get_or t.homes j no_homes) i (home j less e)) (a.tables k))

-- tables stay sound where the saved copies stay
pub sound-kept : (t : Holding) (f : NumberCopies) → IsSoundHolding t → ((k i : ℕ) → saved_number f k i ≡ saved_number t.entries k i) →
    length f.cells ≡ length t.entries.cells → IsSomeArray t.entries f → IsSoundHolding (record t { entries = f })
sound-kept t f a s el array = sound-anew t f a el array (λ k i l. inr (s k i))

-- tables stay sound where marked copies are dropped
pub sound-without : (t : Holding) (f : NumberCopies) (marks : List Bool) → IsSoundHolding t → IsWithout marks t.entries f →
    IsSoundHolding (record t { entries = f })
sound-without t f marks a w = sound-anew t f a w.long w.array w.each

-- a table that has no mark holds what it held
pub held-without : (t : Holding) (f : NumberCopies) (marks : List Bool) → IsSoundHolding t → IsWithout marks t.entries f → (k i y : ℕ) →
    k < count_of t → get_or marks k false ≡ false → i < length t.places → holds_in (record t { entries = f }) k i y ≡ holds_in t k i y
held-without t f marks a w k i y less not in_it =
    ap (λ x. is_member t.sets x y) (w.kept k i less not (omega (arith, a.long, in_it)))

-- a table that has no mark shows what it showed
pub shown-without : (t u : Holding) (p : Option Passed) (s : List (Option Passed)) (marks : List Bool) → AreShown (showing t p s) → u.vregs ≡ t.vregs →
    ((k i y : ℕ) → k < count_of t → get_or marks k false ≡ false → i < length t.places → holds_in u k i y ≡ holds_in t k i y) →
    (k i y : ℕ) → get_or marks k false ≡ false → i < length t.places → shows_in (showing u p s) k i y ≡ shows_in (showing t p s) k i y
shown-without t u p s marks a e h k i y not less =
    ap (λ (vs : List ℕ). nat_lt k (length s) && holds_in u k i (read_as vs (get_or s k None) y)) e
    ∙ when-below k (length s) _ _ (λ l. h k i (read_as t.vregs (get_or s k None) y) (omega (arith, l, a.spare)) not less)

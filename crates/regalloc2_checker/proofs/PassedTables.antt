-- Tables in which many parameters took what their arguments had, all at once.
use Rattle.std.proofs.Common.{inl, inr, ℕ, zero, suc, ◌≡◌, ◌+◌, ◌<◌, ◌≤◌, arith, Bool, true, false, cond, nat_eq}
use Rattle.std.proofs.Common.{eqb-true, List, length, get_or, map, refl, sym, ap, ◌∙◌, subst}
use Rattle.std.specs.Prelude.{◌&&◌, ◌⊎◌, if◌then◌else◌, min, All, Option, None, Some}
use Rattle.std.proofs.lemmas.List.{get_or_default, get_or-map, length-map}
use Rattle.regalloc2_names.specs.Register.{VirtualRegister, is_vreg, no_vreg}
use Rattle.regalloc2_names.specs.RegisterBits.{bits_of_vreg}
use Rattle.regalloc2_names.specs.Place.{Place}
use Rattle.regalloc2_names.specs.Same.{is_vreg-true}
use Rattle.regalloc2_function.specs.Numbers.{NumberSet, has_number}
use Rattle.regalloc2_checker_sets.specs.EntrySets.{is_member, taken_from, AreMore}
use Rattle.regalloc2_checker_sets.specs.Homes.{HomePlaces, AreMoreHomes}
use Rattle.regalloc2_checker_sets.specs.PassedSets.{ArePassed}
use Rattle.regalloc2_checker_sets.specs.SavedNumbers.{NumberCopies, saved_number, number_now, AreWrittenTo}
use Rattle.regalloc2_checker.specs.Holding.{Holding, holds_now, IsHome, IsSavedHome, AreEntries, IsSoundHolding, AreKeptTables, HoldsNow}
use Rattle.regalloc2_checker.specs.Renamed.{facts_renamed}
use Rattle.regalloc2_checker.specs.Showing.{Showing, showing, read_as, shows_now, ShowsNow}
use Rattle.regalloc2_checker.specs.TableFacts.{is_packed, is_packed_vreg, place_in, facts_in, facts_now}
use Rattle.regalloc2_checker.specs.declared.passing.Passed.{Passed}
use Rattle.regalloc2_checker.proofs.Holders.{home-kept}
use Rattle.regalloc2_checker.proofs.RestOfList.{AreRenamedTo, renamed_none, renamed_more, renamed_all}
use Rattle.regalloc2_checker.proofs.Shown.{IsBare, now-shown, read-none}
use Rattle.regalloc2_checker.proofs.TableLaws.{IsChanged, entries-as, entries-within, more-all}
use Rattle.regalloc2_checker.proofs.TableSteps.{facts-at, unlisted-holds, vreg-bits, now-as}

-- bits that are no parameter's stay
taken-or-param : (params arguments : List ℕ) (count y : ℕ) →
    (taken_from params arguments count y ≡ y) ⊎ ((k : ℕ) × (k < count) × (get_or params k 0 ≡ y))
unfolding taken_from
taken-or-param params arguments zero y = inl refl
taken-or-param params arguments (suc k) y = by (nat_eq y (get_or params k 0)) refl (taken-or-param params arguments k y)
  where
    by : (b : Bool) → nat_eq y (get_or params k 0) ≡ b → (taken_from params arguments k y ≡ y) ⊎ ((j : ℕ) × (j < k) × (get_or params j 0 ≡ y)) →
        ((if b then get_or arguments k 0 else taken_from params arguments k y) ≡ y) ⊎ ((j : ℕ) × (j < suc k) × (get_or params j 0 ≡ y))
    by true e h = inr (k, omega arith, sym (eqb-true y (get_or params k 0) e))
    by false e (inl h) = inl h
    by false e (inr (j, less, at)) = inr (j, omega (arith, less), at)

module _ (t : Holding) (s : List NumberSet) (h : List HomePlaces) (f : NumberCopies) (params arguments numbers : List ℕ) (count : ℕ) (changed : NumberSet)
    (a : IsSoundHolding t) (m : AreMore t.sets s) (k : AreMoreHomes t.homes h)
    (p : ArePassed params arguments count t.sets t.entries s numbers (length t.entries.cells))
    (same : (i : ℕ) → i < length numbers → has_number changed i ≡ false → get_or numbers i 0 ≡ number_now t.entries i)
    (noted : (j i : ℕ) → j < length params → has_number changed i ≡ true → IsHome t.vregs h i (get_or params j 0)) (few : count ≤ length params)
    (w : AreWrittenTo numbers 0 (length numbers) t.entries f) where
  one : IsChanged t (record t { sets = s; homes = h }) (holds_now t)
  one = more-all t s h a m k

  number : (i : ℕ) → i < length t.entries.cells → number_now f i ≡ get_or numbers i 0
  number i l =
      let e = p.long in
      let z : 0 + i ≡ i = omega arith in
      ap (number_now f) (sym z) ∙ w.written i (omega (arith, l, e))

  within : (i : ℕ) → i < length f.cells → i < length t.entries.cells
  within i l = let e = w.long in omega (arith, l, e)

  stays-home : (i y : ℕ) → i < length t.places → holds_now t i y ≡ true → IsHome t.vregs h i y
  stays-home i y l is = home-kept t.vregs t.homes h i y k (a.now.homed i y l is)

  listed : (i : ℕ) → i < length t.places → i < length t.entries.cells
  listed i l = omega (arith, l, a.long)

  -- what a place gets may be there
  homed : (i y : ℕ) → i < length t.places → is_member s (get_or numbers i 0) y ≡ true → IsHome t.vregs h i y
  homed i y l is = by (has_number changed i) refl (taken-or-param params arguments count y)
    where
      had : holds_now t i (taken_from params arguments count y) ≡ true
      had = sym ((p.are i (listed i l)).members y) ∙ is

      by : (b : Bool) → has_number changed i ≡ b → (taken_from params arguments count y ≡ y) ⊎ ((j : ℕ) × (j < count) × (get_or params j 0 ≡ y)) →
          IsHome t.vregs h i y
      by b e (inl stays) = stays-home i y l (ap (holds_now t i) (sym stays) ∙ had)
      by true e (inr (j, less, at)) = subst (λ (z : ℕ). IsHome t.vregs h i z) at (noted j i (omega (arith, less, few)) e)
      by false e (inr at) =
          let now : get_or numbers i 0 ≡ number_now t.entries i = same i (omega (arith, listed i l, p.long)) e in
          stays-home i y l (sym (m.kept (number_now t.entries i) y (a.now.below i (listed i l))) ∙ ap (λ n. is_member s n y) (sym now) ∙ is)

  -- each place has what the arguments had
  pub passed-all : IsChanged t (record t { entries = f; sets = s; homes = h }) (λ i y. holds_now t i (taken_from params arguments count y))
  passed-all = record {
    tables = record {
      places_rise = a.places_rise;
      vregs_rise = a.vregs_rise;
      long = w.long ∙ a.long;
      few = a.few;
      empty = one.tables.empty;
      homes_long = one.tables.homes_long;
      now = record {
        below = λ i l. subst (λ (x : ℕ). x < length s) (sym (number i (within i l))) (p.are i (within i l)).below;
        homed = λ i y l is. homed i y l (ap (λ n. is_member s n y) (sym (number i (listed i l))) ∙ is);
      };
      tables = λ n. subst (λ (c : ℕ). AreEntries s (IsSavedHome t.vregs h) c (length t.places) (saved_number f n)) (sym w.long)
          (entries-as s (IsSavedHome t.vregs h) (length t.entries.cells) (length t.places) (saved_number t.entries n) (saved_number f n)
          (entries-within t a) (λ i l. w.saved n i) (one.tables.tables n));
    };
    kept = record {
      places = refl;
      vregs = refl;
      count = w.count;
      tables = λ n i y l. ap (λ x. is_member s x y) (w.saved n i) ∙ one.kept.tables n i y l;
    };
    now = λ i y l.
        let long = a.long in
        let inside : i < length t.entries.cells = omega (arith, l, long) in
        ap (λ x. is_member s x y) (number i inside) ∙ (p.are i inside).members y;
  }

-- what is shown, too, where nothing is passed
pub all-shown : (v w : Showing) (t u : Holding) (p : Option Passed) (s : List (Option Passed)) (read : ℕ → ℕ) → showing t p s ≡ w → w.passed ≡ None →
    IsBare v t → AreKeptTables t u → HoldsNow u (λ i y. holds_now t i (read y)) → ShowsNow (showing u p s) (λ i y. shows_now v i (read y))
all-shown v w t u p s read e none b k h i y l =
    now-shown t u p s (λ j z. holds_now t j (read z)) k.vregs h i y l
    ∙ ap (λ (o : Option Passed). holds_now t i (read (read_as t.vregs o y))) (ap (λ (x : Showing). x.passed) e ∙ none)
    ∙ ap (λ n. holds_now t i (read n)) (read-none t.vregs y)
    ∙ b.now i (read y) (subst (λ (ps : List ℕ). i < length ps) (k.places ∙ b.places) l)

-- where a parameter's bits are read as its argument's, it has the facts of its argument
taken-facts : (places : List ℕ) (shows : ℕ → ℕ → Bool) (read : ℕ → ℕ) (p a : VirtualRegister) (m n : ℕ) → m ≡ bits_of_vreg p → n ≡ bits_of_vreg a →
    is_packed_vreg p ≡ true → is_packed_vreg a ≡ true → (q : Place) (v : VirtualRegister) →
    facts_in places (λ i y. shows i (if nat_eq y m then n else read y)) q v
    ≡ cond (is_vreg p v) (facts_in places shows q a) (facts_in places (λ i y. shows i (read y)) q v)
taken-facts places shows read p a m n em en pp pa q v = by_position (place_in places q) refl (is_vreg p v) refl
  where
    now : ℕ → ℕ → Bool
    now i y = shows i (if nat_eq y m then n else read y)

    had : ℕ → ℕ → Bool
    had i y = shows i (read y)

    is : nat_eq (bits_of_vreg v) m ≡ is_vreg p v
    is = ap (nat_eq (bits_of_vreg v)) em ∙ vreg-bits p v

    by_position : (o : Option ℕ) → place_in places q ≡ o → (b : Bool) → is_vreg p v ≡ b →
        facts_in places now q v ≡ cond (is_vreg p v) (facts_in places shows q a) (facts_in places had q v)
    by_position None e true d =
        unlisted-holds places now q v e ∙ sym (unlisted-holds places shows q a e)
        ∙ ap (λ x. cond x (facts_in places shows q a) (facts_in places had q v)) (sym d)
    by_position None e false d =
        unlisted-holds places now q v e ∙ sym (unlisted-holds places had q v e)
        ∙ ap (λ x. cond x (facts_in places shows q a) (facts_in places had q v)) (sym d)
    by_position (Some i) e true d =
        let packed : is_packed_vreg v ≡ true = subst (λ (w : VirtualRegister). is_packed_vreg w ≡ true) (is_vreg-true p v d) pp in
        facts-at places now q v (Some i) e
        ∙ ap (λ x. is_packed q && (x && now i (bits_of_vreg v))) (packed ∙ sym pa)
        ∙ ap (λ x. is_packed q && (is_packed_vreg a && shows i (if x then n else read (bits_of_vreg v)))) (is ∙ d)
        ∙ ap (λ x. is_packed q && (is_packed_vreg a && shows i x)) en
        ∙ sym (facts-at places shows q a (Some i) e)
        ∙ ap (λ x. cond x (facts_in places shows q a) (facts_in places had q v)) (sym d)
    by_position (Some i) e false d =
        facts-at places now q v (Some i) e
        ∙ ap (λ x. is_packed q && (is_packed_vreg v && shows i (if x then n else read (bits_of_vreg v)))) (is ∙ d)
        ∙ sym (facts-at places had q v (Some i) e)
        ∙ ap (λ x. cond x (facts_in places shows q a) (facts_in places had q v)) (sym d)

module _ (t u : Showing) (params arguments : List VirtualRegister) (pp : All (λ v. is_packed_vreg v ≡ true) params)
    (pa : All (λ v. is_packed_vreg v ≡ true) arguments) where
  -- the bits that were shown, where bits are once the first `k` parameters took what their arguments had
  abbrev pub read : ℕ → ℕ → ℕ
  read k y = taken_from (map bits_of_vreg params) (map bits_of_vreg arguments) k y

  -- what is shown once the first `k` parameters took what their arguments had
  abbrev pub after : ℕ → ℕ → ℕ → Bool
  after k i y = shows_now t i (read k y)

  renamed-first : (k : ℕ) → k ≤ length params → k ≤ length arguments → AreRenamedTo params arguments k (facts_now t) (facts_in t.places (after k))
  unfolding taken_from
  renamed-first zero lp la =
      renamed_none params arguments (facts_now t) (facts_in t.places (after 0)) (λ q v. inl refl)
  renamed-first (suc k) lp la =
      let p : VirtualRegister = get_or params k no_vreg in
      let a : VirtualRegister = get_or arguments k no_vreg in
      let less : k < length params = omega (arith, lp) in
      let below : k < length arguments = omega (arith, la) in
      let next : k + 1 ≡ suc k = omega arith in
      subst (λ (n : ℕ). AreRenamedTo params arguments n (facts_now t) (facts_in t.places (after (suc k)))) next
      (renamed_more params arguments k p a (facts_now t) (facts_in t.places (after k)) (facts_in t.places (after (suc k))) less below
      (get_or_default params k no_vreg p less) (get_or_default arguments k no_vreg a below)
      (taken-facts t.places (shows_now t) (read k) p a (get_or (map bits_of_vreg params) k 0) (get_or (map bits_of_vreg arguments) k 0)
      (get_or-map bits_of_vreg params k no_vreg 0 less) (get_or-map bits_of_vreg arguments k no_vreg 0 below) (pp k no_vreg less) (pa k no_vreg below))
      (renamed-first k (omega (arith, lp)) (omega (arith, la))))

  -- parameters that took what their arguments had are renamed
  pub all-renamed : (n : ℕ) → n ≡ min (length (map bits_of_vreg params)) (length (map bits_of_vreg arguments)) → u.places ≡ t.places →
      ShowsNow u (λ i y. shows_now t i (read n y)) → facts_now u ≡ facts_renamed params arguments (facts_now t)
  all-renamed n e same h =
      let lp = length-map params bits_of_vreg in
      let la = length-map arguments bits_of_vreg in
      now-as t u (after n) same h
      ∙ renamed_all params arguments n (facts_now t) (facts_in t.places (after n)) (omega (arith, e, lp, la))
      (renamed-first n (omega (arith, e, lp, la)) (omega (arith, e, lp, la)))

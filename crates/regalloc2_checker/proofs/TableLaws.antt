-- What a change of the parts of tables does to what they hold.
use Rattle.std.proofs.Common.{inl, inr, ℕ, zero, suc, ◌≡◌, ◌+◌, ◌*◌, ◌/◌, ◌<◌, ◌≤◌, arith, Bool, true, false}
use Rattle.std.proofs.Common.{nat_eq, nat_lt, eq-eqb, List, [], ◌∷◌, ◌++◌, length, get_or, take, refl, sym, ap, ◌∙◌, subst}
use Rattle.std.specs.Prelude.{◌&&◌, ◌||◌, if◌then◌else◌, slice_set, Result, Ok, Err, OnOk, OnErr}
use Rattle.std.specs.declared.alloc.AllocError.{AllocError}
use Rattle.std.specs.List.Sorted.{IsStrictlyIncreasing}
use Rattle.std.proofs.lemmas.Bool.{cases_eq, cases_lt, eqb-true, le-ltb, ne_eqb, or_left}
use Rattle.std.proofs.lemmas.List.{get_or-set_other, get_or-set_same, length-set, take_more}
use Rattle.regalloc2_function.specs.Numbers.{NumberSet, times_listed}
use Rattle.regalloc2_checker_sets.specs.SavedNumbers.{NumberCopies, copy_count, saved_number, number_now}
use Rattle.regalloc2_checker_sets.specs.EntrySets.{is_member, AreMore, IsSetOf, ListsBits}
use Rattle.regalloc2_checker_sets.specs.Homes.{HomePlaces, no_homes, has_home, has_saved}
use Rattle.regalloc2_checker.specs.Holding.{Holding, holds_now, holds_in, IsHome, IsSavedHome, AreEntries}
use Rattle.regalloc2_checker_sets.specs.Held.{held}
use Rattle.regalloc2_checker.specs.Holding.{IsSoundHolding, AreKeptTables, HoldsNow, is_in}
use Rattle.regalloc2_checker_sets.specs.Held.{AreStill}
use Rattle.regalloc2_checker_sets.specs.Homes.{AreMoreHomes}
use Rattle.regalloc2_checker.proofs.Holders.{homes-same, home-kept, saved-home-kept, is_in-more}
use Rattle.regalloc2_checker_sets.proofs.HomeLaws.{saved-is-home}

-- sets are added, and the places where their members may be
pub entries-more : (s t : List NumberSet) (P Q : ℕ → ℕ → Type 0) (n count : ℕ) (f : ℕ → ℕ) → count ≤ n → AreMore s t → ((i y : ℕ) → P i y → Q i y) →
    AreEntries s P n count f → AreEntries t Q n count f
entries-more s t P Q n count f within m k e = record {
  below = λ i l. omega (arith, e.below i l, m.longer);
  homed = λ i y l is. k i y (e.homed i y l (sym (m.kept (f i) y (e.below i (omega (arith, l, within)))) ∙ is));
}

-- equal numbers
pub entries-as : (s : List NumberSet) (P : ℕ → ℕ → Type 0) (n count : ℕ) (f g : ℕ → ℕ) → count ≤ n → ((i : ℕ) → i < n → g i ≡ f i) →
    AreEntries s P n count f → AreEntries s P n count g
entries-as s P n count f g within q e = record {
  below = λ i l. subst (λ (x : ℕ). x < length s) (sym (q i l)) (e.below i l);
  homed = λ i y l is. e.homed i y l (ap (λ x. is_member s x y) (sym (q i (omega (arith, l, within)))) ∙ is);
}

-- one number is written
pub entries-set : (s : List NumberSet) (P : ℕ → ℕ → Type 0) (n count : ℕ) (f g : ℕ → ℕ) (place set : ℕ) → set < length s →
    ((i : ℕ) → (i ≡ place → ⊥) → g i ≡ f i) → g place ≡ set → ((y : ℕ) → is_member s set y ≡ true → P place y) → AreEntries s P n count f →
    AreEntries s P n count g
entries-set s P n count f g place set small q here home e = record { below = low; homed = at }
  where
    low : (i : ℕ) → i < n → g i < length s
    low i l = elim (cases_eq i place) [
      | inl d ↦ subst (λ (x : ℕ). x < length s) (sym (ap g d ∙ here)) small
      | inr d ↦ subst (λ (x : ℕ). x < length s) (sym (q i d)) (e.below i l)
    ]

    at : (i y : ℕ) → i < count → is_member s (g i) y ≡ true → P i y
    at i y l is = elim (cases_eq i place) [
      | inl d ↦ subst (λ (x : ℕ). P x y) (sym d) (home y (ap (λ x. is_member s x y) (sym (ap g d ∙ here)) ∙ is))
      | inr d ↦ e.homed i y l (ap (λ x. is_member s x y) (sym (q i d)) ∙ is)
    ]

-- tables have an entry for each place
pub entries-within : (t : Holding) → IsSoundHolding t → length t.places ≤ length t.entries.cells
entries-within t a = omega (arith, a.long)

-- what a change of tables keeps
pub record IsChanged (t u : Holding) (has : ℕ → ℕ → Bool) : Type 0 where
  pub tables : IsSoundHolding u
  pub kept : AreKeptTables t u
  pub now : HoldsNow u has

-- sets and homes are added
pub more-all : (t : Holding) (s : List NumberSet) (h : List HomePlaces) → IsSoundHolding t → AreMore t.sets s → AreMoreHomes t.homes h →
    IsChanged t (record t { sets = s; homes = h }) (holds_now t)
more-all t s h a m k =
    let long = a.long in
    let zero-set = a.empty in
    let longer = m.longer in
    let first = zero-set.below in
    record {
      tables = record {
        places_rise = a.places_rise;
        vregs_rise = a.vregs_rise;
        long = a.long;
        few = a.few;
        empty = record { below = omega arith; members = λ y. m.kept 0 y first ∙ zero-set.members y };
        homes_long = k.long ∙ a.homes_long;
        now = entries-more t.sets s (IsHome t.vregs t.homes) (IsHome t.vregs h) _ _ (number_now t.entries) (entries-within t a) m
            (λ i y. home-kept t.vregs t.homes h i y k) a.now;
        tables = λ n. entries-more t.sets s (IsSavedHome t.vregs t.homes) (IsSavedHome t.vregs h) _ _ (saved_number t.entries n) (entries-within t a) m
            (λ i y. saved-home-kept t.vregs t.homes h i y k) (a.tables n);
      };
      kept = record {
        places = refl;
        vregs = refl;
        count = refl;
        tables = λ n i y l. m.kept (saved_number t.entries n i) y ((a.tables n).below i (omega arith));
      };
      now = λ i y l. m.kept (number_now t.entries i) y (a.now.below i (omega arith));
    }

-- a place gets a set
put-one : (t : Holding) (h : List HomePlaces) (place set : ℕ) → IsSoundHolding t → place < length t.places → set < length t.sets →
    AreMoreHomes t.homes h → ((y : ℕ) → is_member t.sets set y ≡ true → IsHome t.vregs h place y) →
    IsChanged t (record t { entries = record t.entries { cells = slice_set t.entries.cells place set }; homes = h })
    (λ i y. if nat_eq i place then is_member t.sets set y else holds_now t i y)
put-one t h place set a less small k home =
    let long = a.long in
    let same = length-set t.entries.cells place set in
    let more : AreMore t.sets t.sets = record { longer = omega arith; kept = λ n y l. refl } in
    let here : get_or (slice_set t.entries.cells place set) place 0 ≡ set = get_or-set_same t.entries.cells place set 0 (omega arith) in
    let other : (i : ℕ) → (i ≡ place → ⊥) → get_or (slice_set t.entries.cells place set) i 0 ≡ get_or t.entries.cells i 0 =
    λ i n. get_or-set_other t.entries.cells place i set 0 n in
    let size : length t.entries.cells ≡ length (slice_set t.entries.cells place set) = sym same in
    record {
      tables = record {
        places_rise = a.places_rise;
        vregs_rise = a.vregs_rise;
        long = omega arith;
        few = a.few;
        empty = a.empty;
        homes_long = k.long ∙ a.homes_long;
        now = subst (λ (n : ℕ). AreEntries t.sets (IsHome t.vregs h) n (length t.places) (λ i. get_or (slice_set t.entries.cells place set) i 0)) size
            (entries-set t.sets (IsHome t.vregs h) (length t.entries.cells) (length t.places) (number_now t.entries)
            (λ i. get_or (slice_set t.entries.cells place set) i 0) place set small other here home
            (entries-more t.sets t.sets (IsHome t.vregs t.homes) (IsHome t.vregs h) _ _ (number_now t.entries) (entries-within t a) more
            (λ i y. home-kept t.vregs t.homes h i y k) a.now));
        tables = λ n. subst (λ (m : ℕ). AreEntries t.sets (IsSavedHome t.vregs h) m (length t.places) (saved_number t.entries n)) size
            (entries-more t.sets t.sets (IsSavedHome t.vregs t.homes) (IsSavedHome t.vregs h) _ _ (saved_number t.entries n) (entries-within t a) more
            (λ i y. saved-home-kept t.vregs t.homes h i y k) (a.tables n));
      };
      kept = record { places = refl; vregs = refl; count = refl; tables = λ n i y l. refl };
      now = λ i y l. elim (cases_eq i place) [
        | inl d ↦
            ap (λ n. is_member t.sets (get_or (slice_set t.entries.cells place set) n 0) y) d ∙ ap (λ n. is_member t.sets n y) here
            ∙ sym (ap (λ b. if b then is_member t.sets set y else holds_now t i y) (eq-eqb i place d))
        | inr d ↦
            ap (λ n. is_member t.sets n y) (other i d) ∙ sym (ap (λ b. if b then is_member t.sets set y else holds_now t i y) (ne_eqb i place d))
      ];
    }

-- a place that is given a set holds the set's members, and the others hold what they held
pub put-all : (t : Holding) (h : List HomePlaces) (place set : ℕ) (f : NumberCopies) → IsSoundHolding t → place < length t.places → set < length t.sets →
    AreMoreHomes t.homes h → ((y : ℕ) → is_member t.sets set y ≡ true → IsHome t.vregs h place y) →
    f ≡ record t.entries { cells = slice_set t.entries.cells place set } →
    IsChanged t (record t { entries = f; homes = h }) (λ i y. if nat_eq i place then is_member t.sets set y else holds_now t i y)
put-all t h place set f a less small k home e =
    subst (λ (x : NumberCopies). IsChanged t (record t { entries = x; homes = h }) (λ i y. if nat_eq i place then is_member t.sets set y else holds_now t i y))
    (sym e)
    (put-one t h place set a less small k home)

-- the empty set is put
pub clear-all : (t : Holding) (place : ℕ) (f : NumberCopies) → IsSoundHolding t → place < length t.places →
    f ≡ record t.entries { cells = slice_set t.entries.cells place 0 } →
    IsChanged t (record t { entries = f }) (λ i y. if nat_eq i place then false else holds_now t i y)
clear-all t place f a less e =
    let c = put-all t t.homes place 0 f a less a.empty.below (homes-same t.homes) (λ y is. absurd (no y is)) e in
    record { tables = c.tables; kept = c.kept; now = λ i y l. c.now i y l ∙ ap (λ b. if nat_eq i place then b else holds_now t i y) (a.empty.members y) }
  where
    true-false : (b : Bool) → b ≡ true → b ≡ false → ⊥
    true-false true h g = absurd cc
    true-false false h g = absurd cc

    no : (y : ℕ) → is_member t.sets 0 y ≡ true → ⊥
    no y is = true-false (is_member t.sets 0 y) is (a.empty.members y)

-- a vreg is dropped, in part or in all places
pub drop-all : (t : Holding) (s : List NumberSet) (f : NumberCopies) → IsSoundHolding t → AreStill t.sets t.entries s f →
    ((i y : ℕ) → i < length t.entries.cells → held s f i y ≡ true → holds_now t i y ≡ true) → IsSoundHolding (record t { entries = f; sets = s })
drop-all t s f a k less =
    let zero-set = a.empty in
    let first = zero-set.below in
    let longer = k.more.longer in
    let long = a.long in
    let same = k.long in
    record {
      places_rise = a.places_rise;
      vregs_rise = a.vregs_rise;
      long = omega arith;
      few = a.few;
      empty = record { below = omega arith; members = λ y. k.more.kept 0 y first ∙ zero-set.members y };
      homes_long = a.homes_long;
      now = record {
        below = k.below;
        homed = λ i y l is. a.now.homed i y l (less i y (omega (arith, l, long)) is);
      };
      tables = λ n. subst (λ (m : ℕ). AreEntries s (IsSavedHome t.vregs t.homes) m (length t.places) (saved_number f n)) (sym same)
          (entries-as s (IsSavedHome t.vregs t.homes) (length t.entries.cells) (length t.places) (saved_number t.entries n) (saved_number f n)
          (entries-within t a) (λ i l. k.saved n i)
          (entries-more t.sets s (IsSavedHome t.vregs t.homes) (IsSavedHome t.vregs t.homes) _ _ (saved_number t.entries n) (entries-within t a) k.more
          (λ i y h. h) (a.tables n)));
    }

-- where only the current array changed, the tables are kept
pub drop-kept : (t : Holding) (s : List NumberSet) (f : NumberCopies) → IsSoundHolding t → AreStill t.sets t.entries s f →
    AreKeptTables t (record t { entries = f; sets = s })
drop-kept t s f a k =
    let long = a.long in
    record {
      places = refl;
      vregs = refl;
      count = k.count;
      tables = λ n i y l. ap (λ x. is_member s x y) (k.saved n i) ∙ k.more.kept (saved_number t.entries n i) y ((a.tables n).below i (omega arith));
    }

-- dropped where it may be is dropped everywhere
pub drop-now : (t : Holding) (s : List NumberSet) (f : NumberCopies) (j : ℕ) → IsSoundHolding t → j < length t.vregs →
    ((i y : ℕ) → i < length t.entries.cells → held s f i y ≡
    (if has_home (get_or t.homes j no_homes) i && nat_eq y (get_or t.vregs j 0) then false else holds_now t i y)) →
    HoldsNow (record t { entries = f; sets = s }) (λ i y. if nat_eq y (get_or t.vregs j 0) then false else holds_now t i y)
drop-now t s f j a less h i y l =
    let long = a.long in
    h i y (omega arith) ∙ by (has_home (get_or t.homes j no_homes) i) (nat_eq y (get_or t.vregs j 0)) (holds_now t i y)
    (λ e is. a.now.homed i y l is j less (sym (eqb-true y (get_or t.vregs j 0) e)))
  where
    by : (m b o : Bool) → (b ≡ true → o ≡ true → m ≡ true) → (if m && b then false else o) ≡ (if b then false else o)
    by true true o g = refl
    by true false o g = refl
    by false true true g = absurd (no (g refl refl))
      where
        no : false ≡ true → ⊥
        no e = absurd cc
    by false true false g = refl
    by false false o g = refl

-- tables that are kept over two steps are kept over both
pub kept_then : (a b c : Holding) → AreKeptTables a b → AreKeptTables b c → AreKeptTables a c
kept_then a b c h g = record {
  places = g.places ∙ h.places;
  vregs = g.vregs ∙ h.vregs;
  count = g.count ∙ h.count;
  tables = λ k i y l. g.tables k i y (subst (λ (ps : List ℕ). i < length ps) (sym h.places) l) ∙ h.tables k i y l;
}

-- homes that were saved stay
pub record AreSavedHomesKept (old new : List HomePlaces) : Type 0 where
  pub long : length new ≡ length old
  pub saved : (j i : ℕ) → has_saved (get_or old j no_homes) i ≡ true → has_saved (get_or new j no_homes) i ≡ true

-- a table is loaded
pub load-all : (t : Holding) (h : List HomePlaces) (f : NumberCopies) (k : ℕ) → IsSoundHolding t → AreSavedHomesKept t.homes h →
    copy_count f ≡ copy_count t.entries → ((n i : ℕ) → saved_number f n i ≡ saved_number t.entries n i) → length f.cells ≡ length t.entries.cells →
    ((i : ℕ) → i < length f.cells → number_now f i ≡ saved_number t.entries k i) → IsChanged t (record t { entries = f; homes = h }) (holds_in t k)
load-all t h f k a s ec same el now =
    let long = a.long in
    let more : AreMore t.sets t.sets = record { longer = omega arith; kept = λ n y l. refl } in
    let in_table : (P : ℕ → ℕ → Type 0) → ((i y : ℕ) → IsSavedHome t.vregs h i y → P i y) → (n : ℕ) (g : ℕ → ℕ) →
    ((i : ℕ) → i < length t.entries.cells → g i ≡ saved_number t.entries n i) → AreEntries t.sets P (length f.cells) (length t.places) g =
    λ P at n g q. subst (λ (m : ℕ). AreEntries t.sets P m (length t.places) g) (sym el)
    (entries-as t.sets P (length t.entries.cells) (length t.places) (saved_number t.entries n) g (entries-within t a) q
    (entries-more t.sets t.sets (IsSavedHome t.vregs t.homes) P _ _ (saved_number t.entries n) (entries-within t a) more
    (λ i y home. at i y (λ j less e. s.saved j i (home j less e))) (a.tables n))) in
    record {
      tables = record {
        places_rise = a.places_rise;
        vregs_rise = a.vregs_rise;
        long = omega arith;
        few = a.few;
        empty = a.empty;
        homes_long = s.long ∙ a.homes_long;
        now = in_table (IsHome t.vregs h) (λ i y home j less e. saved-is-home (get_or h j no_homes) i (home j less e)) k (number_now f)
            (λ i l. now i (omega (arith, l, el)));
        tables = λ n. in_table (IsSavedHome t.vregs h) (λ i y home. home) n (saved_number f n) (λ i l. same n i);
      };
      kept = record {
        places = refl;
        vregs = refl;
        count = ec;
        tables = λ n i y l. ap (λ x. is_member t.sets x y) (same n i);
      };
      now = λ i y l. ap (λ x. is_member t.sets x y) (now i (omega (arith, l, long, el)));
    }

-- each saved copy is as an array that a saved table may have
pub save-tables : (t : Holding) (f : NumberCopies) → IsSoundHolding t → f.cells ≡ t.entries.cells →
    ((k : ℕ) → (h : ℕ → ℕ) × AreEntries t.sets (IsSavedHome t.vregs t.homes) (length t.entries.cells) (length t.places) h
    × ((i : ℕ) → i < length t.entries.cells → saved_number f k i ≡ h i)) →
    IsSoundHolding (record t { entries = f })
save-tables t f a ec h =
    let long = a.long in
    let el : length f.cells ≡ length t.entries.cells = ap (λ (c : List ℕ). length c) ec in
    record {
      places_rise = a.places_rise;
      vregs_rise = a.vregs_rise;
      long = omega arith;
      few = a.few;
      empty = a.empty;
      homes_long = a.homes_long;
      now = subst (λ (c : List ℕ). AreEntries t.sets (IsHome t.vregs t.homes) (length c) (length t.places) (λ i. get_or c i 0)) (sym ec) a.now;
      tables = λ k. subst (λ (m : ℕ). AreEntries t.sets (IsSavedHome t.vregs t.homes) m (length t.places) (saved_number f k)) (sym el)
          (entries-as t.sets (IsSavedHome t.vregs t.homes) (length t.entries.cells) (length t.places) (h k).0 (saved_number f k) (entries-within t a)
          (h k).2 (h k).1);
    }

-- homes are saved
pub homes-saved-all : (t : Holding) (h : List HomePlaces) → IsSoundHolding t → length h ≡ length t.homes →
    ((j i : ℕ) → has_home (get_or t.homes j no_homes) i ≡ true → has_saved (get_or h j no_homes) i ≡ true) → IsSoundHolding (record t { homes = h })
homes-saved-all t h a long s = (more-all t t.sets h a (record { longer = omega arith; kept = λ n y l. refl }) (record {
  long = long;
  kept = λ j i is. saved-is-home (get_or h j no_homes) i (s j i is);
  saved = λ j i is. s j i (saved-is-home (get_or t.homes j no_homes) i is);
})).tables

-- where homes are saved, a saved table may have the current array
pub now-saved : (t : Holding) (h : List HomePlaces) → IsSoundHolding t →
    ((j i : ℕ) → has_home (get_or t.homes j no_homes) i ≡ true → has_saved (get_or h j no_homes) i ≡ true) →
    AreEntries t.sets (IsSavedHome t.vregs h) (length t.entries.cells) (length t.places) (number_now t.entries)
now-saved t h a s =
    entries-more t.sets t.sets (IsHome t.vregs t.homes) (IsSavedHome t.vregs h) _ _ (number_now t.entries) (entries-within t a)
    (record { longer = omega arith; kept = λ n y l. refl }) (λ i y home j less e. s j i (home j less e)) a.now

-- the number that the array has for a place is that of a set
pub get-below : (t : Holding) (from n : ℕ) → IsSoundHolding t → from < length t.places → n ≡ number_now t.entries from → n < length t.sets
get-below t from n a less e = let long = a.long in subst (λ (x : ℕ). x < length t.sets) (sym e) (a.now.below from (omega arith))

-- a listed member was visited
pub listed-times : (has : ℕ → Bool) (ys zs : List ℕ) → zs ≡ ys → ListsBits has ys → (y : ℕ) → has y ≡ true → 0 < times_listed zs y
listed-times has ys zs e h y is =
    let a : times_listed zs y ≡ (if has y then 1 else 0) = ap (λ (l : List ℕ). times_listed l y) e ∙ h y in
    let b : ◌≡◌ {A = ℕ} (if has y then 1 else 0) 1 = ap (λ c. if c then 1 else 0) is in
    omega arith

-- the members of a set that a place gets may be there
pub put-home : (t : Holding) (h : List HomePlaces) (place vreg set : ℕ) → IsSoundHolding t → place < length t.places → AreMoreHomes t.homes h →
    IsHome t.vregs h place (get_or t.vregs vreg 0) →
    ((y : ℕ) → is_member t.sets set y ≡ true → (nat_eq y (get_or t.vregs vreg 0) || holds_now t place y) ≡ true) → (y : ℕ) →
    is_member t.sets set y ≡ true → IsHome t.vregs h place y
put-home t h place vreg set a less m here members y is = elim (cases_eq y (get_or t.vregs vreg 0)) [
  | inl e ↦ subst (λ (z : ℕ). IsHome t.vregs h place z) (sym e) here
  | inr n ↦
      let long = a.long in
      let there : holds_now t place y ≡ true = ap (λ b. b || holds_now t place y) (sym (ne_eqb y (get_or t.vregs vreg 0) n)) ∙ members y is in
      home-kept t.vregs t.homes h place y m (a.now.homed place y less there)
]

-- a set has the members of an equal test
pub set-as : (s : List NumberSet) (n : ℕ) (f g : ℕ → Bool) → ((y : ℕ) → f y ≡ g y) → IsSetOf s n f → IsSetOf s n g
set-as s n f g e h = record { below = h.below; members = λ y. h.members y ∙ e y }

-- tables that stay are kept
pub kept_same : (t : Holding) → AreKeptTables t t
kept_same t = record { places = refl; vregs = refl; count = refl; tables = λ k i y l. refl }

-- what holds it is at its homes
pub holders-are : (t : Holding) (vreg : ℕ) (holders : List ℕ) → IsSoundHolding t → vreg < length t.vregs →
    ((i : ℕ) → is_in holders i ≡ (nat_lt i (length t.places)
    && (has_home (get_or t.homes vreg no_homes) i && holds_now t i (get_or t.vregs vreg 0)))) → (i : ℕ) →
    is_in holders i ≡ (nat_lt i (length t.places) && holds_now t i (get_or t.vregs vreg 0))
holders-are t vreg holders a less h i = elim (cases_lt i (length t.places)) [
  | inl l ↦
      let long = a.long in
      h i ∙ ap (λ b. nat_lt i (length t.places) && b) (by (has_home (get_or t.homes vreg no_homes) i) (holds_now t i (get_or t.vregs vreg 0))
      (λ is. a.now.homed i (get_or t.vregs vreg 0) l is vreg less refl))
  | inr g ↦
      h i ∙ ap (λ b. b && (has_home (get_or t.homes vreg no_homes) i && holds_now t i (get_or t.vregs vreg 0))) (le-ltb i (length t.places) g)
      ∙ sym (ap (λ b. b && holds_now t i (get_or t.vregs vreg 0)) (le-ltb i (length t.places) g))
]
  where
    by : (m o : Bool) → (o ≡ true → m ≡ true) → (m && o) ≡ o
    by true o g = refl
    by false true g = absurd (no (g refl))
      where
        no : false ≡ true → ⊥
        no e = absurd cc
    by false false g = refl

-- a definition: forgotten, a set of its own, and put
pub define-now : (a b c d : Holding) (place vreg set : ℕ) → AreKeptTables a b → AreKeptTables b c → AreKeptTables c d →
    HoldsNow b (λ i y. if nat_eq y (get_or a.vregs vreg 0) then false else holds_now a i y) → HoldsNow c (holds_now b) →
    IsSetOf c.sets set (λ y. nat_eq y (get_or b.vregs vreg 0)) →
    HoldsNow d (λ i y. if nat_eq i place then is_member c.sets set y else holds_now c i y) →
    HoldsNow d (λ i y. if nat_eq i place then nat_eq y (get_or a.vregs vreg 0) else (if nat_eq y (get_or a.vregs vreg 0) then false else holds_now a i y))
define-now a b c d place vreg set kb kc kd hb hc s hd i y l =
    let lc : i < length c.places = subst (λ (ps : List ℕ). i < length ps) kd.places l in
    let lb : i < length b.places = subst (λ (ps : List ℕ). i < length ps) kc.places lc in
    hd i y l ∙ ap (λ x. if nat_eq i place then x else holds_now c i y)
    (s.members y ∙ ap (λ (vs : List ℕ). nat_eq y (get_or vs vreg 0)) kb.vregs)
    ∙ ap (λ x. if nat_eq i place then nat_eq y (get_or a.vregs vreg 0) else x) (hc i y lc ∙ hb i y lb)

-- each member of the set of one vreg is that vreg, or is held there already
pub define-members : (b c : Holding) (place vreg set : ℕ) → AreKeptTables b c → IsSetOf c.sets set (λ y. nat_eq y (get_or b.vregs vreg 0)) → (y : ℕ) →
    is_member c.sets set y ≡ true → (nat_eq y (get_or c.vregs vreg 0) || holds_now c place y) ≡ true
define-members b c place vreg set k s y is =
    or_left (nat_eq y (get_or c.vregs vreg 0)) (holds_now c place y)
    (ap (λ (vs : List ℕ). nat_eq y (get_or vs vreg 0)) k.vregs ∙ sym (s.members y) ∙ is)

-- one vreg more in a place
pub add-now : (a b d : Holding) (place vreg set : ℕ) → AreKeptTables a b → AreKeptTables b d → HoldsNow b (holds_now a) →
    IsSetOf b.sets set (λ y. if nat_eq y (get_or a.vregs vreg 0) then true else holds_now a place y) →
    HoldsNow d (λ i y. if nat_eq i place then is_member b.sets set y else holds_now b i y) →
    HoldsNow d (λ i y. if nat_eq i place && nat_eq y (get_or a.vregs vreg 0) then true else holds_now a i y)
add-now a b d place vreg set kb kd hb s hd i y l =
    let lb : i < length b.places = subst (λ (ps : List ℕ). i < length ps) kd.places l in
    hd i y l ∙ ap (λ x. if nat_eq i place then x else holds_now b i y) (s.members y)
    ∙ ap (λ x. if nat_eq i place then (if nat_eq y (get_or a.vregs vreg 0) then true else holds_now a place y) else x) (hb i y lb)
    ∙ elim (cases_eq i place) [
      | inl e ↦
          ap (λ t. if t then (if nat_eq y (get_or a.vregs vreg 0) then true else holds_now a place y) else holds_now a i y) (eq-eqb i place e)
          ∙ ap (λ n. if nat_eq y (get_or a.vregs vreg 0) then true else holds_now a n y) (sym e)
          ∙ sym (ap (λ t. if t && nat_eq y (get_or a.vregs vreg 0) then true else holds_now a i y) (eq-eqb i place e))
      | inr n ↦
          ap (λ t. if t then (if nat_eq y (get_or a.vregs vreg 0) then true else holds_now a place y) else holds_now a i y) (ne_eqb i place n)
          ∙ sym (ap (λ t. if t && nat_eq y (get_or a.vregs vreg 0) then true else holds_now a i y) (ne_eqb i place n))
    ]

-- each member of a place's set with one vreg more is that vreg, or is held there already
pub add-members : (a b : Holding) (place vreg set : ℕ) → place < length b.places → AreKeptTables a b → HoldsNow b (holds_now a) →
    IsSetOf b.sets set (λ y. if nat_eq y (get_or a.vregs vreg 0) then true else holds_now a place y) → (y : ℕ) →
    is_member b.sets set y ≡ true → (nat_eq y (get_or b.vregs vreg 0) || holds_now b place y) ≡ true
add-members a b place vreg set less k hb s y is =
    ap (λ (vs : List ℕ). nat_eq y (get_or vs vreg 0) || holds_now b place y) k.vregs
    ∙ ap (λ x. nat_eq y (get_or a.vregs vreg 0) || x) (hb place y less)
    ∙ by (nat_eq y (get_or a.vregs vreg 0)) (holds_now a place y) (sym (s.members y) ∙ is)
  where
    by : (p q : Bool) → (if p then true else q) ≡ true → (p || q) ≡ true
    by true q e = refl
    by false q e = e

-- places that get a vreg, one by one
pub give-none : (b : Holding) (has : ℕ → ℕ → Bool) (v : ℕ) → HoldsNow b (λ i y. if nat_eq y v then false else has i y) →
    HoldsNow b (λ i y. if nat_eq y v then is_in [] i else has i y)
give-none b has v h i y l = h i y l

-- with one more place given the vreg, the places up to it hold it, and no others
pub give-more : (b d : Holding) (has : ℕ → ℕ → Bool) (v w k place : ℕ) (places : List ℕ) → k < length places → place ≡ get_or places k 0 → w ≡ v →
    AreKeptTables b d → HoldsNow b (λ i y. if nat_eq y v then is_in (take k places) i else has i y) →
    HoldsNow d (λ i y. if nat_eq i place && nat_eq y w then true else holds_now b i y) →
    HoldsNow d (λ i y. if nat_eq y v then is_in (take (k + 1) places) i else has i y)
give-more b d has v w k place places less e ew kd hb hd i y l =
    let lb : i < length b.places = subst (λ (ps : List ℕ). i < length ps) kd.places l in
    let taken : take (k + 1) places ≡ take k places ++ place ∷ [] = take_more places k 0 less ∙ ap (λ n. take k places ++ n ∷ []) (sym e) in
    hd i y l ∙ ap (λ x. if nat_eq i place && nat_eq y w then true else x) (hb i y lb)
    ∙ ap (λ n. if nat_eq i place && nat_eq y n then true else (if nat_eq y v then is_in (take k places) i else has i y)) ew
    ∙ by (nat_eq i place) (nat_eq y v) (is_in (take k places) i) (has i y)
    ∙ ap (λ x. if nat_eq y v then x else has i y)
    (ap (λ x. is_in (take k places) i || x) (turned i place) ∙ sym (is_in-more (take k places) place i)
    ∙ ap (λ (xs : List ℕ). is_in xs i) (sym taken))
  where
    by : (p q m o : Bool) → (if p && q then true else (if q then m else o)) ≡ (if q then (m || p) else o)
    by true true true o = refl
    by true true false o = refl
    by true false m o = refl
    by false true true o = refl
    by false true false o = refl
    by false false m o = refl

    turned : (i j : ℕ) → nat_eq i j ≡ nat_eq j i
    turned i j = elim (cases_eq i j) [
      | inl d ↦ eq-eqb i j d ∙ sym (eq-eqb j i (sym d))
      | inr n ↦ ne_eqb i j n ∙ sym (ne_eqb j i (λ q. n (sym q)))
    ]

-- an item of a list is in it
pub is_in-at : (xs : List ℕ) (k : ℕ) → k < length xs → is_in xs (get_or xs k 0) ≡ true
is_in-at [] k l = absurd (omega arith)
is_in-at (x ∷ xs) zero l = ap (λ b. b || is_in xs x) (eq-eqb x x refl)
is_in-at (x ∷ xs) (suc k) l = ap (λ b. nat_eq x (get_or xs k 0) || b) (is_in-at xs k (omega arith)) ∙ or-true (nat_eq x (get_or xs k 0))
  where
    or-true : (b : Bool) → (b || true) ≡ true
    or-true true = refl
    or-true false = refl

-- a saved copy gets the current array, which a saved table may have, or stays
pub save-all : (t : Holding) (f : NumberCopies) (k : ℕ) (r : Result (Unit {0}) AllocError) → IsSoundHolding t →
    AreEntries t.sets (IsSavedHome t.vregs t.homes) (length t.entries.cells) (length t.places) (number_now t.entries) → f.cells ≡ t.entries.cells →
    ((n i : ℕ) → (n ≡ k → ⊥) → i < length t.entries.cells → saved_number f n i ≡ saved_number t.entries n i) →
    OnOk r ((i : ℕ) → i < length t.entries.cells → saved_number f k i ≡ number_now t.entries i) →
    OnErr r ((i : ℕ) → i < length t.entries.cells → saved_number f k i ≡ saved_number t.entries k i) → IsSoundHolding (record t { entries = f })
save-all t f k (Ok x) a now ec others ok err = save-tables t f a ec (λ n. elim (cases_eq n k) [
  | inl e ↦ (number_now t.entries, now, λ i l. ap (λ m. saved_number f m i) e ∙ ok i l)
  | inr d ↦ (saved_number t.entries n, a.tables n, λ i l. others n i d l)
])
save-all t f k (Err x) a now ec others ok err = save-tables t f a ec (λ n. elim (cases_eq n k) [
  | inl e ↦ (saved_number t.entries k, a.tables k, λ i l. ap (λ m. saved_number f m i) e ∙ err i l)
  | inr d ↦ (saved_number t.entries n, a.tables n, λ i l. others n i d l)
])

-- what is left of a saved table is where a saved table may hold it
pub met-saved : (t : Holding) (s : List NumberSet) (f : NumberCopies) (k : ℕ) → IsSoundHolding t → AreStill t.sets t.entries s f →
    ((i y : ℕ) → i < length t.places → held s f i y ≡ (holds_in t k i y && holds_now t i y)) →
    AreEntries s (IsSavedHome t.vregs t.homes) (length f.cells) (length t.places) (number_now f)
met-saved t s f k a st met = record {
  below = st.below;
  homed = λ i y l is. (a.tables k).homed i y l (and_left (holds_in t k i y) (holds_now t i y) (sym (met i y l) ∙ is));
}
  where
    and_left : (b c : Bool) → (b && c) ≡ true → b ≡ true
    and_left true c e = refl
    and_left false c e = e

-- a saved table holds what the current table held, and the others what they held
pub save-in : (t : Holding) (f : NumberCopies) (k : ℕ) → IsSoundHolding t →
    ((n i : ℕ) → (n ≡ k → ⊥) → i < length t.entries.cells → saved_number f n i ≡ saved_number t.entries n i) →
    ((i : ℕ) → i < length t.entries.cells → saved_number f k i ≡ number_now t.entries i) → (n i y : ℕ) → i < length t.places →
    holds_in (record t { entries = f }) n i y ≡ (if nat_eq n k then holds_now t i y else holds_in t n i y)
save-in t f k a others ok n i y l = (let long = a.long in elim (cases_eq n k) [
  | inl e ↦
      ap (λ m. is_member t.sets (saved_number f m i) y) e ∙ ap (λ m. is_member t.sets m y) (ok i (omega arith))
      ∙ sym (ap (λ b. if b then holds_now t i y else holds_in t n i y) (eq-eqb n k e))
  | inr d ↦
      ap (λ m. is_member t.sets m y) (others n i d (omega arith)) ∙ sym (ap (λ b. if b then holds_now t i y else holds_in t n i y) (ne_eqb n k d))
])

-- a meet that loses nothing
pub meet-false : (t : Holding) (s : List NumberSet) (f : NumberCopies) (k : ℕ) → IsSoundHolding t → AreStill t.sets t.entries s f →
    ((i y : ℕ) → i < length t.places → holds_in t k i y ≡ true → holds_now t i y ≡ true) → (n i y : ℕ) → i < length t.places →
    holds_in (record t { entries = f; sets = s }) n i y ≡ (if nat_eq n k then holds_in t n i y && holds_now t i y else holds_in t n i y)
meet-false t s f k a st same n i y l = (drop-kept t s f a st).tables n i y l ∙ elim (cases_eq n k) [
  | inl e ↦
      whole (holds_in t n i y) (holds_now t i y) (λ is. same i y l (ap (λ m. holds_in t m i y) (sym e) ∙ is))
      ∙ sym (ap (λ b. if b then holds_in t n i y && holds_now t i y else holds_in t n i y) (eq-eqb n k e))
  | inr d ↦ sym (ap (λ b. if b then holds_in t n i y && holds_now t i y else holds_in t n i y) (ne_eqb n k d))
]
  where
    whole : (p q : Bool) → (p ≡ true → q ≡ true) → p ≡ (p && q)
    whole true q h = sym (h refl)
    whole false q h = refl

-- a meet that loses something, and is saved
pub meet-true : (t : Holding) (s : List NumberSet) (f h : NumberCopies) (k : ℕ) → IsSoundHolding t → AreStill t.sets t.entries s f →
    IsSoundHolding (record t { entries = f; sets = s }) → ((n i : ℕ) → (n ≡ k → ⊥) → i < length f.cells → saved_number h n i ≡ saved_number f n i) →
    ((i : ℕ) → i < length f.cells → saved_number h k i ≡ number_now f i) →
    ((i y : ℕ) → i < length t.places → held s f i y ≡ (holds_in t k i y && holds_now t i y)) → (n i y : ℕ) → i < length t.places →
    holds_in (record t { entries = h; sets = s }) n i y ≡ (if nat_eq n k then holds_in t n i y && holds_now t i y else holds_in t n i y)
meet-true t s f h k a st b others saved met n i y l =
    save-in (record t { entries = f; sets = s }) h k b others saved n i y l
    ∙ ap (λ x. if nat_eq n k then x else holds_in (record t { entries = f; sets = s }) n i y) (met i y l)
    ∙ ap (λ x. if nat_eq n k then holds_in t k i y && holds_now t i y else x) ((drop-kept t s f a st).tables n i y l)
    ∙ elim (cases_eq n k) [
      | inl e ↦
          ap (λ c. if c then holds_in t k i y && holds_now t i y else holds_in t n i y) (eq-eqb n k e)
          ∙ ap (λ m. holds_in t m i y && holds_now t i y) (sym e)
          ∙ sym (ap (λ c. if c then holds_in t n i y && holds_now t i y else holds_in t n i y) (eq-eqb n k e))
      | inr d ↦
          ap (λ c. if c then holds_in t k i y && holds_now t i y else holds_in t n i y) (ne_eqb n k d)
          ∙ sym (ap (λ c. if c then holds_in t n i y && holds_now t i y else holds_in t n i y) (ne_eqb n k d))
    ]

-- nothing is held yet
pub new-all : (places vregs : List ℕ) (e : NumberCopies) (s : List NumberSet) (h : List HomePlaces) → IsStrictlyIncreasing places → IsStrictlyIncreasing vregs →
    length e.cells ≡ 64 * (length places / 64 + 1) → length places < 274877906944 → IsSetOf s 0 (λ y. false) → length h ≡ length vregs → ((i : ℕ) → number_now e i ≡ 0) →
    ((k i : ℕ) → saved_number e k i ≡ 0) → IsSoundHolding (record { places = places; vregs = vregs; entries = e; sets = s; homes = h })
new-all places vregs e s h pr vr long few empty hl cells saved = record {
  places_rise = pr;
  vregs_rise = vr;
  long = long;
  few = few;
  empty = empty;
  homes_long = hl;
  now = zeros (IsHome vregs h) (number_now e) cells;
  tables = λ k. zeros (IsSavedHome vregs h) (saved_number e k) (saved k);
}
  where
    true-false : (b : Bool) → b ≡ true → b ≡ false → ⊥
    true-false true h g = absurd cc
    true-false false h g = absurd cc

    zeros : (P : ℕ → ℕ → Type 0) (f : ℕ → ℕ) → ((i : ℕ) → f i ≡ 0) → AreEntries s P (length e.cells) (length places) f
    zeros P f z = record {
      below = λ i l. subst (λ (x : ℕ). x < length s) (sym (z i)) empty.below;
      homed = λ i y l is. absurd (true-false (is_member s (f i) y) is (ap (λ x. is_member s x y) (z i) ∙ empty.members y));
    }

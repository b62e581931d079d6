-- What tables show, by what they hold.
use Rattle.std.proofs.Common.{inl, inr, ◌⊎◌, ℕ, ◌≡◌, ◌+◌, ◌<◌, ◌≤◌, arith, Bool, true, false, nat_eq, nat_lt, eq-eqb}
use Rattle.std.proofs.Common.{List, [], ◌∷◌, ◌++◌, length, get_or, take, refl, sym, ap, ◌∙◌, subst}
use Rattle.std.specs.Prelude.{◌&&◌, if◌then◌else◌, Option, None, Some, slice_set, Contains, ◌↔◌, Result, Ok, Err, OnOk}
use Rattle.std.proofs.lemmas.Bool.{cases_eq, cases_lt, le-ltb, lt-ltb, ne_eqb as apart}
use Rattle.std.specs.Bool.{OnTrue, OnFalse}
use Rattle.std.proofs.lemmas.List.{get_or-set_other, get_or-set_same, length-set, take_more, take_all, get_or_past}
use Rattle.std.proofs.Math.Bool.{and-false}
use Rattle.regalloc2_index.proofs.Bools.{not_both}
use Rattle.regalloc2_checker.specs.Holding.{Holding, count_of, holds_now, holds_in, is_in, AreKeptTables, HoldsNow, LosesSome}
use Rattle.regalloc2_checker.specs.Showing.{Showing, showing, read_as, table_count, shows_now, shows_in, ListsPassed, IsReadApart, AreShown}
use Rattle.regalloc2_checker.specs.Showing.{AreTablesKept, ShowsNow}
use Rattle.regalloc2_checker.specs.declared.passing.Passed.{Passed}
use Rattle.regalloc2_function.specs.Numbers.{times_listed}
use Rattle.regalloc2_checker_sets.proofs.Bits.{other-times, same-times}
use Rattle.regalloc2_checker.proofs.Times.{times-of, contains-of}
use Rattle.regalloc2_checker_sets.proofs.Walked.{times-append, times-nil}

-- nothing is passed: each is held under its own bits
pub read-none : (vs : List ℕ) (y : ℕ) → read_as vs None y ≡ y
unfolding read_as
read-none vs y = refl

-- a parameter is held under its argument's bits
pub read-some : (vs : List ℕ) (p : Passed) (y : ℕ) → read_as vs (Some p) y ≡ (if nat_eq y (get_or vs p.parameter 0) then get_or vs p.argument 0 else y)
unfolding read_as
read-some vs p y = refl

-- only tables that there are show anything
pub when-below : (k n : ℕ) (x y : Bool) → (k < n → x ≡ y) → (nat_lt k n && x) ≡ (nat_lt k n && y)
when-below k n x y h = elim (cases_lt k n) [
  | inl l ↦ ap (λ b. nat_lt k n && b) (h l)
  | inr g ↦ ap (λ b. b && x) (le-ltb k n g) ∙ sym (ap (λ b. b && y) (le-ltb k n g))
]

-- tables below the count show what they hold
pub if-below : (k n : ℕ) (x : Bool) → k < n → (nat_lt k n && x) ≡ x
if-below k n x l = ap (λ b. b && x) (lt-ltb k n l)

-- tables that are kept show what they showed
pub kept-shown : (t u : Holding) (p q : Option Passed) (s : List (Option Passed)) → AreKeptTables t u → AreTablesKept (showing t p s) (showing u q s)
kept-shown t u p q s h = record {
  places = h.places;
  vregs = h.vregs;
  count = refl;
  tables = λ k i y less. ap (λ (vs : List ℕ). nat_lt k (length s) && holds_in u k i (read_as vs (get_or s k None) y)) h.vregs
      ∙ ap (λ b. nat_lt k (length s) && b) (h.tables k i (read_as t.vregs (get_or s k None) y) less);
}

-- what is held is what is shown
pub now-shown : (t u : Holding) (p : Option Passed) (s : List (Option Passed)) (has : ℕ → ℕ → Bool) → u.vregs ≡ t.vregs → HoldsNow u has →
    ShowsNow (showing u p s) (λ i y. has i (read_as t.vregs p y))
now-shown t u p s has e h i y less = ap (λ (vs : List ℕ). holds_now u i (read_as vs p y)) e ∙ h i (read_as t.vregs p y) less

-- tables that are kept over two steps are kept over both
pub shown-then : (a b c : Showing) → AreTablesKept a b → AreTablesKept b c → AreTablesKept a c
shown-then a b c h g = record {
  places = g.places ∙ h.places;
  vregs = g.vregs ∙ h.vregs;
  count = g.count ∙ h.count;
  tables = λ k i y l. g.tables k i y (subst (λ (ps : List ℕ). i < length ps) (sym h.places) l) ∙ h.tables k i y l;
}

either : (b x : Bool) (f : ℕ → Bool) (a y : ℕ) → x ≡ f a → (if b then x else f y) ≡ f (if b then a else y)
either true x f a y e = e
either false x f a y e = refl

-- a parameter that is noted at its argument's places shows what it did
pub settled-now : (t u : Holding) (p : Passed) (holders : List ℕ) → u.places ≡ t.places →
    ((i : ℕ) → is_in holders i ≡ (nat_lt i (length t.places) && holds_now t i (get_or t.vregs p.argument 0))) →
    HoldsNow u (λ i y. if nat_eq y (get_or t.vregs p.parameter 0) then is_in holders i else holds_now t i y) →
    HoldsNow u (λ i y. holds_now t i (read_as t.vregs (Some p) y))
settled-now t u p holders e are h i y less =
    let l : i < length t.places = subst (λ (ps : List ℕ). i < length ps) e less in
    h i y less
    ∙ either (nat_eq y (get_or t.vregs p.parameter 0)) (is_in holders i) (holds_now t i) (get_or t.vregs p.argument 0) y
    (are i ∙ if-below i (length t.places) (holds_now t i (get_or t.vregs p.argument 0)) l)
    ∙ ap (holds_now t i) (sym (read-some t.vregs p y))

-- the current table is saved as table k
pub record IsSavedAs (t u : Holding) (k : ℕ) : Type 0 where
  pub places : u.places ≡ t.places
  pub vregs : u.vregs ≡ t.vregs
  pub tables : (j i y : ℕ) → i < length t.places → holds_in u j i y ≡ (if nat_eq j k then holds_now t i y else holds_in t j i y)

-- table k is loaded
pub record IsLoadedFrom (t u : Holding) (k : ℕ) : Type 0 where
  pub kept : AreKeptTables t u
  pub now : HoldsNow u (holds_in t k)

-- one table was saved, another was changed and saved, and the first was loaded again
pub record IsSettledIn (t a b c d u : Holding) (p : Option Passed) (table spare : ℕ) : Type 0 where
  pub apart : table ≡ spare → ⊥
  pub put_by : IsSavedAs t a spare
  pub loaded : IsLoadedFrom a b table
  pub kept : AreKeptTables b c
  pub settled : HoldsNow c (λ i y. holds_now b i (read_as b.vregs p y))
  pub saved : IsSavedAs c d table
  pub back : IsLoadedFrom d u spare

module _ (t a b c d u : Holding) (p : Option Passed) (table spare : ℕ) (h : IsSettledIn t a b c d u p table spare) where
  -- the lists stay
  pub settled-places : u.places ≡ t.places
  settled-places = h.back.kept.places ∙ h.saved.places ∙ h.kept.places ∙ h.loaded.kept.places ∙ h.put_by.places

  pub settled-vregs : u.vregs ≡ t.vregs
  settled-vregs = h.back.kept.vregs ∙ h.saved.vregs ∙ h.kept.vregs ∙ h.loaded.kept.vregs ∙ h.put_by.vregs

  to-a : (i : ℕ) → i < length t.places → i < length a.places
  to-a i l = subst (λ (ps : List ℕ). i < length ps) (sym h.put_by.places) l

  to-b : (i : ℕ) → i < length t.places → i < length b.places
  to-b i l = subst (λ (ps : List ℕ). i < length ps) (sym h.loaded.kept.places) (to-a i l)

  to-c : (i : ℕ) → i < length t.places → i < length c.places
  to-c i l = subst (λ (ps : List ℕ). i < length ps) (sym h.kept.places) (to-b i l)

  to-d : (i : ℕ) → i < length t.places → i < length d.places
  to-d i l = subst (λ (ps : List ℕ). i < length ps) (sym h.saved.places) (to-c i l)

  -- another table than the spare one is what it was before the change
  before : (k i y : ℕ) → (k ≡ spare → ⊥) → i < length t.places → holds_in c k i y ≡ holds_in t k i y
  before k i y n l =
      h.kept.tables k i y (to-b i l) ∙ h.loaded.kept.tables k i y (to-a i l) ∙ h.put_by.tables k i y l
      ∙ ap (λ x. if x then holds_now t i y else holds_in t k i y) (apart k spare n)

  -- the current table stays
  pub settled-in-now : HoldsNow u (holds_now t)
  settled-in-now i y less =
      let l : i < length t.places = subst (λ (ps : List ℕ). i < length ps) settled-places less in
      h.back.now i y less ∙ h.saved.tables spare i y (to-c i l)
      ∙ ap (λ x. if x then holds_now c i y else holds_in c spare i y) (apart spare table (λ e. h.apart (sym e)))
      ∙ h.kept.tables spare i y (to-b i l) ∙ h.loaded.kept.tables spare i y (to-a i l) ∙ h.put_by.tables spare i y l
      ∙ ap (λ x. if x then holds_now t i y else holds_in t spare i y) (eq-eqb spare spare refl)

  -- of the tables but the spare one, one alone changed
  pub settled-in-tables : (k i y : ℕ) → (k ≡ spare → ⊥) → i < length t.places →
      holds_in u k i y ≡ (if nat_eq k table then holds_in t table i (read_as t.vregs p y) else holds_in t k i y)
  settled-in-tables k i y n l =
      h.back.kept.tables k i y (to-d i l) ∙ h.saved.tables k i y (to-c i l)
      ∙ ap (λ x. if nat_eq k table then x else holds_in c k i y) changed
      ∙ ap (λ x. if nat_eq k table then holds_in t table i (read_as t.vregs p y) else x) (before k i y n l)
    where
      changed : holds_now c i y ≡ holds_in t table i (read_as t.vregs p y)
      changed =
          let vs : b.vregs ≡ t.vregs = h.loaded.kept.vregs ∙ h.put_by.vregs in
          h.settled i y (to-c i l) ∙ ap (λ (ws : List ℕ). holds_now b i (read_as ws p y)) vs
          ∙ h.loaded.now i (read_as t.vregs p y) (to-b i l) ∙ h.put_by.tables table i (read_as t.vregs p y) l
          ∙ ap (λ x. if x then holds_now t i (read_as t.vregs p y) else holds_in t table i (read_as t.vregs p y)) (apart table spare h.apart)

-- the current table is saved, and with it what was passed
pub saved-shown : (t u : Holding) (p : Option Passed) (s : List (Option Passed)) (table : ℕ) → table < length s → IsSavedAs t u table → (k i y : ℕ) →
    i < length t.places →
    shows_in (showing u p (slice_set s table p)) k i y ≡ (if nat_eq k table then shows_now (showing t p s) i y else shows_in (showing t p s) k i y)
saved-shown t u p s table less h k i y l = elim (cases_eq k table) [
  | inl e ↦
      let here : get_or (slice_set s table p) k None ≡ p = ap (λ n. get_or (slice_set s table p) n None) e ∙ get_or-set_same s table p None less in
      let yes : nat_eq k table ≡ true = eq-eqb k table e in
      if-below k (length (slice_set s table p)) (holds_in u k i (read_as u.vregs (get_or (slice_set s table p) k None) y))
      (let a = length-set s table p in omega (arith, e))
      ∙ ap (λ (o : Option Passed). holds_in u k i (read_as u.vregs o y)) here
      ∙ ap (λ (vs : List ℕ). holds_in u k i (read_as vs p y)) h.vregs
      ∙ h.tables k i (read_as t.vregs p y) l
      ∙ ap (λ x. if x then shows_now (showing t p s) i y else holds_in t k i (read_as t.vregs p y)) yes
      ∙ sym (ap (λ x. if x then shows_now (showing t p s) i y else shows_in (showing t p s) k i y) yes)
  | inr n ↦
      let other : get_or (slice_set s table p) k None ≡ get_or s k None = get_or-set_other s table k p None n in
      let no : nat_eq k table ≡ false = apart k table n in
      ap (λ m. nat_lt k m && holds_in u k i (read_as u.vregs (get_or (slice_set s table p) k None) y)) (length-set s table p)
      ∙ ap (λ (o : Option Passed). nat_lt k (length s) && holds_in u k i (read_as u.vregs o y)) other
      ∙ ap (λ (vs : List ℕ). nat_lt k (length s) && holds_in u k i (read_as vs (get_or s k None) y)) h.vregs
      ∙ ap (λ x. nat_lt k (length s) && x) (h.tables k i (read_as t.vregs (get_or s k None) y) l
      ∙ ap (λ x. if x then holds_now t i (read_as t.vregs (get_or s k None) y) else holds_in t k i (read_as t.vregs (get_or s k None) y)) no)
      ∙ sym (ap (λ x. if x then shows_now (showing t p s) i y else shows_in (showing t p s) k i y) no)
]

-- a parameter that was passed in a table is noted there
pub settled-shown : (t u : Holding) (p : Option Passed) (s : List (Option Passed)) (table : ℕ) → table < length s → u.vregs ≡ t.vregs →
    ((k i y : ℕ) → (k ≡ length s → ⊥) → i < length t.places →
    holds_in u k i y ≡ (if nat_eq k table then holds_in t table i (read_as t.vregs (get_or s table None) y) else holds_in t k i y)) → (k i y : ℕ) →
    i < length t.places → shows_in (showing u p (slice_set s table None)) k i y ≡ shows_in (showing t p s) k i y
settled-shown t u p s table less e h k i y l =
    ap (λ m. nat_lt k m && holds_in u k i (read_as u.vregs (get_or (slice_set s table None) k None) y)) (length-set s table None)
    ∙ when-below k (length s) _ _ (λ small. by_table small (cases_eq k table))
  where
    by_table : k < length s → ◌⊎◌ (k ≡ table) (k ≡ table → ⊥) →
        holds_in u k i (read_as u.vregs (get_or (slice_set s table None) k None) y) ≡ holds_in t k i (read_as t.vregs (get_or s k None) y)
    by_table small (inl q) =
        let here : get_or (slice_set s table None) k None ≡ None =
        ap (λ n. get_or (slice_set s table None) n None) q ∙ get_or-set_same s table None None less in
        ap (λ (o : Option Passed). holds_in u k i (read_as u.vregs o y)) here
        ∙ ap (holds_in u k i) (read-none u.vregs y)
        ∙ h k i y (λ z. omega (arith, small, z)) l
        ∙ ap (λ x. if x then holds_in t table i (read_as t.vregs (get_or s table None) y) else holds_in t k i y) (eq-eqb k table q)
        ∙ ap (λ n. holds_in t n i (read_as t.vregs (get_or s n None) y)) (sym q)
    by_table small (inr n) =
        let other : get_or (slice_set s table None) k None ≡ get_or s k None = get_or-set_other s table k None None n in
        ap (λ (o : Option Passed). holds_in u k i (read_as u.vregs o y)) other
        ∙ ap (λ (vs : List ℕ). holds_in u k i (read_as vs (get_or s k None) y)) e
        ∙ h k i (read_as t.vregs (get_or s k None) y) (λ z. omega (arith, small, z)) l
        ∙ ap (λ x. if x then holds_in t table i (read_as t.vregs (get_or s table None) (read_as t.vregs (get_or s k None) y))
        else holds_in t k i (read_as t.vregs (get_or s k None) y)) (apart k table n)

-- the current table is met with a table, where nothing is passed in either
pub met-shown : (t u : Holding) (p : Option Passed) (s : List (Option Passed)) (table : ℕ) → p ≡ None → table < length s → get_or s table None ≡ None →
    u.vregs ≡ t.vregs → ((k i y : ℕ) → i < length t.places →
    holds_in u k i y ≡ (if nat_eq k table then holds_in t k i y && holds_now t i y else holds_in t k i y)) → (k i y : ℕ) → i < length t.places →
    shows_in (showing u p s) k i y
    ≡ (if nat_eq k table then shows_in (showing t p s) k i y && shows_now (showing t p s) i y else shows_in (showing t p s) k i y)
met-shown t u p s table none less bare-here e h k i y l = elim (cases_eq k table) [
  | inl q ↦
      let here : get_or s k None ≡ None = ap (λ n. get_or s n None) q ∙ bare-here in
      let small : k < length s = omega (arith, q, less) in
      let yes : nat_eq k table ≡ true = eq-eqb k table q in
      let now : shows_now (showing t p s) i y ≡ holds_now t i y =
      ap (λ (o : Option Passed). holds_now t i (read_as t.vregs o y)) none ∙ ap (holds_now t i) (read-none t.vregs y) in
      let had : shows_in (showing t p s) k i y ≡ holds_in t k i y =
      if-below k (length s) (holds_in t k i (read_as t.vregs (get_or s k None) y)) small
      ∙ ap (λ (o : Option Passed). holds_in t k i (read_as t.vregs o y)) here ∙ ap (holds_in t k i) (read-none t.vregs y) in
      if-below k (length s) (holds_in u k i (read_as u.vregs (get_or s k None) y)) small
      ∙ ap (λ (o : Option Passed). holds_in u k i (read_as u.vregs o y)) here
      ∙ ap (holds_in u k i) (read-none u.vregs y)
      ∙ h k i y l
      ∙ ap (λ x. if x then holds_in t k i y && holds_now t i y else holds_in t k i y) yes
      ∙ sym (ap (λ x. x && shows_now (showing t p s) i y) had ∙ ap (λ x. holds_in t k i y && x) now)
      ∙ sym (ap (λ x. if x then shows_in (showing t p s) k i y && shows_now (showing t p s) i y else shows_in (showing t p s) k i y) yes)
  | inr n ↦
      let no : nat_eq k table ≡ false = apart k table n in
      ap (λ (vs : List ℕ). nat_lt k (length s) && holds_in u k i (read_as vs (get_or s k None) y)) e
      ∙ ap (λ x. nat_lt k (length s) && x) (h k i (read_as t.vregs (get_or s k None) y) l
      ∙ ap (λ x. if x then holds_in t k i (read_as t.vregs (get_or s k None) y) && holds_now t i (read_as t.vregs (get_or s k None) y)
      else holds_in t k i (read_as t.vregs (get_or s k None) y)) no)
      ∙ sym (ap (λ x. if x then shows_in (showing t p s) k i y && shows_now (showing t p s) i y else shows_in (showing t p s) k i y) no)
]

-- what a place shows, by what it holds, where a parameter is passed
pub shown-members : (t : Holding) (p : Passed) (place : ℕ) (held shown : List ℕ) (is_in : Bool) →
    ((y : ℕ) → Contains held y ↔ (holds_now t place y ≡ true)) → is_in ≡ holds_now t place (get_or t.vregs p.argument 0) →
    (Contains shown (get_or t.vregs p.parameter 0) ↔ (is_in ≡ true)) →
    ((y : ℕ) → (y ≡ get_or t.vregs p.parameter 0 → ⊥) → Contains shown y ↔ Contains held y) → (y : ℕ) →
    Contains shown y ↔ (holds_now t place (read_as t.vregs (Some p) y) ≡ true)
shown-members t p place held shown is_in are is here others y = elim (cases_eq y (get_or t.vregs p.parameter 0)) [
  | inl e ↦
      let r : read_as t.vregs (Some p) y ≡ get_or t.vregs p.argument 0 = read-some t.vregs p y
      ∙ ap (λ b. if b then get_or t.vregs p.argument 0 else y) (eq-eqb y (get_or t.vregs p.parameter 0) e) in
      let same : is_in ≡ holds_now t place (read_as t.vregs (Some p) y) = is ∙ ap (holds_now t place) (sym r) in
      (λ c. sym same ∙ here.0 (subst (λ n. Contains shown n) e c), λ m. subst (λ n. Contains shown n) (sym e) (here.1 (same ∙ m)))
  | inr n ↦
      let r : read_as t.vregs (Some p) y ≡ y = read-some t.vregs p y
      ∙ ap (λ b. if b then get_or t.vregs p.argument 0 else y) (apart y (get_or t.vregs p.parameter 0) n) in
      (λ c. ap (holds_now t place) r ∙ (are y).0 ((others y n).0 c), λ m. (others y n).1 ((are y).1 (sym (ap (holds_now t place) r) ∙ m)))
]

-- the first numbers were gone over, and all but one of them were taken
pub record AreWithout (changed numbers : List ℕ) (number : ℕ) : Type 0 where
  pub none : times_listed changed number ≡ 0
  pub others : (y : ℕ) → (y ≡ number → ⊥) → times_listed changed y ≡ times_listed numbers y

-- none was
pub without-none : (changed : List ℕ) (number : ℕ) → changed ≡ [] → AreWithout changed [] number
without-none changed number e = record {
  none = ap (λ (l : List ℕ). times_listed l number) e ∙ times-nil number;
  others = λ y n. ap (λ (l : List ℕ). times_listed l y) e;
}

-- one more was, and taken
pub without-more : (changed numbers : List ℕ) (number x : ℕ) → (x ≡ number → ⊥) → AreWithout changed numbers number →
    AreWithout (changed ++ x ∷ []) (numbers ++ x ∷ []) number
without-more changed numbers number x n h = record {
  none = other-times changed x number (λ e. n (sym e)) ∙ h.none;
  others = λ y m. times-append changed (x ∷ []) y ∙ ap (λ k. k + times_listed (x ∷ []) y) (h.others y m) ∙ sym (times-append numbers (x ∷ []) y);
}

-- one more was, and left out
pub without-skip : (changed numbers : List ℕ) (number x : ℕ) → x ≡ number → AreWithout changed numbers number →
    AreWithout changed (numbers ++ x ∷ []) number
without-skip changed numbers number x e h = record {
  none = h.none;
  others = λ y m. h.others y m ∙ sym (other-times numbers x y (λ q. m (q ∙ e)));
}

-- the one that is left out is not there
pub without-here : (changed numbers : List ℕ) (number : ℕ) → AreWithout changed numbers number → Contains changed number → ⊥
without-here changed numbers number h c = let a = times-of changed number c in let b = h.none in omega arith

-- the numbers other than the one left out are there as they were
pub without-others : (changed numbers : List ℕ) (number y : ℕ) → AreWithout changed numbers number → (y ≡ number → ⊥) →
    Contains changed y ↔ Contains numbers y
without-others changed numbers number y h n =
    let e = h.others y n in
    (λ c. contains-of numbers y (let a = times-of changed y c in omega arith), λ c. contains-of changed y (let a = times-of numbers y c in omega arith))

-- a number of a list more was gone over, and taken
pub without-step : (changed numbers : List ℕ) (k number x : ℕ) → k < length numbers → x ≡ get_or numbers k 0 → (x ≡ number → ⊥) →
    AreWithout changed (take k numbers) number → AreWithout (changed ++ x ∷ []) (take (k + 1) numbers) number
without-step changed numbers k number x less e n h =
    subst (λ (l : List ℕ). AreWithout (changed ++ x ∷ []) l number) (sym (take_more numbers k 0 less ∙ ap (λ m. take k numbers ++ m ∷ []) (sym e)))
    (without-more changed (take k numbers) number x n h)

-- a number of a list more was gone over, and left out
pub without-pass : (changed numbers : List ℕ) (k number x : ℕ) → k < length numbers → x ≡ get_or numbers k 0 → x ≡ number →
    AreWithout changed (take k numbers) number → AreWithout changed (take (k + 1) numbers) number
without-pass changed numbers k number x less e is h =
    subst (λ (l : List ℕ). AreWithout changed l number) (sym (take_more numbers k 0 less ∙ ap (λ m. take k numbers ++ m ∷ []) (sym e)))
    (without-skip changed (take k numbers) number x is h)

-- all of a list were gone over
pub without-all : (changed numbers : List ℕ) (k number : ℕ) → length numbers ≤ k → AreWithout changed (take k numbers) number →
    AreWithout changed numbers number
without-all changed numbers k number less h = subst (λ (l : List ℕ). AreWithout changed l number) (take_all k numbers less) h

-- a number that is put at the end is there
pub with-here : (changed more : List ℕ) (number : ℕ) → more ≡ changed ++ number ∷ [] → Contains more number
with-here changed more number e = subst (λ (l : List ℕ). Contains l number) (sym e) (contains-of (changed ++ number ∷ []) number (same-times changed number))

-- the numbers other than the one put at the end stay as they are
pub with-others : (changed more : List ℕ) (number y : ℕ) → more ≡ changed ++ number ∷ [] → (y ≡ number → ⊥) → Contains more y ↔ Contains changed y
with-others changed more number y e n =
    let d = other-times changed number y n in
    subst (λ (l : List ℕ). Contains l y ↔ Contains changed y) (sym e) (
      λ c. contains-of changed y (let a = times-of (changed ++ number ∷ []) y c in omega arith),
      λ c. contains-of (changed ++ number ∷ []) y (let a = times-of changed y c in omega arith),
    )

-- where nothing is passed, nothing has to be listed
pub none-passed : (vs : List ℕ) → ListsPassed vs None
none-passed vs p e = absurd cc

same-passed : (p q : Passed) → ◌≡◌ {A = Option Passed} (Some p) (Some q) → p ≡ q
same-passed p q e = cc

-- a parameter and its argument that are listed
pub some-passed : (vs : List ℕ) (p : Passed) → p.parameter < length vs → p.argument < length vs → ListsPassed vs (Some p)
some-passed vs p a b q e = subst (λ (r : Passed). (r.parameter < length vs) × (r.argument < length vs)) (same-passed p q e) (a, b)

-- what stays true stays so where tables change that list the same
pub shown-after : (t u : Holding) (p : Option Passed) (s : List (Option Passed)) → u.vregs ≡ t.vregs → count_of u ≡ count_of t → AreShown (showing t p s) →
    AreShown (showing u p s)
shown-after t u p s e n h = record {
  spare = n ∙ h.spare;
  now = subst (λ (vs : List ℕ). ListsPassed vs p) (sym e) h.now;
  tables = λ k. subst (λ (vs : List ℕ). ListsPassed vs (get_or s k None)) (sym e) (h.tables k);
}

-- where another parameter is passed
pub shown-with : (t : Holding) (p q : Option Passed) (s : List (Option Passed)) → ListsPassed t.vregs q → AreShown (showing t p s) → AreShown (showing t q s)
shown-with t p q s is h = record { spare = h.spare; now = is; tables = h.tables }

-- what stays true stays so where another parameter is passed in a table
pub shown-set : (t : Holding) (p q : Option Passed) (s : List (Option Passed)) (table : ℕ) → table < length s → ListsPassed t.vregs q →
    AreShown (showing t p s) → AreShown (showing t p (slice_set s table q))
shown-set t p q s table less is h = record {
  spare = h.spare ∙ ap (λ n. n + 1) (sym (length-set s table q));
  now = h.now;
  tables = λ k. elim (cases_eq k table) [
    | inl e ↦ subst (λ (o : Option Passed). ListsPassed t.vregs o)
        (sym (ap (λ n. get_or (slice_set s table q) n None) e ∙ get_or-set_same s table q None less)) is
    | inr n ↦ subst (λ (o : Option Passed). ListsPassed t.vregs o) (sym (get_or-set_other s table k q None n)) (h.tables k)
  ];
}

-- where nothing is passed in any table, nothing is past the last one either
pub nones : (s : List (Option Passed)) (n : ℕ) → length s ≡ n → ((k : ℕ) → k < n → get_or s k None ≡ None) → (k : ℕ) → get_or s k None ≡ None
nones s n e h k = elim (cases_lt k n) [
  | inl l ↦ h k l
  | inr g ↦ get_or_past s k None (omega arith)
]

-- what stays true holds at first
pub shown-new : (t : Holding) (s : List (Option Passed)) (n : ℕ) → count_of t ≡ n + 1 → length s ≡ n → ((k : ℕ) → get_or s k None ≡ None) →
    AreShown (showing t None s)
shown-new t s n c l h = record {
  spare = c ∙ ap (λ m. m + 1) (sym l);
  now = none-passed t.vregs;
  tables = λ k. subst (λ (o : Option Passed). ListsPassed t.vregs o) (sym (h k)) (none-passed t.vregs);
}

-- tables that hold nothing show nothing
pub shown-empty : (t : Holding) (p : Option Passed) (s : List (Option Passed)) → ((k i y : ℕ) → holds_in t k i y ≡ false) → (k i y : ℕ) →
    shows_in (showing t p s) k i y ≡ false
shown-empty t p s h k i y = ap (λ b. nat_lt k (length s) && b) (h k i (read_as t.vregs (get_or s k None) y)) ∙ and-false (nat_lt k (length s))

-- the bits of a parameter are read as its argument's
pub read-here : (vs : List ℕ) (p : Passed) (y : ℕ) → y ≡ get_or vs p.parameter 0 → read_as vs (Some p) y ≡ get_or vs p.argument 0
read-here vs p y e = read-some vs p y ∙ ap (λ b. if b then get_or vs p.argument 0 else y) (eq-eqb y (get_or vs p.parameter 0) e)

-- bits other than the parameter's are read as they are
pub read-other : (vs : List ℕ) (p : Passed) (y : ℕ) → (y ≡ get_or vs p.parameter 0 → ⊥) → read_as vs (Some p) y ≡ y
read-other vs p y n = read-some vs p y ∙ ap (λ b. if b then get_or vs p.argument 0 else y) (apart y (get_or vs p.parameter 0) n)

-- holders of places below a bound are below the bound
pub holders-within : (hs : List ℕ) (n : ℕ) (f : ℕ → Bool) → ((i : ℕ) → is_in hs i ≡ (nat_lt i n && f i)) → (i : ℕ) → is_in hs i ≡ true → i < n
holders-within hs n f h i e = elim (cases_lt i n) [
  | inl l ↦ l
  | inr g ↦ absurd (not_both (is_in hs i) e (h i ∙ ap (λ b. b && f i) (le-ltb i n g)))
]

-- what is shown is what tables hold, since nothing is passed
pub record IsBare (v : Showing) (t : Holding) : Type 0 where
  pub places : t.places ≡ v.places
  pub vregs : t.vregs ≡ v.vregs
  pub now : (i y : ℕ) → i < length v.places → holds_now t i y ≡ shows_now v i y

-- what is shown is what tables hold, once what was passed is noted
pub settled-bare : (v w : Showing) (t : Holding) (p : Option Passed) (s : List (Option Passed)) → showing t p s ≡ w → w.passed ≡ None → AreTablesKept v w →
    ShowsNow w (shows_now v) → IsBare v t
settled-bare v w t p s e none kept now = record {
  places = ap (λ (o : Showing). o.places) e ∙ kept.places;
  vregs = ap (λ (o : Showing). o.vregs) e ∙ kept.vregs;
  now = λ i y l.
      ap (holds_now t i) (sym (read-none t.vregs y))
      ∙ ap (λ (o : Option Passed). holds_now t i (read_as t.vregs o y)) (sym (ap (λ (o : Showing). o.passed) e ∙ none))
      ∙ ap (λ (o : Showing). shows_now o i y) e ∙ now i y (subst (λ (ps : List ℕ). i < length ps) (sym kept.places) l);
}

-- tables that are kept over a step on what is inside are kept
pub inside-kept : (v w : Showing) (t u : Holding) (p q : Option Passed) (s : List (Option Passed)) → showing t p s ≡ w → AreTablesKept v w →
    AreKeptTables t u → AreTablesKept v (showing u q s)
inside-kept v w t u p q s e h k =
    shown-then v w (showing u q s) h (subst (λ (o : Showing). AreTablesKept o (showing u q s)) e (kept-shown t u p q s k))

-- a table's number is one inside, and is not that of the spare one
pub inside-table : (v : Showing) (t : Holding) (p : Option Passed) (s : List (Option Passed)) (table : ℕ) → showing t p s ≡ v → table < table_count v →
    table < length s
inside-table v t p s table e l = subst (λ (o : Showing). table < table_count o) (sym e) l

-- a table that is loaded shows what it showed
pub loaded-shown : (t u : Holding) (p q : Option Passed) (s : List (Option Passed)) (table : ℕ) → table < length s → q ≡ get_or s table None →
    u.places ≡ t.places → u.vregs ≡ t.vregs → HoldsNow u (holds_in t table) → ShowsNow (showing u q s) (shows_in (showing t p s) table)
loaded-shown t u p q s table less is e d h i y l =
    ap (λ (vs : List ℕ). holds_now u i (read_as vs q y)) d ∙ h i (read_as t.vregs q y) l
    ∙ ap (λ (o : Option Passed). holds_in t table i (read_as t.vregs o y)) is
    ∙ sym (if-below table (length s) (holds_in t table i (read_as t.vregs (get_or s table None) y)) less)

-- what is shown is what is held, and some bits are read as themselves
pub record IsSeen (v : Showing) (t : Holding) (p : Option Passed) (n : ℕ) : Type 0 where
  pub places : t.places ≡ v.places
  pub vregs : t.vregs ≡ v.vregs
  pub now : (i y : ℕ) → i < length v.places → holds_now t i (read_as t.vregs p y) ≡ shows_now v i y
  pub read : (y : ℕ) → nat_eq (read_as t.vregs p y) n ≡ nat_eq y n

-- some bits are read as themselves once what was passed is noted, where the parameter or the argument has them
pub settled-seen : (v w : Showing) (t : Holding) (p : Option Passed) (s : List (Option Passed)) (k : ℕ) → showing t p s ≡ w → AreTablesKept v w →
    ShowsNow w (shows_now v) → IsReadApart w.vregs w.passed (get_or v.vregs k 0) → IsSeen v t p (get_or v.vregs k 0)
settled-seen v w t p s k e kept now read = record {
  places = ap (λ (o : Showing). o.places) e ∙ kept.places;
  vregs = ap (λ (o : Showing). o.vregs) e ∙ kept.vregs;
  now = λ i y l. ap (λ (o : Showing). shows_now o i y) e ∙ now i y (subst (λ (ps : List ℕ). i < length ps) (sym kept.places) l);
  read = λ y. ap (λ (o : Showing). nat_eq (read_as o.vregs o.passed y) (get_or v.vregs k 0)) e ∙ read y;
}

-- bits that are neither a parameter's nor its argument's are read as themselves
pub read-apart : (vs : List ℕ) (p : Passed) (n y : ℕ) → (n ≡ get_or vs p.parameter 0 → ⊥) → (n ≡ get_or vs p.argument 0 → ⊥) →
    nat_eq (read_as vs (Some p) y) n ≡ nat_eq y n
read-apart vs p n y np na = elim (cases_eq y (get_or vs p.parameter 0)) [
  | inl e ↦ ap (λ k. nat_eq k n) (read-here vs p y e) ∙ apart (get_or vs p.argument 0) n (λ q. na (sym q)) ∙ sym (apart y n (λ q. np (sym q ∙ e)))
  | inr d ↦ ap (λ k. nat_eq k n) (read-other vs p y d)
]

-- where nothing is passed all are
pub none-apart : (vs : List ℕ) (o : Option Passed) (n : ℕ) → o ≡ None → IsReadApart vs o n
none-apart vs o n e y = ap (λ (q : Option Passed). nat_eq (read_as vs q y) n) e ∙ ap (λ k. nat_eq k n) (read-none vs y)

-- what is shown stays where nothing changes
pub shown-same : (v : Showing) → AreTablesKept v v
shown-same v = record { places = refl; vregs = refl; count = refl; tables = λ k i y l. refl }

-- with a vreg taken out of what is shown
pub forgotten-shown : (v : Showing) (t u : Holding) (p : Option Passed) (s : List (Option Passed)) (n m : ℕ) → IsSeen v t p m → AreKeptTables t u → n ≡ m →
    HoldsNow u (λ i y. if nat_eq y n then false else holds_now t i y) → ShowsNow (showing u p s) (λ i y. if nat_eq y m then false else shows_now v i y)
forgotten-shown v t u p s n m b k d h i y l =
    now-shown t u p s (λ j z. if nat_eq z n then false else holds_now t j z) k.vregs h i y l
    ∙ ap (λ x. if nat_eq (read_as t.vregs p y) x then false else holds_now t i (read_as t.vregs p y)) d
    ∙ ap (λ x. if x then false else holds_now t i (read_as t.vregs p y)) (b.read y)
    ∙ ap (λ x. if nat_eq y m then false else x) (b.now i y (subst (λ (ps : List ℕ). i < length ps) (k.places ∙ b.places) l))

-- with one defined
pub defined-shown : (v : Showing) (t u : Holding) (p : Option Passed) (s : List (Option Passed)) (n m place : ℕ) → IsSeen v t p m → AreKeptTables t u →
    n ≡ m → HoldsNow u (λ i y. if nat_eq i place then nat_eq y n else (if nat_eq y n then false else holds_now t i y)) →
    ShowsNow (showing u p s) (λ i y. if nat_eq i place then nat_eq y m else (if nat_eq y m then false else shows_now v i y))
defined-shown v t u p s n m place b k d h i y l =
    now-shown t u p s (λ j z. if nat_eq j place then nat_eq z n else (if nat_eq z n then false else holds_now t j z)) k.vregs h i y l
    ∙ ap (λ x. if nat_eq i place then nat_eq (read_as t.vregs p y) x
    else (if nat_eq (read_as t.vregs p y) x then false else holds_now t i (read_as t.vregs p y))) d
    ∙ ap (λ x. if nat_eq i place then x else (if x then false else holds_now t i (read_as t.vregs p y))) (b.read y)
    ∙ ap (λ x. if nat_eq i place then nat_eq y m else (if nat_eq y m then false else x))
    (b.now i y (subst (λ (ps : List ℕ). i < length ps) (k.places ∙ b.places) l))

-- with one given places
pub given-shown : (v : Showing) (t u : Holding) (p : Option Passed) (s : List (Option Passed)) (n m : ℕ) (places : List ℕ) → IsSeen v t p m →
    AreKeptTables t u → n ≡ m → HoldsNow u (λ i y. if nat_eq y n then is_in places i else holds_now t i y) →
    ShowsNow (showing u p s) (λ i y. if nat_eq y m then is_in places i else shows_now v i y)
given-shown v t u p s n m places b k d h i y l =
    now-shown t u p s (λ j z. if nat_eq z n then is_in places j else holds_now t j z) k.vregs h i y l
    ∙ ap (λ x. if nat_eq (read_as t.vregs p y) x then is_in places i else holds_now t i (read_as t.vregs p y)) d
    ∙ ap (λ x. if x then is_in places i else holds_now t i (read_as t.vregs p y)) (b.read y)
    ∙ ap (λ x. if nat_eq y m then is_in places i else x) (b.now i y (subst (λ (ps : List ℕ). i < length ps) (k.places ∙ b.places) l))

-- a parameter that is passed shows what its argument did
pub passed-shown : (v : Showing) (t : Holding) (p : Passed) (s : List (Option Passed)) → IsBare v t →
    ShowsNow (showing t (Some p) s) (λ i y. shows_now v i (if nat_eq y (get_or v.vregs p.parameter 0) then get_or v.vregs p.argument 0 else y))
passed-shown v t p s b i y l =
    ap (holds_now t i) (read-some t.vregs p y)
    ∙ ap (λ (vs : List ℕ). holds_now t i (if nat_eq y (get_or vs p.parameter 0) then get_or vs p.argument 0 else y)) b.vregs
    ∙ b.now i (if nat_eq y (get_or v.vregs p.parameter 0) then get_or v.vregs p.argument 0 else y)
    (subst (λ (ps : List ℕ). i < length ps) b.places l)

-- what is shown, in a table too, is what tables hold
pub record IsBareIn (v : Showing) (t : Holding) (p : Option Passed) (s : List (Option Passed)) (table : ℕ) : Type 0 where
  pub less : table < length s
  pub none : p ≡ None
  pub bare_here : get_or s table None ≡ None
  pub count : length s ≡ table_count v
  pub places : t.places ≡ v.places
  pub vregs : t.vregs ≡ v.vregs
  pub now : (i y : ℕ) → i < length v.places → shows_now (showing t p s) i y ≡ shows_now v i y
  pub tables : (k i y : ℕ) → i < length v.places → shows_in (showing t p s) k i y ≡ shows_in v k i y

-- what is shown, in a table too, is what tables hold, once both are settled
pub both-bare : (v w x : Showing) (t : Holding) (p : Option Passed) (s : List (Option Passed)) (table : ℕ) → showing t p s ≡ x → table < table_count v →
    AreTablesKept v w → ShowsNow w (shows_now v) → w.passed ≡ None → x.places ≡ w.places → x.vregs ≡ w.vregs → table_count x ≡ table_count w →
    x.passed ≡ w.passed → ShowsNow x (shows_now w) →
    ((k i y : ℕ) → i < length w.places → shows_in x k i y ≡ shows_in w k i y) → get_or x.saved table None ≡ None → IsBareIn v t p s table
both-bare v w x t p s table e less kept now none ep ev ec eo xnow xtables xnone =
    let n : length s ≡ table_count v = ap (λ (o : Showing). table_count o) e ∙ ec ∙ kept.count in
    let inw : (i : ℕ) → i < length v.places → i < length w.places = λ i l. subst (λ (ps : List ℕ). i < length ps) (sym kept.places) l in
    record {
      less = subst (λ m. table < m) (sym n) less;
      none = ap (λ (o : Showing). o.passed) e ∙ eo ∙ none;
      bare_here = ap (λ (o : Showing). get_or o.saved table None) e ∙ xnone;
      count = n;
      places = ap (λ (o : Showing). o.places) e ∙ ep ∙ kept.places;
      vregs = ap (λ (o : Showing). o.vregs) e ∙ ev ∙ kept.vregs;
      now = λ i y l. ap (λ (o : Showing). shows_now o i y) e
          ∙ xnow i y (subst (λ (ps : List ℕ). i < length ps) (sym ep) (inw i l)) ∙ now i y (inw i l);
      tables = λ k i y l. ap (λ (o : Showing). shows_in o k i y) e ∙ xtables k i y (inw i l) ∙ kept.tables k i y l;
    }

-- what bare tables hold now is what is shown
pub now-bare : (v : Showing) (t : Holding) (p : Option Passed) (s : List (Option Passed)) (table i y : ℕ) → IsBareIn v t p s table → i < length v.places →
    holds_now t i y ≡ shows_now v i y
now-bare v t p s table i y b l =
    ap (holds_now t i) (sym (read-none t.vregs y)) ∙ ap (λ (o : Option Passed). holds_now t i (read_as t.vregs o y)) (sym b.none) ∙ b.now i y l

-- what bare tables hold in the table is what is shown there
pub in-bare : (v : Showing) (t : Holding) (p : Option Passed) (s : List (Option Passed)) (table i y : ℕ) → IsBareIn v t p s table → i < length v.places →
    holds_in t table i y ≡ shows_in v table i y
in-bare v t p s table i y b l =
    ap (holds_in t table i) (sym (read-none t.vregs y))
    ∙ ap (λ (o : Option Passed). holds_in t table i (read_as t.vregs o y)) (sym b.bare_here)
    ∙ sym (if-below table (length s) (holds_in t table i (read_as t.vregs (get_or s table None) y)) b.less) ∙ b.tables table i y l

-- a meet of bare tables is one of what is shown
pub met-bare : (v : Showing) (t u : Holding) (p : Option Passed) (s : List (Option Passed)) (table : ℕ) → IsBareIn v t p s table → u.vregs ≡ t.vregs →
    ((k i y : ℕ) → i < length t.places → holds_in u k i y ≡ (if nat_eq k table then holds_in t k i y && holds_now t i y else holds_in t k i y)) →
    (k i y : ℕ) → i < length v.places →
    shows_in (showing u p s) k i y ≡ (if nat_eq k table then shows_in v k i y && shows_now v i y else shows_in v k i y)
met-bare v t u p s table b e h k i y l =
    met-shown t u p s table b.none b.less b.bare_here e h k i y (subst (λ (ps : List ℕ). i < length ps) (sym b.places) l)
    ∙ ap (λ x. if nat_eq k table then x && shows_now (showing t p s) i y else x) (b.tables k i y l)
    ∙ ap (λ x. if nat_eq k table then shows_in v k i y && x else shows_in v k i y) (b.now i y l)

-- where bare tables lose some, so does what is shown
pub less-bare : (v : Showing) (t : Holding) (p : Option Passed) (s : List (Option Passed)) (table : ℕ) (less : Bool) → IsBareIn v t p s table →
    OnTrue less (LosesSome (length t.places) (holds_in t table) (holds_now t)) → OnTrue less (LosesSome (length v.places) (shows_in v table) (shows_now v))
less-bare v t p s table true b h =
    let l : h.place < length v.places = subst (λ (ps : List ℕ). h.place < length ps) b.places h.place_small in
    record {
      place = h.place;
      bits = h.bits;
      place_small = l;
      bits_small = h.bits_small;
      here = sym (in-bare v t p s table h.place h.bits b l) ∙ h.here;
      not_there = sym (now-bare v t p s table h.place h.bits b l) ∙ h.not_there;
    }
less-bare v t p s table false b h = tt

-- where bare tables lose none, nothing shown is lost
pub same-bare : (v : Showing) (t : Holding) (p : Option Passed) (s : List (Option Passed)) (table : ℕ) (less : Bool) → IsBareIn v t p s table →
    OnFalse less ((i y : ℕ) → i < length t.places → holds_in t table i y ≡ true → holds_now t i y ≡ true) →
    OnFalse less ((i y : ℕ) → i < length v.places → shows_in v table i y ≡ true → shows_now v i y ≡ true)
same-bare v t p s table true b h = tt
same-bare v t p s table false b h = λ i y l is.
    sym (now-bare v t p s table i y b l)
    ∙ h i y (subst (λ (ps : List ℕ). i < length ps) (sym b.places) l) (in-bare v t p s table i y b l ∙ is)

-- what holds of a success holds of it in other words
pub on_ok_with : {T E : Type 0} (P Q : Type 0) (r : Result T E) → (P → Q) → OnOk r P → OnOk r Q
on_ok_with P Q (Ok x) f h = f h
on_ok_with P Q (Err e) f h = tt

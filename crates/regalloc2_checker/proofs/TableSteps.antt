-- Steps of tables are steps of facts.
use Rattle.std.proofs.Common.{ℕ, zero, suc, ◌≡◌, ◌≢◌, ◌+◌, ◌<◌, arith, Bool, true, false, cond, nat_eq}
use Rattle.std.proofs.Common.{nat_lt, eq-eqb, eqb-true, ne_eqb, List, [], ◌∷◌, length, get_or, refl, sym, ap, ◌∙◌, subst}
use Rattle.std.specs.Prelude.{◌&&◌, not, Contains, Option, None, Some}
use Rattle.std.specs.List.{position, position_or_len, prefix_len}
use Rattle.std.proofs.lemmas.Bool.Decides.{nat_tests}
use Rattle.std.proofs.Math.Bool.{and-false}
use Rattle.regalloc2_index.proofs.Bools.{equal_tests}
use Rattle.regalloc2_names.specs.Register.{VirtualRegister, is_vreg}
use Rattle.regalloc2_names.specs.RegisterBits.{bits_of_vreg, vreg_of_bits}
use Rattle.regalloc2_names.specs.Place.{Place, NoPlace, InRegister, InSlot, is_place}
use Rattle.regalloc2_names.specs.PlaceBits.{bits_of_place, place_of_bits}
use Rattle.regalloc2_checker.specs.Holding.{is_in}
use Rattle.regalloc2_checker.specs.Showing.{Showing, shows_now, shows_in, AreTablesKept, ShowsNow}
use Rattle.regalloc2_checker.proofs.Positions.{at-position}
use Rattle.regalloc2_checker.specs.Facts.{Facts, placed, defined, renaming}
use Rattle.regalloc2_checker.specs.TableFacts.{is_packed, is_packed_vreg, place_in, vreg_in, held_at}
use Rattle.regalloc2_checker.specs.TableFacts.{facts_in, facts_now, facts_table, IsMissingUnlisted, IsListed}
use Rattle.regalloc2_checker.specs.Renamed.{stands_in, given_to, facts_renamed, HoldersAre}
use Rattle.regalloc2_names.specs.Same.{is_place-true, is_place-same, is_vreg-true, is_vreg-same}
use Rattle.regalloc2_checker.proofs.Keys.{vreg_back}

-- facts that agree everywhere are one
pub one-facts : (F G : Facts) → ((p : Place) (v : VirtualRegister) → F p v ≡ G p v) → F ≡ G
one-facts F G h = λ i p v. h p v i

-- a fact, by the position of its place
pub facts-at : (places : List ℕ) (has : ℕ → ℕ → Bool) (p : Place) (v : VirtualRegister) (o : Option ℕ) → place_in places p ≡ o →
    facts_in places has p v ≡ (is_packed p && (is_packed_vreg v && held_at o has (bits_of_vreg v)))
unfolding facts_in
facts-at places has p v o e = ap (λ (x : Option ℕ). is_packed p && (is_packed_vreg v && held_at x has (bits_of_vreg v))) e

-- no place that isn't listed holds anything
pub unlisted-holds : (places : List ℕ) (has : ℕ → ℕ → Bool) (p : Place) (v : VirtualRegister) → place_in places p ≡ None → facts_in places has p v ≡ false
unlisted-holds places has p v e =
    facts-at places has p v None e ∙ ap (λ b. is_packed p && b) (and-false (is_packed_vreg v)) ∙ and-false (is_packed p)

unpacked-holds : (places : List ℕ) (has : ℕ → ℕ → Bool) (p : Place) (v : VirtualRegister) → is_packed p ≡ false → facts_in places has p v ≡ false
unpacked-holds places has p v e =
    facts-at places has p v (place_in places p) refl
    ∙ ap (λ b. b && (is_packed_vreg v && held_at (place_in places p) has (bits_of_vreg v))) e

-- what is held at the listed positions decides the facts
pub facts_in-same : (places : List ℕ) (has have : ℕ → ℕ → Bool) → ((i y : ℕ) → i < length places → has i y ≡ have i y) →
    facts_in places has ≡ facts_in places have
facts_in-same places has have h = one-facts (facts_in places has) (facts_in places have) (λ p v. by_position p v (place_in places p) refl)
  where
    by_position : (p : Place) (v : VirtualRegister) (o : Option ℕ) → place_in places p ≡ o → facts_in places has p v ≡ facts_in places have p v
    by_position p v None e = facts-at places has p v None e ∙ sym (facts-at places have p v None e)
    by_position p v (Some i) e =
        facts-at places has p v (Some i) e
        ∙ ap (λ b. is_packed p && (is_packed_vreg v && b)) (h i (bits_of_vreg v) (at-position places (bits_of_place p) i e).0)
        ∙ sym (facts-at places have p v (Some i) e)

-- the facts of the current table, where what it holds is known
pub now-as : (t u : Showing) (has : ℕ → ℕ → Bool) → u.places ≡ t.places → ShowsNow u has → facts_now u ≡ facts_in t.places has
now-as t u has e h =
    ap (λ (ps : List ℕ). facts_in ps (shows_now u)) e
    ∙ facts_in-same t.places (shows_now u) has (λ i y less. h i y (subst (λ (ps : List ℕ). i < length ps) (sym e) less))

-- a table that is kept has the facts that it had
pub table-kept : (t u : Showing) (k : ℕ) → AreTablesKept t u → facts_table u k ≡ facts_table t k
table-kept t u k h =
    ap (λ (ps : List ℕ). facts_in ps (shows_in u k)) h.places ∙ facts_in-same t.places (shows_in u k) (shows_in t k) (λ i y less. h.tables k i y less)

-- tables that are kept twice are kept
pub kept-twice : (t u w : Showing) → AreTablesKept t u → AreTablesKept u w → AreTablesKept t w
kept-twice t u w a b = record {
  places = b.places ∙ a.places;
  vregs = b.vregs ∙ a.vregs;
  count = b.count ∙ a.count;
  tables = λ k i y less. b.tables k i y (subst (λ (ps : List ℕ). i < length ps) (sym a.places) less) ∙ a.tables k i y less;
}

-- tables that stay are kept
pub kept-same : (t : Showing) → AreTablesKept t t
kept-same t = record { places = refl; vregs = refl; count = refl; tables = λ k i y less. refl }

step-true : (b : Bool) (n m : ℕ) → b ≡ true → cond (not b) (1 + n) 0 < suc m
step-true true n m h = omega arith
step-true false n m h = absurd cc

step-false : (b : Bool) (n m : ℕ) → n < m → cond (not b) (1 + n) 0 < suc m
step-false true n m l = omega arith
step-false false n m l = omega arith

-- a number that is listed has a position
position-below : (xs : List ℕ) (x k : ℕ) → k < length xs → get_or xs k x ≡ x → position_or_len (λ n. nat_eq n x) xs < length xs
position-below [] x k less e = absurd (omega arith)
position-below (z ∷ xs) x zero less e = step-true (nat_eq z x) (prefix_len (λ n. not (nat_eq n x)) xs) (length xs) (eq-eqb z x e)
position-below (z ∷ xs) x (suc k) less e =
    let r : position_or_len (λ n. nat_eq n x) xs < length xs = position-below xs x k (omega arith) e in
    step-false (nat_eq z x) (prefix_len (λ n. not (nat_eq n x)) xs) (length xs) r

-- a number without a position isn't listed
pub not-found : (xs : List ℕ) (x : ℕ) → position (λ n. nat_eq n x) xs ≡ None → Contains xs x → ⊥
not-found xs x e (k, less, at) =
    let l : position_or_len (λ n. nat_eq n x) xs < length xs = position-below xs x k less at in
    by_test (nat_lt (position_or_len (λ n. nat_eq n x) xs) (length xs)) (is-below _ _ l) e
  where
    is-below : (m n : ℕ) → m < n → nat_lt m n ≡ true
    is-below m n l = grind (arith, nat_tests)

    by_test : (b : Bool) → b ≡ true → cond b (Some (position_or_len (λ n. nat_eq n x) xs)) None ≡ None → ⊥
    by_test true h g = absurd cc
    by_test false h g = absurd cc

-- bits of vregs tell them apart
pub vreg-bits : (u v : VirtualRegister) → nat_eq (bits_of_vreg v) (bits_of_vreg u) ≡ is_vreg u v
vreg-bits u v = equal_tests _ _
    (λ h. let e : bits_of_vreg v ≡ bits_of_vreg u = eqb-true _ _ h in
    let f : u ≡ v = sym (vreg_back u) ∙ ap vreg_of_bits (sym e) ∙ vreg_back v in
    subst (λ (w : VirtualRegister). is_vreg u w ≡ true) f (is_vreg-same u))
    (λ h. eq-eqb _ _ (sym (ap bits_of_vreg (is_vreg-true u v h))))

-- a place that isn't missing gets facts
pub placed-at : (p : Place) (x : VirtualRegister → Bool) (F : Facts) (q : Place) (v : VirtualRegister) → p ≢ NoPlace →
    placed p x F q v ≡ cond (is_place p q) (x v) (F q v)
unfolding placed
placed-at NoPlace x F q v h = absurd (h refl)
placed-at (InRegister r) x F q v h = refl
placed-at (InSlot n) x F q v h = refl

no-bits : bits_of_place NoPlace ≡ 0
unfolding bits_of_place
no-bits = refl

-- a place with a position isn't missing
pub listed-there : (places : List ℕ) (p : Place) (i : ℕ) → IsMissingUnlisted places → place_in places p ≡ Some i → p ≢ NoPlace
listed-there places p i none at e =
    let a = at-position places (bits_of_place p) i at in
    let z : get_or places i 0 ≡ 0 = a.1 ∙ ap bits_of_place e ∙ no-bits in
    none (i, a.0, z)

module _ (places : List ℕ) (has have : ℕ → ℕ → Bool) (to : Place) (i : ℕ) (x : ℕ → Bool) (X : VirtualRegister → Bool) (at : place_in places to ≡ Some i)
    (packed : is_packed to ≡ true) (some : to ≢ NoPlace)
    (h : (j y : ℕ) → j < length places → have j y ≡ cond (nat_eq j i) (x y) (has j y))
    (hx : (v : VirtualRegister) → X v ≡ (is_packed_vreg v && x (bits_of_vreg v))) where
  here : (v : VirtualRegister) → facts_in places have to v ≡ X v
  here v =
      facts-at places have to v (Some i) at ∙ ap (λ b. b && (is_packed_vreg v && have i (bits_of_vreg v))) packed
      ∙ ap (λ b. is_packed_vreg v && b) (h i (bits_of_vreg v) (at-position places (bits_of_place to) i at).0
      ∙ ap (λ b. cond b (x (bits_of_vreg v)) (has i (bits_of_vreg v))) (eq-eqb i i refl))
      ∙ sym (hx v)

  elsewhere : (q : Place) (j : ℕ) → is_packed q ≡ true → is_place to q ≡ false → place_in places q ≡ Some j → j ≡ i → ⊥
  elsewhere q j k e m same =
      let a = (at-position places (bits_of_place q) j m).1 in
      let b = (at-position places (bits_of_place to) i at).1 in
      let d : bits_of_place to ≡ bits_of_place q = sym b ∙ ap (λ (n : ℕ). get_or places n 0) (sym same) ∙ a in
      let f : to ≡ q = sym (is_place-true _ _ packed) ∙ ap place_of_bits d ∙ is_place-true _ _ k in
      let g : is_place to q ≡ true = subst (λ (w : Place). is_place to w ≡ true) f (is_place-same to) in
      absurd cc

  there : (q : Place) (v : VirtualRegister) → is_place to q ≡ false → facts_in places have q v ≡ facts_in places has q v
  there q v e = by_position (is_packed q) refl (place_in places q) refl
    where
      by_position : (b : Bool) → is_packed q ≡ b → (o : Option ℕ) → place_in places q ≡ o → facts_in places have q v ≡ facts_in places has q v
      by_position false k o m = unpacked-holds places have q v k ∙ sym (unpacked-holds places has q v k)
      by_position true k None m = facts-at places have q v None m ∙ sym (facts-at places has q v None m)
      by_position true k (Some j) m =
          facts-at places have q v (Some j) m
          ∙ ap (λ b. is_packed q && (is_packed_vreg v && b)) (h j (bits_of_vreg v) (at-position places (bits_of_place q) j m).0
          ∙ ap (λ b. cond b (x (bits_of_vreg v)) (has j (bits_of_vreg v))) (ne_eqb j i (elsewhere q j k e m)))
          ∙ sym (facts-at places has q v (Some j) m)

  -- a listed place that gets other bits gets other facts
  pub placed-is : facts_in places have ≡ placed to X (facts_in places has)
  placed-is = one-facts (facts_in places have) (placed to X (facts_in places has)) (λ q v. by_test q v (is_place to q) refl)
    where
      by_test : (q : Place) (v : VirtualRegister) (b : Bool) → is_place to q ≡ b → facts_in places have q v ≡ placed to X (facts_in places has) q v
      by_test q v true e = subst (λ (w : Place). facts_in places have w v ≡ placed to X (facts_in places has) w v) (is_place-true to q e)
          (here v ∙ sym (placed-at to X (facts_in places has) to v some ∙ ap (λ b. cond b (X v) (facts_in places has to v)) (is_place-same to)))
      by_test q v false e = there q v e ∙ sym (placed-at to X (facts_in places has) q v some ∙ ap (λ b. cond b (X v) (facts_in places has q v)) e)

-- a place is emptied
pub cleared-is : (t u : Showing) (p : Place) (i : ℕ) → IsMissingUnlisted t.places → place_in t.places p ≡ Some i → is_packed p ≡ true → u.places ≡ t.places →
    ShowsNow u (λ j y. cond (nat_eq j i) false (shows_now t j y)) → facts_now u ≡ placed p (λ v. false) (facts_now t)
cleared-is t u p i none at packed e h =
    let has : ℕ → ℕ → Bool = λ j y. cond (nat_eq j i) false (shows_now t j y) in
    now-as t u has e h
    ∙ placed-is t.places (shows_now t) has p i (λ y. false) (λ v. false) at packed (listed-there t.places p i none at) (λ j y less. refl)
    (λ v. sym (and-false (is_packed_vreg v)))

-- a place that isn't listed is empty
pub cleared-unlisted : (places : List ℕ) (has : ℕ → ℕ → Bool) (p : Place) → place_in places p ≡ None → facts_in places has ≡ placed p (λ v. false)
    (facts_in places has)
unfolding placed
cleared-unlisted places has NoPlace e = refl
cleared-unlisted places has (InRegister r) e = one-facts _ _ (λ q v. empty_at places has (InRegister r) q v e (is_place (InRegister r) q) refl)
  where
    empty_at : (places : List ℕ) (has : ℕ → ℕ → Bool) (p q : Place) (v : VirtualRegister) → place_in places p ≡ None → (b : Bool) → is_place p q ≡ b →
        facts_in places has q v ≡ cond (is_place p q) false (facts_in places has q v)
    empty_at places has p q v e true h =
        subst (λ (w : Place). facts_in places has w v ≡ false) (is_place-true p q h) (unlisted-holds places has p v e)
        ∙ sym (ap (λ b. cond b false (facts_in places has q v)) h)
    empty_at places has p q v e false h = sym (ap (λ b. cond b false (facts_in places has q v)) h)
cleared-unlisted places has (InSlot n) e = one-facts _ _ (λ q v. empty_at places has (InSlot n) q v e (is_place (InSlot n) q) refl)
  where
    empty_at : (places : List ℕ) (has : ℕ → ℕ → Bool) (p q : Place) (v : VirtualRegister) → place_in places p ≡ None → (b : Bool) → is_place p q ≡ b →
        facts_in places has q v ≡ cond (is_place p q) false (facts_in places has q v)
    empty_at places has p q v e true h =
        subst (λ (w : Place). facts_in places has w v ≡ false) (is_place-true p q h) (unlisted-holds places has p v e)
        ∙ sym (ap (λ b. cond b false (facts_in places has q v)) h)
    empty_at places has p q v e false h = sym (ap (λ b. cond b false (facts_in places has q v)) h)

-- a place that is listed unless it is missing is missing, if it has no position
pub placed-missing : (places : List ℕ) (p : Place) (x : VirtualRegister → Bool) (F : Facts) → place_in places p ≡ None → IsListed places p → F ≡ placed p x F
unfolding placed
placed-missing places NoPlace x F e h = refl
placed-missing places (InRegister r) x F e h = absurd (not-found places (bits_of_place (InRegister r)) e (h (λ d. absurd cc)))
placed-missing places (InSlot n) x F e h = absurd (not-found places (bits_of_place (InSlot n)) e (h (λ d. absurd cc)))

-- a place gets what another holds
pub moved-is : (t u : Showing) (from to : Place) (j i : ℕ) → IsMissingUnlisted t.places → place_in t.places from ≡ Some j → is_packed from ≡ true →
    place_in t.places to ≡ Some i → is_packed to ≡ true → u.places ≡ t.places →
    ShowsNow u (λ k y. cond (nat_eq k i) (shows_now t j y) (shows_now t k y)) → facts_now u ≡ placed to (facts_now t from) (facts_now t)
moved-is t u from to j i none atf pf at packed e h =
    let has : ℕ → ℕ → Bool = λ k y. cond (nat_eq k i) (shows_now t j y) (shows_now t k y) in
    now-as t u has e h
    ∙ placed-is t.places (shows_now t) has to i (shows_now t j) (facts_now t from) at packed (listed-there t.places to i none at) (λ k y less. refl)
    (λ v. facts-at t.places (shows_now t) from v (Some j) atf ∙ ap (λ b. b && (is_packed_vreg v && shows_now t j (bits_of_vreg v))) pf)

-- a place gets nothing, where the place that is copied isn't listed
pub moved-unlisted : (t u : Showing) (from to : Place) (i : ℕ) → IsMissingUnlisted t.places → place_in t.places from ≡ None →
    place_in t.places to ≡ Some i → is_packed to ≡ true → u.places ≡ t.places →
    ShowsNow u (λ j y. cond (nat_eq j i) false (shows_now t j y)) → facts_now u ≡ placed to (facts_now t from) (facts_now t)
moved-unlisted t u from to i none atf at packed e h =
    let same : (λ (v : VirtualRegister). false) ≡ facts_now t from = λ k v. sym (unlisted-holds t.places (shows_now t) from v atf) k in
    cleared-is t u to i none at packed e h ∙ ap (λ (x : VirtualRegister → Bool). placed to x (facts_now t)) same

kept-false : (b x : Bool) → x ≡ false → cond b false x ≡ false
kept-false true x e = refl
kept-false false x e = e

-- a vreg is in no place any more
forgotten-in : (places : List ℕ) (has have : ℕ → ℕ → Bool) (u : VirtualRegister) → ((j y : ℕ) → have j y ≡ cond (nat_eq y (bits_of_vreg u)) false (has j y)) →
    facts_in places have ≡ (λ q v. cond (is_vreg u v) false (facts_in places has q v))
forgotten-in places has have u h = one-facts _ _ (λ q v. by_position q v (place_in places q) refl)
  where
    and-cond : (b a x y : Bool) → y ≡ cond b false x → (a && y) ≡ cond b false (a && x)
    and-cond true a x y e = rw e (and-false a)
    and-cond false a x y e = rw e refl

    by_position : (q : Place) (v : VirtualRegister) (o : Option ℕ) → place_in places q ≡ o →
        facts_in places have q v ≡ cond (is_vreg u v) false (facts_in places has q v)
    by_position q v None e =
        unlisted-holds places have q v e ∙ sym (kept-false (is_vreg u v) (facts_in places has q v) (unlisted-holds places has q v e))
    by_position q v (Some j) e =
        facts-at places have q v (Some j) e
        ∙ and-cond (is_vreg u v) (is_packed q) (is_packed_vreg v && has j (bits_of_vreg v)) (is_packed_vreg v && have j (bits_of_vreg v))
        (and-cond (is_vreg u v) (is_packed_vreg v) (has j (bits_of_vreg v)) (have j (bits_of_vreg v))
        (h j (bits_of_vreg v) ∙ ap (λ b. cond b false (has j (bits_of_vreg v))) (vreg-bits u v)))
        ∙ sym (ap (λ b. cond (is_vreg u v) false b) (facts-at places has q v (Some j) e))

-- the bits at a vreg's position
pub bits-at : (vregs : List ℕ) (v : VirtualRegister) (j : ℕ) → vreg_in vregs v ≡ Some j → get_or vregs j 0 ≡ bits_of_vreg v
bits-at vregs v j e = (at-position vregs (bits_of_vreg v) j e).1

-- a vreg is forgotten
pub forgotten-is : (t u : Showing) (v : VirtualRegister) (j : ℕ) → vreg_in t.vregs v ≡ Some j → u.places ≡ t.places →
    ShowsNow u (λ i y. cond (nat_eq y (get_or t.vregs j 0)) false (shows_now t i y)) → facts_now u ≡ (λ q w. cond (is_vreg v w) false (facts_now t q w))
forgotten-is t u v j at e h =
    let has : ℕ → ℕ → Bool = λ i y. cond (nat_eq y (get_or t.vregs j 0)) false (shows_now t i y) in
    now-as t u has e h ∙ forgotten-in t.places (shows_now t) has v (λ i y. ap (λ n. cond (nat_eq y n) false (shows_now t i y)) (bits-at t.vregs v j at))

own-bits : (u v : VirtualRegister) (n : ℕ) → n ≡ bits_of_vreg u → is_packed_vreg u ≡ true → is_vreg u v ≡ (is_packed_vreg v && nat_eq (bits_of_vreg v) n)
own-bits u v n e packed = by_test (is_vreg u v) refl
  where
    there : nat_eq (bits_of_vreg v) n ≡ is_vreg u v
    there = ap (λ m. nat_eq (bits_of_vreg v) m) e ∙ vreg-bits u v

    by_test : (b : Bool) → is_vreg u v ≡ b → is_vreg u v ≡ (is_packed_vreg v && nat_eq (bits_of_vreg v) n)
    by_test true h =
        let p : is_packed_vreg v ≡ true = subst (λ (w : VirtualRegister). is_packed_vreg w ≡ true) (is_vreg-true u v h) packed in
        sym (ap (λ b. b && nat_eq (bits_of_vreg v) n) p ∙ there)
    by_test false h = h ∙ sym (ap (λ b. is_packed_vreg v && b) (there ∙ h) ∙ and-false (is_packed_vreg v))

-- a vreg is written to a place
pub defined-is : (t u : Showing) (p : Place) (v : VirtualRegister) (i j : ℕ) → IsMissingUnlisted t.places → place_in t.places p ≡ Some i → is_packed p ≡ true →
    vreg_in t.vregs v ≡ Some j → is_packed_vreg v ≡ true → u.places ≡ t.places →
    ShowsNow u (λ k y. cond (nat_eq k i) (nat_eq y (get_or t.vregs j 0)) (cond (nat_eq y (get_or t.vregs j 0)) false (shows_now t k y))) →
    facts_now u ≡ defined p v (facts_now t)
defined-is t u p v i j none at packed atv pv e h =
    let b : ℕ = get_or t.vregs j 0 in
    let rest : ℕ → ℕ → Bool = λ k y. cond (nat_eq y b) false (shows_now t k y) in
    let has : ℕ → ℕ → Bool = λ k y. cond (nat_eq k i) (nat_eq y b) (rest k y) in
    now-as t u has e h
    ∙ placed-is t.places rest has p i (λ y. nat_eq y b) (is_vreg v) at packed (listed-there t.places p i none at) (λ k y less. refl)
    (λ w. own-bits v w b (bits-at t.vregs v j atv) pv)
    ∙ ap (λ (F : Facts). placed p (is_vreg v) F)
    (forgotten-in t.places (shows_now t) rest v (λ k y. ap (λ n. cond (nat_eq y n) false (shows_now t k y)) (bits-at t.vregs v j atv)))

-- a vreg is written to a missing place
pub defined-nowhere : (t u : Showing) (p : Place) (v : VirtualRegister) (j : ℕ) → place_in t.places p ≡ None → IsListed t.places p →
    vreg_in t.vregs v ≡ Some j → u.places ≡ t.places →
    ShowsNow u (λ i y. cond (nat_eq y (get_or t.vregs j 0)) false (shows_now t i y)) → facts_now u ≡ defined p v (facts_now t)
defined-nowhere t u p v j at listed atv e h =
    forgotten-is t u v j atv e h ∙ placed-missing t.places p (is_vreg v) (λ q w. cond (is_vreg v w) false (facts_now t q w)) at listed

stands-at : (places positions : List ℕ) (q : Place) (o : Option ℕ) → place_in places q ≡ o →
    stands_in places positions q ≡ (is_packed q && held_at o (λ i y. is_in positions i) 0)
stands-at places positions q o e = ap (λ (x : Option ℕ). is_packed q && held_at x (λ i y. is_in positions i) 0) e

given-in : (places : List ℕ) (has have : ℕ → ℕ → Bool) (v : VirtualRegister) (positions : List ℕ) → is_packed_vreg v ≡ true →
    ((i y : ℕ) → have i y ≡ cond (nat_eq y (bits_of_vreg v)) (is_in positions i) (has i y)) →
    facts_in places have ≡ given_to v places positions (facts_in places has)
given-in places has have v positions packed h = one-facts _ _ (λ q w. by_position q w (place_in places q) refl (is_vreg v w) refl)
  where
    by_position : (q : Place) (w : VirtualRegister) (o : Option ℕ) → place_in places q ≡ o → (b : Bool) → is_vreg v w ≡ b →
        facts_in places have q w ≡ cond (is_vreg v w) (stands_in places positions q) (facts_in places has q w)
    by_position q w None e true k =
        unlisted-holds places have q w e
        ∙ sym (ap (λ b. cond b (stands_in places positions q) (facts_in places has q w)) k ∙ stands-at places positions q None e ∙ and-false (is_packed q))
    by_position q w None e false k =
        unlisted-holds places have q w e
        ∙ sym (ap (λ b. cond b (stands_in places positions q) (facts_in places has q w)) k ∙ unlisted-holds places has q w e)
    by_position q w (Some i) e true k =
        let p : is_packed_vreg w ≡ true = subst (λ (u : VirtualRegister). is_packed_vreg u ≡ true) (is_vreg-true v w k) packed in
        facts-at places have q w (Some i) e ∙ ap (λ b. is_packed q && (b && have i (bits_of_vreg w))) p
        ∙ ap (λ b. is_packed q && b)
        (h i (bits_of_vreg w) ∙ ap (λ b. cond b (is_in positions i) (has i (bits_of_vreg w))) (vreg-bits v w ∙ k))
        ∙ sym (ap (λ b. cond b (stands_in places positions q) (facts_in places has q w)) k ∙ stands-at places positions q (Some i) e)
    by_position q w (Some i) e false k =
        facts-at places have q w (Some i) e
        ∙ ap (λ b. is_packed q && (is_packed_vreg w && b))
        (h i (bits_of_vreg w) ∙ ap (λ b. cond b (is_in positions i) (has i (bits_of_vreg w))) (vreg-bits v w ∙ k))
        ∙ sym (ap (λ b. cond b (stands_in places positions q) (facts_in places has q w)) k ∙ facts-at places has q w (Some i) e)

-- a vreg gets other places
pub given-is : (t u : Showing) (v : VirtualRegister) (j : ℕ) (positions : List ℕ) → vreg_in t.vregs v ≡ Some j → is_packed_vreg v ≡ true →
    u.places ≡ t.places →
    ShowsNow u (λ i y. cond (nat_eq y (get_or t.vregs j 0)) (is_in positions i) (shows_now t i y)) →
    facts_now u ≡ given_to v t.places positions (facts_now t)
given-is t u v j positions at pv e h =
    let has : ℕ → ℕ → Bool = λ i y. cond (nat_eq y (get_or t.vregs j 0)) (is_in positions i) (shows_now t i y) in
    now-as t u has e h
    ∙ given-in t.places (shows_now t) has v positions pv
    (λ i y. ap (λ n. cond (nat_eq y n) (is_in positions i) (shows_now t i y)) (bits-at t.vregs v j at))

-- the positions that hold a vreg are the positions of the places that hold it
pub holders-are : (t : Showing) (v : VirtualRegister) (j : ℕ) (positions : List ℕ) → vreg_in t.vregs v ≡ Some j → is_packed_vreg v ≡ true →
    ((i : ℕ) → is_in positions i ≡ (nat_lt i (length t.places) && shows_now t i (get_or t.vregs j 0))) →
    HoldersAre t.places (shows_now t) v positions
holders-are t v j positions at pv h = record {
  within = λ i e. below i (length t.places) (left_true _ _ (sym (h i) ∙ e));
  holders = λ p. by_position p (place_in t.places p) refl;
}
  where
    below : (i n : ℕ) → nat_lt i n ≡ true → i < n
    below i n e = grind (arith, nat_tests)

    is_below : (i n : ℕ) → i < n → nat_lt i n ≡ true
    is_below i n l = grind (arith, nat_tests)

    left_true : (a b : Bool) → (a && b) ≡ true → a ≡ true
    left_true true b e = refl
    left_true false b e = absurd cc

    by_position : (p : Place) (o : Option ℕ) → place_in t.places p ≡ o → stands_in t.places positions p ≡ facts_in t.places (shows_now t) p v
    by_position p None e = stands-at t.places positions p None e ∙ and-false (is_packed p) ∙ sym (unlisted-holds t.places (shows_now t) p v e)
    by_position p (Some i) e =
        stands-at t.places positions p (Some i) e
        ∙ ap (λ b. is_packed p && b) (h i ∙ ap (λ b. b && shows_now t i (get_or t.vregs j 0))
        (is_below i (length t.places) (at-position t.places (bits_of_place p) i e).0)
        ∙ ap (λ n. shows_now t i n) (bits-at t.vregs v j at))
        ∙ sym (facts-at t.places (shows_now t) p v (Some i) e ∙ ap (λ b. is_packed p && (b && shows_now t i (bits_of_vreg v))) pv)

-- a vreg gets other places, where the positions are of a vreg's holders before
pub given-renamed : (before ps : List ℕ) (has : ℕ → ℕ → Bool) (p a : VirtualRegister) (positions : List ℕ) (G H : Facts) → ps ≡ before →
    HoldersAre before has a positions → H ≡ given_to p ps positions G → (q : Place) (v : VirtualRegister) →
    H q v ≡ cond (is_vreg p v) (facts_in before has q a) (G q v)
given-renamed before ps has p a positions G H e h now q v =
    ap (λ (X : Facts). X q v) now
    ∙ ap (λ (xs : List ℕ). cond (is_vreg p v) (stands_in xs positions q) (G q v)) e
    ∙ ap (λ b. cond (is_vreg p v) b (G q v)) (h.holders q)

renamed-one : (p a v : VirtualRegister) → renaming (p ∷ []) (a ∷ []) (λ u. u) v ≡ cond (is_vreg p v) a v
unfolding renaming
renamed-one p a v = refl

-- a parameter that is passed has what its argument has
pub passed-is : (t u : Showing) (p a : VirtualRegister) (j k : ℕ) → vreg_in t.vregs p ≡ Some j → vreg_in t.vregs a ≡ Some k → is_packed_vreg p ≡ true →
    is_packed_vreg a ≡ true → u.places ≡ t.places →
    ShowsNow u (λ i y. shows_now t i (cond (nat_eq y (get_or t.vregs j 0)) (get_or t.vregs k 0) y)) →
    facts_now u ≡ facts_renamed (p ∷ []) (a ∷ []) (facts_now t)
passed-is t u p a j k atp ata pp pa e h =
    now-as t u has e h
    ∙ one-facts (facts_in t.places has) (facts_renamed (p ∷ []) (a ∷ []) (facts_now t))
    (λ q v. by_position q v (place_in t.places q) refl (is_vreg p v) refl ∙ ap (facts_in t.places (shows_now t) q) (sym (renamed-one p a v)))
  where
    has : ℕ → ℕ → Bool
    has i y = shows_now t i (cond (nat_eq y (get_or t.vregs j 0)) (get_or t.vregs k 0) y)

    is : (v : VirtualRegister) → nat_eq (bits_of_vreg v) (get_or t.vregs j 0) ≡ is_vreg p v
    is v = ap (nat_eq (bits_of_vreg v)) (bits-at t.vregs p j atp) ∙ vreg-bits p v

    by_position : (q : Place) (v : VirtualRegister) (o : Option ℕ) → place_in t.places q ≡ o → (b : Bool) → is_vreg p v ≡ b →
        facts_in t.places has q v ≡ facts_in t.places (shows_now t) q (cond (is_vreg p v) a v)
    by_position q v None e b d = unlisted-holds t.places has q v e ∙ sym (unlisted-holds t.places (shows_now t) q (cond (is_vreg p v) a v) e)
    by_position q v (Some i) e true d =
        let packed : is_packed_vreg v ≡ true = subst (λ (w : VirtualRegister). is_packed_vreg w ≡ true) (is_vreg-true p v d) pp in
        facts-at t.places has q v (Some i) e
        ∙ ap (λ x. is_packed q && (x && has i (bits_of_vreg v))) (packed ∙ sym pa)
        ∙ ap (λ x. is_packed q && (is_packed_vreg a && shows_now t i (cond x (get_or t.vregs k 0) (bits_of_vreg v)))) (is v ∙ d)
        ∙ ap (λ n. is_packed q && (is_packed_vreg a && shows_now t i n)) (bits-at t.vregs a k ata)
        ∙ sym (facts-at t.places (shows_now t) q a (Some i) e)
        ∙ ap (λ x. facts_in t.places (shows_now t) q (cond x a v)) (sym d)
    by_position q v (Some i) e false d =
        facts-at t.places has q v (Some i) e
        ∙ ap (λ x. is_packed q && (is_packed_vreg v && shows_now t i (cond x (get_or t.vregs k 0) (bits_of_vreg v)))) (is v ∙ d)
        ∙ sym (facts-at t.places (shows_now t) q v (Some i) e)
        ∙ ap (λ x. facts_in t.places (shows_now t) q (cond x a v)) (sym d)

-- a list of one
pub one-of : {X : Type 0} (xs : List X) (x : X) → length xs ≡ 1 → x ≡ get_or xs 0 x → xs ≡ x ∷ []
one-of [] x l e = absurd (omega arith)
one-of (y ∷ []) x l e = ap (λ z. z ∷ []) (sym e)
one-of (y ∷ z ∷ xs) x l e = absurd (omega arith)

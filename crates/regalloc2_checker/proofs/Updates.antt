-- Tables of which one changes.
use Rattle.std.proofs.Common.{ℕ, zero, suc, ◌≡◌, ◌+◌, ◌<◌, ◌≤◌, arith, Bool, true, false, cond, nat_eq}
use Rattle.std.proofs.Common.{eq-eqb, ne_eqb, List, [], ◌∷◌, length, get_or, set, refl, sym, ap, ◌∙◌, subst}
use Rattle.std.proofs.Common.{inl, inr}
use Rattle.std.proofs.Math.Bool.{and-false}
use Rattle.std.specs.Prelude.{◌&&◌, Option, None, Some}
use Rattle.std.specs.Bool.{OnTrue, OnFalse}
use Rattle.std.proofs.lemmas.Bool.{cases_eq}
use Rattle.std.proofs.lemmas.List.{length-set}
use Rattle.std.proofs.lemmas.List.Sums.{sum_by-set}
use Rattle.regalloc2_names.specs.Register.{VirtualRegister}
use Rattle.regalloc2_names.specs.RegisterBits.{bits_of_vreg}
use Rattle.regalloc2_names.specs.Place.{Place}
use Rattle.regalloc2_names.specs.PlaceBits.{bits_of_place}
use Rattle.regalloc2_checker.specs.Holding.{LosesSome}
use Rattle.regalloc2_checker.specs.Showing.{Showing, shows_in, shows_now}
use Rattle.regalloc2_checker.proofs.Positions.{at-position}
use Rattle.regalloc2_checker.specs.Facts.{Facts}
use Rattle.regalloc2_checker.specs.TableFacts.{is_packed, is_packed_vreg, place_in, facts_in, facts_now, facts_table}
use Rattle.regalloc2_checker.specs.Tables.{BlockView, view_of, views, views_from, no_view, view_at, facts_at, weight, left_in, pairs_held, all_pairs}
use Rattle.regalloc2_checker.specs.Tables.{IsMeet}
use Rattle.regalloc2_checker.proofs.PairsDecrease.{fewer-held, at_most_all, as-many-held, bits_end_is}
use Rattle.regalloc2_checker.proofs.TableSteps.{facts-at, unlisted-holds, facts_in-same}

set-same : (t : List BlockView) (i : ℕ) (x : BlockView) → i < length t → view_at (set t i x) i ≡ x
set-same [] i x less = absurd (omega arith)
set-same (y ∷ t) zero x less = refl
set-same (y ∷ t) (suc i) x less = set-same t i x (omega arith)

set-other : (t : List BlockView) (i j : ℕ) (x : BlockView) → (j ≡ i → ⊥) → view_at (set t i x) j ≡ view_at t j
set-other [] i j x n = refl
set-other (y ∷ t) zero zero x n = absurd (n refl)
set-other (y ∷ t) zero (suc j) x n = refl
set-other (y ∷ t) (suc i) zero x n = refl
set-other (y ∷ t) (suc i) (suc j) x n = set-other t i j x (λ e. n (ap suc e))

-- what stands in a list may be set again
pub set-again : (xs : List Bool) (i : ℕ) (x d : Bool) → i < length xs → get_or xs i d ≡ x → set xs i x ≡ xs
set-again [] i x d less e = absurd (omega arith)
set-again (y ∷ xs) zero x d less e = ap (λ (z : Bool). z ∷ xs) (sym e)
set-again (y ∷ xs) (suc i) x d less e = ap (λ (zs : List Bool). y ∷ zs) (set-again xs i x d (omega arith) e)

-- a view that has less
pub meet-changed : (t : List BlockView) (i : ℕ) (x : BlockView) (passed : Facts) → i < length t → x.reached ≡ true →
    ((view_at t i).reached ≡ false → x.facts ≡ passed) →
    ((view_at t i).reached ≡ true → (p : Place) (v : VirtualRegister) → x.facts p v ≡ (facts_at t i p v && passed p v)) →
    x.left < (view_at t i).left → IsMeet t (set t i x) i passed true
meet-changed t i x passed less r first met falls =
    let e : view_at (set t i x) i ≡ x = set-same t i x less in
    record {
      same = λ h. absurd cc;
      updated = λ h. record {
        size = length-set t i x;
        others = λ j n. set-other t i j x n;
        reached = ap (λ (y : BlockView). y.reached) e ∙ r;
        first = λ m. ap (λ (y : BlockView). y.facts) e ∙ first m;
        met = λ m p v. ap (λ (y : BlockView). y.facts p v) e ∙ met m p v;
      };
      falls = λ h. (let w = sum_by-set weight t i x no_view less in omega arith);
    }

view-eq : (r : Bool) (F G : Facts) (m n : ℕ) → F ≡ G → m ≡ n → ◌≡◌ {A = BlockView} (record { reached = r; facts = F; left = m })
    (record { reached = r; facts = G; left = n })
view-eq r F G m n e d = λ i. record { reached = r; facts = e i; left = d i }

-- a table that holds the same has the same view
pub view-same : (t u : Showing) (k : ℕ) (r : Bool) → u.places ≡ t.places → ((i y : ℕ) → i < length t.places → shows_in u k i y ≡ shows_in t k i y) →
    view_of u k r ≡ view_of t k r
view-same t u k r e h =
    view-eq r (facts_table u k) (facts_table t k) (left_in (length u.places) r (shows_in u k)) (left_in (length t.places) r (shows_in t k))
    (ap (λ (ps : List ℕ). facts_in ps (shows_in u k)) e ∙ facts_in-same t.places (shows_in u k) (shows_in t k) h)
    (ap (λ (ps : List ℕ). left_in (length ps) r (shows_in u k)) e
    ∙ ap (λ n. cond r n (all_pairs (length t.places) + 1)) (as-many-held (length t.places) (shows_in u k) (shows_in t k) h))

-- where tables list what they did, the views are as they were
pub views-same : (t u : Showing) (k : ℕ) (rs : List Bool) → u.places ≡ t.places →
    ((j i y : ℕ) → k ≤ j → j < k + length rs → i < length t.places → shows_in u j i y ≡ shows_in t j i y) → views_from u k rs ≡ views_from t k rs
unfolding views_from
views-same t u k [] e h = refl
views-same t u k (r ∷ rs) e h =
    ap (λ (x : BlockView). x ∷ views_from u (k + 1) rs) (view-same t u k r e (λ i y less. h k i y (omega arith) (omega arith) less))
    ∙ ap (λ (xs : List BlockView). view_of t k r ∷ xs)
    (views-same t u (k + 1) rs e (λ j i y low high less. h j i y (omega (arith, low)) (omega (arith, high)) less))

-- where one table changes, one view does
pub views-set : (t u : Showing) (k n m : ℕ) (rs : List Bool) → m ≡ k + n → u.places ≡ t.places → n < length rs →
    ((j i y : ℕ) → (j ≡ m → ⊥) → i < length t.places → shows_in u j i y ≡ shows_in t j i y) →
    views_from u k (set rs n true) ≡ set (views_from t k rs) n (view_of u m true)
unfolding views_from
views-set t u k n m [] at e less h = absurd (omega arith)
views-set t u k zero m (r ∷ rs) at e less h =
    let same : k ≡ m = omega arith in
    ap (λ j. view_of u j true ∷ views_from u (k + 1) rs) same
    ∙ ap (λ (xs : List BlockView). view_of u m true ∷ xs)
    (views-same t u (k + 1) rs e (λ j i y low high l. h j i y (λ d. omega (arith, low, d)) l))
views-set t u k (suc n) m (r ∷ rs) at e less h =
    ap (λ (x : BlockView). x ∷ views_from u (k + 1) (set rs n true)) (view-same t u k r e (λ i y l. h k i y (λ d. omega (arith, d)) l))
    ∙ ap (λ (xs : List BlockView). view_of t k r ∷ xs) (views-set t u (k + 1) n m rs (omega arith) e (omega arith) h)

-- there is a view for each block
pub views-length : (t : Showing) (k : ℕ) (rs : List Bool) → length (views_from t k rs) ≡ length rs
unfolding views_from
views-length t k [] = refl
views-length t k (r ∷ rs) = ap suc (views-length t (k + 1) rs)

view-from : (t : Showing) (k n m : ℕ) (rs : List Bool) (d : Bool) → m ≡ k + n → n < length rs → view_at (views_from t k rs) n ≡ view_of t m (get_or rs n d)
unfolding views_from
view-from t k n m [] d e less = absurd (omega arith)
view-from t k zero m (r ∷ rs) d e less = let same : k ≡ m = omega arith in ap (λ j. view_of t j r) same
view-from t k (suc n) m (r ∷ rs) d e less = view-from t (k + 1) n m rs d (omega arith) (omega arith)

-- the view of a block is that of its table
pub view-is : (t : Showing) (rs : List Bool) (b : ℕ) (d : Bool) → b < length rs → view_at (views t rs) b ≡ view_of t b (get_or rs b d)
view-is t rs b d less = view-from t 0 b b rs d (omega arith) less

-- a block's view is reached as the list of reached blocks says
pub reached-is : (t : Showing) (rs : List Bool) (b : ℕ) (d r : Bool) → b < length rs → get_or rs b d ≡ r → (view_at (views t rs) b).reached ≡ r
reached-is t rs b d r less e = ap (λ (x : BlockView). x.reached) (view-is t rs b d less) ∙ e

-- the facts of a block's view are its table's
pub facts-is : (t : Showing) (rs : List Bool) (b : ℕ) → b < length rs → facts_at (views t rs) b ≡ facts_table t b
facts-is t rs b less = ap (λ (x : BlockView). x.facts) (view-is t rs b true less)

-- facts of what two hold are the facts that both have
facts-both : (places : List ℕ) (has have both : ℕ → ℕ → Bool) → ((i y : ℕ) → i < length places → both i y ≡ (has i y && have i y)) →
    (p : Place) (v : VirtualRegister) → facts_in places both p v ≡ (facts_in places has p v && facts_in places have p v)
facts-both places has have both h p v = by_position (place_in places p) refl
  where
    join : (a b x y : Bool) → (a && (b && (x && y))) ≡ ((a && (b && x)) && (a && (b && y)))
    join true true x y = refl
    join true false x y = refl
    join false b x y = refl

    false-and : (x y : Bool) → x ≡ false → (x && y) ≡ false
    false-and x y e = rw e refl

    by_position : (o : Option ℕ) → place_in places p ≡ o → facts_in places both p v ≡ (facts_in places has p v && facts_in places have p v)
    by_position None e = unlisted-holds places both p v e ∙ sym (false-and (facts_in places has p v) (facts_in places have p v) (unlisted-holds places has p v e))
    by_position (Some i) e =
        facts-at places both p v (Some i) e
        ∙ ap (λ b. is_packed p && (is_packed_vreg v && b)) (h i (bits_of_vreg v) (at-position places (bits_of_place p) i e).0)
        ∙ join (is_packed p) (is_packed_vreg v) (has i (bits_of_vreg v)) (have i (bits_of_vreg v))
        ∙ sym (ap (λ b. b && facts_in places have p v) (facts-at places has p v (Some i) e)
        ∙ ap (λ b. (is_packed p && (is_packed_vreg v && has i (bits_of_vreg v))) && b) (facts-at places have p v (Some i) e))

-- more is held, more facts
facts-within : (places : List ℕ) (has have : ℕ → ℕ → Bool) → ((i y : ℕ) → i < length places → has i y ≡ true → have i y ≡ true) →
    (p : Place) (v : VirtualRegister) → facts_in places has p v ≡ true → facts_in places have p v ≡ true
facts-within places has have h p v t =
    right _ _ (sym (facts-both places has have has (λ i y less. absorbed (has i y) (have i y) (h i y less)) p v) ∙ t)
  where
    absorbed : (a b : Bool) → (a ≡ true → b ≡ true) → a ≡ (a && b)
    absorbed true b h = sym (h refl)
    absorbed false b h = refl

    right : (a b : Bool) → (a && b) ≡ true → b ≡ true
    right true b e = e
    right false b e = absurd cc

and-left : (a b : Bool) → (a && b) ≡ true → a ≡ true
and-left true b e = refl
and-left false b e = absurd cc

-- the current table is saved as the first that is passed to a block
pub update-first : (t u : Showing) (rs : List Bool) (b : ℕ) (d : Bool) → b < length rs → get_or rs b d ≡ false → u.places ≡ t.places →
    ((k i y : ℕ) → i < length t.places → shows_in u k i y ≡ cond (nat_eq k b) (shows_now t i y) (shows_in t k i y)) →
    IsMeet (views t rs) (views u (set rs b true)) b (facts_now t) true
update-first t u rs b d less un e h =
    let here : (i y : ℕ) → i < length t.places → shows_in u b i y ≡ shows_now t i y =
    λ i y l. h b i y l ∙ ap (λ c. cond c (shows_now t i y) (shows_in t b i y)) (eq-eqb b b refl) in
    let facts : facts_table u b ≡ facts_now t =
    ap (λ (ps : List ℕ). facts_in ps (shows_in u b)) e ∙ facts_in-same t.places (shows_in u b) (shows_now t) here in
    let left : (view_at (views t rs) b).left ≡ all_pairs (length t.places) + 1 =
    ap (λ (x : BlockView). x.left) (view-is t rs b d less) ∙ ap (λ r. left_in (length t.places) r (shows_in t b)) un in
    let most : pairs_held (length u.places) (shows_in u b) ≤ all_pairs (length u.places) = at_most_all (length u.places) (shows_in u b) in
    let size = ap (λ (ps : List ℕ). all_pairs (length ps)) e in
    subst (λ (vs : List BlockView). IsMeet (views t rs) vs b (facts_now t) true)
    (sym (views-set t u 0 b b rs (omega arith) e less
    (λ j i y n l. h j i y l ∙ ap (λ c. cond c (shows_now t i y) (shows_in t j i y)) (ne_eqb j b n))))
    (meet-changed (views t rs) b (view_of u b true) (facts_now t) (omega (arith, views-length t 0 rs, less)) refl (λ _. facts)
    (λ m. true_not_false _ _ m (reached-is t rs b d false less un)) (omega (arith, left, most, size)))
  where
    true_not_false : (c : Bool) (P : Type 0) → c ≡ true → c ≡ false → P
    true_not_false true P h g = absurd cc
    true_not_false false P h g = absurd cc

-- the current table is met with what a block has, if it had some
pub update-less : (t u : Showing) (rs : List Bool) (b : ℕ) (d : Bool) → b < length rs → get_or rs b d ≡ true → u.places ≡ t.places →
    ((k i y : ℕ) → i < length t.places → shows_in u k i y ≡ cond (nat_eq k b) (shows_in t k i y && shows_now t i y) (shows_in t k i y)) →
    (changed : Bool) → OnTrue changed (LosesSome (length t.places) (shows_in t b) (shows_now t)) →
    OnFalse changed ((i y : ℕ) → i < length t.places → shows_in t b i y ≡ true → shows_now t i y ≡ true) →
    IsMeet (views t rs) (views u rs) b (facts_now t) changed
update-less t u rs b d less marked e h true lost kept =
    let here : (i y : ℕ) → i < length t.places → shows_in u b i y ≡ (shows_in t b i y && shows_now t i y) =
    λ i y l. h b i y l ∙ ap (λ c. cond c (shows_in t b i y && shows_now t i y) (shows_in t b i y)) (eq-eqb b b refl) in
    let size : length u.places ≡ length t.places = ap (λ (ps : List ℕ). length ps) e in
    let facts : (p : Place) (v : VirtualRegister) → facts_table u b p v ≡ (facts_table t b p v && facts_now t p v) =
    λ p v. ap (λ (ps : List ℕ). facts_in ps (shows_in u b) p v) e ∙ facts-both t.places (shows_in t b) (shows_now t) (shows_in u b) here p v in
    let left : (view_at (views t rs) b).left ≡ pairs_held (length t.places) (shows_in t b) =
    ap (λ (x : BlockView). x.left) (view-is t rs b d less) ∙ ap (λ r. left_in (length t.places) r (shows_in t b)) marked in
    let fewer : pairs_held (length t.places) (shows_in u b) < pairs_held (length t.places) (shows_in t b) =
    fewer-held (length t.places) (shows_in u b) (shows_in t b) (λ i y l k. and-left _ _ (sym (here i y l) ∙ k)) lost.place lost.bits lost.place_small
    (rw bits_end_is lost.bits_small)
    (here lost.place lost.bits lost.place_small ∙ ap (λ c. shows_in t b lost.place lost.bits && c) lost.not_there ∙ and-false (shows_in t b lost.place lost.bits))
    lost.here in
    let long = ap (λ n. pairs_held n (shows_in u b)) size in
    let again : set rs b true ≡ rs = set-again rs b true d less marked in
    subst (λ (vs : List BlockView). IsMeet (views t rs) vs b (facts_now t) true)
    (sym (ap (λ (xs : List Bool). views u xs) (sym again) ∙ views-set t u 0 b b rs (omega arith) e less
    (λ j i y n l. h j i y l ∙ ap (λ c. cond c (shows_in t j i y && shows_now t i y) (shows_in t j i y)) (ne_eqb j b n))))
    (meet-changed (views t rs) b (view_of u b true) (facts_now t) (omega (arith, views-length t 0 rs, less)) refl
    (λ m. true_not_false _ _ (reached-is t rs b d true less marked) m)
    (λ _ p v. facts p v ∙ ap (λ (F : Facts). F p v && facts_now t p v) (sym (facts-is t rs b less)))
    (omega (arith, left, fewer, long)))
  where
    true_not_false : (c : Bool) (P : Type 0) → c ≡ true → c ≡ false → P
    true_not_false true P h g = absurd cc
    true_not_false false P h g = absurd cc
update-less t u rs b d less marked e h false lost kept =
    let all : (j i y : ℕ) → i < length t.places → shows_in u j i y ≡ shows_in t j i y =
    λ j i y l. elim (cases_eq j b) [
      | inl s ↦ h j i y l ∙ ap (λ c. cond c (shows_in t j i y && shows_now t i y) (shows_in t j i y)) (eq-eqb j b s)
          ∙ sym (absorbed (shows_in t j i y) (shows_now t i y) (λ k. kept i y l (subst (λ (n : ℕ). shows_in t n i y ≡ true) s k)))
      | inr n ↦ h j i y l ∙ ap (λ c. cond c (shows_in t j i y && shows_now t i y) (shows_in t j i y)) (ne_eqb j b n)
    ] in
    record {
      same = λ _. (
        views-same t u 0 rs e (λ j i y low high l. all j i y l),
        reached-is t rs b d true less marked,
        λ p v k. facts-within t.places (shows_in t b) (shows_now t) kept p v (sym (ap (λ (F : Facts). F p v) (facts-is t rs b less)) ∙ k),
      );
      updated = λ k. absurd cc;
      falls = λ k. absurd cc;
    }
  where
    absorbed : (a c : Bool) → (a ≡ true → c ≡ true) → a ≡ (a && c)
    absorbed true c h = sym (h refl)
    absorbed false c h = refl

-- where one table changes, the others have the facts that they had
pub others-kept : (t u : Showing) (b : ℕ) (has : ℕ → ℕ → Bool) → u.places ≡ t.places →
    ((k i y : ℕ) → i < length t.places → shows_in u k i y ≡ cond (nat_eq k b) (has i y) (shows_in t k i y)) →
    (k : ℕ) → (k ≡ b → ⊥) → facts_table u k ≡ facts_table t k
others-kept t u b has e h k n =
    ap (λ (ps : List ℕ). facts_in ps (shows_in u k)) e
    ∙ facts_in-same t.places (shows_in u k) (shows_in t k)
    (λ i y l. h k i y l ∙ ap (λ c. cond c (has i y) (shows_in t k i y)) (ne_eqb k b n))

-- a table beside the blocks' tables changes none of their views
pub views-beside : (t u : Showing) (rs : List Bool) (b : ℕ) (has : ℕ → ℕ → Bool) → length rs ≤ b → u.places ≡ t.places →
    ((k i y : ℕ) → i < length t.places → shows_in u k i y ≡ cond (nat_eq k b) (has i y) (shows_in t k i y)) → views u rs ≡ views t rs
views-beside t u rs b has past e h =
    views-same t u 0 rs e (λ j i y low high l. h j i y l ∙ ap (λ c. cond c (has i y) (shows_in t j i y)) (ne_eqb j b (λ d. omega (arith, d, past, high))))

-- a saved table gets the facts of the current table
pub table-saved : (t u : Showing) (b : ℕ) → u.places ≡ t.places →
    ((k i y : ℕ) → i < length t.places → shows_in u k i y ≡ cond (nat_eq k b) (shows_now t i y) (shows_in t k i y)) → facts_table u b ≡ facts_now t
table-saved t u b e h =
    ap (λ (ps : List ℕ). facts_in ps (shows_in u b)) e
    ∙ facts_in-same t.places (shows_in u b) (shows_now t)
    (λ i y l. h b i y l ∙ ap (λ c. cond c (shows_now t i y) (shows_in t b i y)) (eq-eqb b b refl))

-- nothing is held, no fact holds
pub facts-none : (places : List ℕ) (has : ℕ → ℕ → Bool) → ((i y : ℕ) → has i y ≡ false) → (p : Place) (v : VirtualRegister) → facts_in places has p v ≡ false
facts-none places has h p v = by_position (place_in places p) refl
  where
    last : (a b : Bool) → (a && (b && false)) ≡ false
    last true true = refl
    last true false = refl
    last false b = refl

    by_position : (o : Option ℕ) → place_in places p ≡ o → facts_in places has p v ≡ false
    by_position None e = unlisted-holds places has p v e
    by_position (Some i) e =
        facts-at places has p v (Some i) e
        ∙ ap (λ b. is_packed p && (is_packed_vreg v && b)) (h i (bits_of_vreg v)) ∙ last (is_packed p) (is_packed_vreg v)

-- at its own number a table may be read by either name
pub meet-as : (t : Showing) (k b i y : ℕ) → cond (nat_eq k b) (shows_in t k i y && shows_now t i y) (shows_in t k i y)
    ≡ cond (nat_eq k b) (shows_in t b i y && shows_now t i y) (shows_in t k i y)
meet-as t k b i y = elim (cases_eq k b) [
  | inl e ↦ ap (λ (n : ℕ). cond (nat_eq k b) (shows_in t n i y && shows_now t i y) (shows_in t k i y)) e
  | inr n ↦ ap (λ c. cond c (shows_in t k i y && shows_now t i y) (shows_in t k i y)) (ne_eqb k b n)
      ∙ sym (ap (λ c. cond c (shows_in t b i y && shows_now t i y) (shows_in t k i y)) (ne_eqb k b n))
]

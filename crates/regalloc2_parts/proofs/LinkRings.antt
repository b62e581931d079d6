-- Rings of links: what is left of one, what is added, and walks along it.
use Rattle.std.proofs.Common.{ℕ, zero, suc, ◌≡◌, ◌≢◌, ◌<◌, ◌≤◌, ◌∙◌, refl, arith, sym, ap, subst, List, [], ◌∷◌, ◌++◌, true, false, nat_eq, eq-eqb, length}
use Rattle.std.specs.Prelude.{Contains, reverse, slice_index, slice_set}
use Rattle.std.specs.List.{AllByRecursion, IsDistinct}
use Rattle.std.proofs.lemmas.List.{get_or-set_same, length-set, length-reverse, reverse-append}
use Rattle.std.proofs.lemmas.Map.Keys.{IsDistinct-head, IsDistinct-tail, IsDistinct-cons}
use Rattle.regalloc2_parts.specs.Links.{IsRing, IsWalk, LacksNumber, Leads, LeadsOneWay, walked_links, walked_at_most}
use Rattle.regalloc2_parts.proofs.Numbers.{distinct_before, distinct_ended, distinct_without, each_ended, each_without, few, flip, not_the_end, without}
use Rattle.regalloc2_parts.proofs.Linked.{appended, begun_at_last, inserted, next_of_member, passes, prev_of_member, removed, reversed}

-- a number alone
pub IsRing-one : (ns ps : List ℕ) (h : ℕ) → h < length ns → length ps ≡ length ns → IsRing (slice_set ns h h) (slice_set ps h h) h []
unfolding Leads IsDistinct
IsRing-one ns ps h fits long = record {
  leads = (get_or-set_same ns h h 0 fits, get_or-set_same ps h h 0 (omega arith));
  distinct = (tt, tt);
  below = (rw (length-set ns h h) fits, tt);
  long = length-set ps h h ∙ long ∙ sym (length-set ns h h);
}

-- without a member
pub IsRing-removed : (ns ps : List ℕ) (h : ℕ) (xs : List ℕ) (p l r : ℕ) → IsRing ns ps h xs → Contains xs p → slice_index ps p ≡ l → slice_index ns p ≡ r →
    IsRing (slice_set ns l r) (slice_set ps r l) h (without p xs)
IsRing-removed ns ps h xs p l r ring mem el er =
    let P : ℕ → Type 0 = λ n. n < length ns in
    let fl : l < length ns = subst P el (prev_of_member P ns ps h xs h p ring.leads ring.below.0 ring.below.1 mem) in
    let fr : r < length ns = subst P er (next_of_member P ns ps h xs h p ring.leads ring.below.1 ring.below.0 mem) in
    let long = ring.long in
    let lh = IsDistinct-head nat_eq h xs ring.distinct in
    record {
      leads = removed ns ps h xs h p l r ring.leads ring.distinct lh mem el er fl (omega arith);
      distinct = IsDistinct-cons nat_eq h (without p xs) (each_without (λ (n : ℕ). nat_eq h n ≡ false) p xs lh)
          (distinct_without p xs (IsDistinct-tail nat_eq h xs ring.distinct));
      below = subst (λ (m : ℕ). AllByRecursion (λ n. n < m) (h ∷ without p xs)) (sym (length-set ns l r)) (ring.below.0, each_without P p xs ring.below.1);
      long = length-set ps r l ∙ ring.long ∙ sym (length-set ns l r);
    }

-- with one more at the end
pub IsRing-appended : (ns ps : List ℕ) (h : ℕ) (xs : List ℕ) (p l : ℕ) → IsRing ns ps h xs → LacksNumber p (h ∷ xs) → p < length ns → slice_index ps h ≡ l →
    l < length ns → IsRing (slice_set (slice_set ns l p) p h) (slice_set (slice_set ps p l) h p) h (xs ++ p ∷ [])
IsRing-appended ns ps h xs p l ring lp fp el fl =
    let long = ring.long in
    let fh : h < length ps = omega (arith, ring.below.0) in
    let longer : length (slice_set (slice_set ns l p) p h) ≡ length ns = length-set (slice_set ns l p) p h ∙ length-set ns l p in
    record {
      leads = appended ns ps h xs p l ring.leads ring.distinct lp el fl fp (omega arith) fh;
      distinct = distinct_ended (h ∷ xs) p ring.distinct lp;
      below = subst (λ (m : ℕ). AllByRecursion (λ n. n < m) (h ∷ (xs ++ p ∷ []))) (sym longer) (each_ended (λ (n : ℕ). n < length ns) (h ∷ xs) p ring.below fp);
      long = length-set (slice_set ps p l) h p ∙ length-set ps p l ∙ ring.long ∙ sym longer;
    }

-- with one more behind the head
pub IsRing-inserted : (ns ps : List ℕ) (h : ℕ) (xs : List ℕ) (v r : ℕ) → IsRing ns ps h xs → LacksNumber v (h ∷ xs) → v < length ns → slice_index ns h ≡ r →
    r < length ns → IsRing (slice_set (slice_set ns v r) h v) (slice_set (slice_set ps r v) v h) h (v ∷ xs)
IsRing-inserted ns ps h xs v r ring lv fv er fr =
    let long = ring.long in
    let lh = IsDistinct-head nat_eq h xs ring.distinct in
    let dx = IsDistinct-tail nat_eq h xs ring.distinct in
    let longer : length (slice_set (slice_set ns v r) h v) ≡ length ns = length-set (slice_set ns v r) h v ∙ length-set ns v r in
    record {
      leads = inserted ns ps h xs h v r ring.leads lh lh dx (record { first = lv.0; last = lv.0; within = lv.1 }) er
          (record { from_next = ring.below.0; next = fv; prev = omega arith; to_prev = omega arith });
      distinct = IsDistinct-cons nat_eq h (v ∷ xs) (flip v h lv.0, lh) (IsDistinct-cons nat_eq v xs lv.1 dx);
      below = subst (λ (m : ℕ). AllByRecursion (λ n. n < m) (h ∷ (v ∷ xs))) (sym longer) (ring.below.0, (fv, ring.below.1));
      long = length-set (slice_set ps r v) v h ∙ length-set ps r v ∙ ring.long ∙ sym longer;
    }

-- with the last as head
pub IsRing-turned : (ns ps : List ℕ) (h : ℕ) (xs : List ℕ) (p : ℕ) → IsRing ns ps h (xs ++ p ∷ []) → IsRing ns ps p (h ∷ xs)
IsRing-turned ns ps h xs p ring =
    let d = distinct_before (h ∷ xs) p ring.distinct in
    let f = not_the_end (λ (n : ℕ). n < length ns) (h ∷ xs) p ring.below in
    record {
      leads = begun_at_last ns ps h xs p ring.leads;
      distinct = IsDistinct-cons nat_eq p (h ∷ xs) d.1 d.0;
      below = (f.1, f.0);
      long = ring.long;
    }

-- the links of a head lead to members
pub head_links : (ns ps : List ℕ) (h : ℕ) (xs : List ℕ) → IsRing ns ps h xs → (slice_index ns h < length ns) × (slice_index ps h < length ns)
unfolding Leads
head_links ns ps h [] ring = (rw ring.leads.0 ring.below.0, rw ring.leads.1 ring.below.0)
head_links ns ps h (x ∷ xs) ring =
    (rw ring.leads.0 ring.below.1.0, end x xs ring.leads.2 ring.below.1.0 ring.below.1.1)
  where
    end : (a : ℕ) (ys : List ℕ) → Leads ns ps a ys h → a < length ns → AllByRecursion (λ n. n < length ns) ys → slice_index ps h < length ns
    end a [] l e r = rw l.1 e
    end a (y ∷ ys) l e r = end y ys l.2 r.0 r.1

-- a walk is what the links say
pub walked-is : (links : List ℕ) (stop at : ℕ) (xs : List ℕ) → IsWalk links stop at xs → walked_links links stop at ≡ xs
unfolding LeadsOneWay walked_at_most
walked-is links stop at xs w = in_steps (length links) at xs w.passes w.apart w.short
  where
    in_steps : (most at : ℕ) (xs : List ℕ) → LeadsOneWay links at xs stop → LacksNumber stop xs → length xs ≤ most → walked_at_most most links stop at ≡ xs
    in_steps zero at [] p l s = refl
    in_steps zero at (x ∷ xs) p l s = absurd (omega arith)
    in_steps (suc most) at [] p l s = let e : nat_eq stop at ≡ true = eq-eqb stop at (sym p) in rw e refl
    in_steps (suc most) at (x ∷ xs) p l s = rw (p.0, l.0) (ap (λ r. x ∷ r) (in_steps most (slice_index links x) xs p.1 l.1 (omega arith)))

-- at the place where it stops nothing is left
pub walked-end : (links : List ℕ) (stop at : ℕ) → at ≡ stop → walked_links links stop at ≡ []
unfolding walked_at_most
walked-end links stop at e = in_steps (length links)
  where
    in_steps : (most : ℕ) → walked_at_most most links stop at ≡ []
    in_steps zero = refl
    in_steps (suc most) = let t : nat_eq stop at ≡ true = eq-eqb stop at (sym e) in rw t refl

-- elsewhere there is a step
pub record IsStep (links : List ℕ) (stop at : ℕ) : Type 0 where
  pub first : walked_links links stop at ≡ at ∷ walked_links links stop (slice_index links at)
  pub rest : IsWalk links stop (slice_index links at) (walked_links links stop (slice_index links at))
  pub below : at < length links

-- a walk that isn't at its stop makes one step
pub step : (links : List ℕ) (stop at : ℕ) → IsWalk links stop at (walked_links links stop at) → at ≢ stop → IsStep links stop at
unfolding LeadsOneWay
step links stop at w other = by_list (walked_links links stop at) refl w
  where
    by_list : (xs : List ℕ) → walked_links links stop at ≡ xs → IsWalk links stop at xs → IsStep links stop at
    by_list [] e v = absurd (other v.passes)
    by_list (x ∷ xs) e v =
        let on : IsWalk links stop (slice_index links at) xs =
        record { passes = rw v.passes.0 v.passes.1; apart = v.apart.1; below = v.below.1; short = let s = v.short in omega arith } in
        let same : walked_links links stop (slice_index links at) ≡ xs = walked-is links stop (slice_index links at) xs on in
        record {
          first = e ∙ rw (same, v.passes.0) refl;
          rest = subst (λ l. IsWalk links stop (slice_index links at) l) (sym same) on;
          below = rw v.passes.0 v.below.0;
        }

-- once around a ring, and back
pub around : (ns ps : List ℕ) (h : ℕ) (xs : List ℕ) → IsRing ns ps h xs → IsWalk ns h (slice_index ns h) xs
around ns ps h xs ring = record {
  passes = passes ns ps h xs h ring.leads;
  apart = IsDistinct-head nat_eq h xs ring.distinct;
  below = ring.below.1;
  short = few xs (length ns) (IsDistinct-tail nat_eq h xs ring.distinct) ring.below.1;
}

-- back around a ring, by the links of the other direction
pub IsRing-back : (ns ps : List ℕ) (h : ℕ) (xs : List ℕ) → IsRing ns ps h xs → IsWalk ps h (slice_index ps h) (reverse xs)
IsRing-back ns ps h xs ring =
    let w = around ns ps h xs ring in
    record {
      passes = passes ps ns h (reverse xs) h (reversed ns ps h xs h ring.leads);
      apart = each_reversed (λ (n : ℕ). nat_eq h n ≡ false) xs w.apart;
      below = rw ring.long (each_reversed (λ (n : ℕ). n < length ns) xs w.below);
      short = rw (length-reverse xs, ring.long) w.short;
    }
  where
    each_reversed : (P : ℕ → Type 0) (ys : List ℕ) → AllByRecursion P ys → AllByRecursion P (reverse ys)
    each_reversed P [] h = tt
    each_reversed P (y ∷ ys) h = rw (reverse-append (y ∷ []) ys) (each_ended P (reverse ys) y (each_reversed P ys h.1) h.0)

-- what a walk around a ring passes is the ring's numbers, in order
pub ring_walked : (ns ps : List ℕ) (h : ℕ) (xs : List ℕ) → IsRing ns ps h xs → walked_links ns h (slice_index ns h) ≡ xs
ring_walked ns ps h xs ring = walked-is ns h (slice_index ns h) xs (around ns ps h xs ring)

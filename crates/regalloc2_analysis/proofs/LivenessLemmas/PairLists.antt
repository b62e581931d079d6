-- Blocks, each with a vreg, and how lists of them grow.
use Rattle.std.proofs.Common.{ℕ, ◌≡◌, Bool, true, false, cond, List, [], ◌∷◌, ◌++◌, refl, sym, ap, ◌∙◌, subst, nat_eq, eqb-true, append_assoc}
use Rattle.std.proofs.Common.{append-nil, inl, inr}
use Rattle.std.specs.Prelude.{◌&&◌, ◌||◌, not}
use Rattle.std.proofs.lemmas.Bool.{cases_Bool, and_parts}
use Rattle.std.proofs.lemmas.List.Folds.{list_any-append}
use Rattle.std.proofs.Math.Bool.{and-false, or-false}
use Rattle.regalloc2_names.specs.Register.{VirtualRegister, is_vreg}
use Rattle.regalloc2_semantics.proofs.Cells.{is_vreg-true}
use Rattle.regalloc2_analysis.specs.Liveness.BlockVRegPairs.{Pair, lists, BlockSets, holds, Gains, Grows}

-- an empty list has no pair
pub lists_empty : (p : Pair) → lists [] p ≡ false
unfolding lists
lists_empty p = refl

-- a pair more at the end
pub gains_last : (b : ℕ) (u : VirtualRegister) (old : List Pair) → Gains b (is_vreg u) (lists old) (lists (old ++ (b, u) ∷ []))
unfolding lists
gains_last b u old p = list_any-append (λ (q : Pair). nat_eq q.0 p.0 && is_vreg q.1 p.1) old ((b, u) ∷ [])
    ∙ ap (λ (x : Bool). lists old p || x) (or-false (nat_eq b p.0 && is_vreg u p.1))

-- `a or b` is a itself if b implies a
pub or_absorbs : (a b : Bool) → (b ≡ true → a ≡ true) → a ≡ (a || b)
or_absorbs true b h = refl
or_absorbs false true h = h refl
or_absorbs false false h = refl

both_more : (x c a b : Bool) → ((x || (c && a)) || (c && b)) ≡ (x || (c && (a || b)))
both_more true c a b = refl
both_more false true a b = refl
both_more false false a b = refl

-- a list that gains nothing, or in two steps
pub gains_none : (b : ℕ) (test : VirtualRegister → Bool) (xs : Pair → Bool) → ((v : VirtualRegister) → test v ≡ false) → Gains b test xs xs
gains_none b test xs h p = rw (h p.1, and-false (nat_eq b p.0), or-false (xs p)) refl

-- what gains a block's vregs by one test, and then by another, gains the vregs that pass either
pub gains_more : (b : ℕ) (s t r : VirtualRegister → Bool) (old mid new : Pair → Bool) → Gains b s old mid → Gains b t mid new →
    ((v : VirtualRegister) → r v ≡ (s v || t v)) → Gains b r old new
gains_more b s t r old mid new g h e p =
    h p ∙ ap (λ (x : Bool). x || (nat_eq b p.0 && t p.1)) (g p) ∙ both_more (old p) (nat_eq b p.0) (s p.1) (t p.1)
    ∙ ap (λ (x : Bool). old p || (nat_eq b p.0 && x)) (sym (e p.1))

-- what is gained depends on the test only by which vregs pass it
pub gains_same : (b : ℕ) (s r : VirtualRegister → Bool) (old new : Pair → Bool) → Gains b s old new → ((v : VirtualRegister) → r v ≡ s v) → Gains b r old new
gains_same b s r old new g e p = g p ∙ ap (λ (x : Bool). old p || (nat_eq b p.0 && x)) (sym (e p.1))

-- a list grows by nothing if no vreg passes the test
pub grows_none : (b : ℕ) (test : VirtualRegister → Bool) (xs : List Pair) → ((v : VirtualRegister) → test v ≡ false) → Grows b test xs xs
grows_none b test xs h = record { gains = gains_none b test (lists xs) h; added = []; begins = sym (append-nil xs) }

-- a list that grows by a block's vregs by one test, and then by another, grows by the vregs that pass either
pub grows_more : (b : ℕ) (s t r : VirtualRegister → Bool) (old mid new : List Pair) → Grows b s old mid → Grows b t mid new →
    ((v : VirtualRegister) → r v ≡ (s v || t v)) → Grows b r old new
grows_more b s t r old mid new g h e = record {
  gains = gains_more b s t r (lists old) (lists mid) (lists new) g.gains h.gains e;
  added = g.added ++ h.added;
  begins = h.begins ∙ ap (λ (xs : List Pair). xs ++ h.added) g.begins ∙ append_assoc old g.added h.added;
}

-- by what a list grows depends on the test only by which vregs pass it
pub grows_same : (b : ℕ) (s r : VirtualRegister → Bool) (old new : List Pair) → Grows b s old new → ((v : VirtualRegister) → r v ≡ s v) → Grows b r old new
grows_same b s r old new g e = record { gains = gains_same b s r (lists old) (lists new) g.gains e; added = g.added; begins = g.begins }

pairs : (a b : ℕ) (u v : VirtualRegister) → a ≡ b → u ≡ v → ◌≡◌ {A = Pair} (a, u) (b, v)
pairs a b u v e f = rw (e, f) refl

-- a pair that is one with another
pub pair_is : (b : ℕ) (u : VirtualRegister) (p : Pair) → (nat_eq b p.0 && is_vreg u p.1) ≡ true → ◌≡◌ {A = Pair} (b, u) p
pair_is b u p h = let s = and_parts (nat_eq b p.0) (is_vreg u p.1) h in pairs b p.0 u p.1 (eqb-true b p.0 s.0) (is_vreg-true u p.1 s.1)

-- a pair that is added, unless it is there
pub grows_one : (b : ℕ) (u : VirtualRegister) (old : List Pair) → Grows b (is_vreg u) old (cond (lists old (b, u)) old (old ++ (b, u) ∷ []))
grows_one b u old = by_test (lists old (b, u)) refl
  where
    by_test : (t : Bool) → lists old (b, u) ≡ t → Grows b (is_vreg u) old (cond t old (old ++ (b, u) ∷ []))
    by_test true there = record {
      gains = λ p. or_absorbs (lists old p) (nat_eq b p.0 && is_vreg u p.1) (λ h. subst (λ (q : Pair). lists old q ≡ true) (pair_is b u p h) there);
      added = [];
      begins = sym (append-nil old);
    }
    by_test false none = record { gains = gains_last b u old; added = (b, u) ∷ []; begins = refl }

-- what is upward-exposed in a block that writes some
pub asked_written : (written : BlockSets) (b : ℕ) (u v : VirtualRegister) → holds written (b, u) ≡ true → (is_vreg u v && not (holds written (b, v))) ≡ false
asked_written written b u v there = elim (cases_Bool (is_vreg u v)) [
  | inl h ↦ (let same : holds written (b, v) ≡ true = subst (λ (w : VirtualRegister). holds written (b, w) ≡ true) (is_vreg-true u v h) there in
      rw (h, same) refl)
  | inr h ↦ rw h refl
]

-- a vreg that the block didn't write before is upward-exposed, and no other one
pub asked_free : (written : BlockSets) (b : ℕ) (u v : VirtualRegister) → holds written (b, u) ≡ false →
    (is_vreg u v && not (holds written (b, v))) ≡ is_vreg u v
asked_free written b u v none = elim (cases_Bool (is_vreg u v)) [
  | inl h ↦ (let same : holds written (b, v) ≡ false = subst (λ (w : VirtualRegister). holds written (b, w) ≡ false) (is_vreg-true u v h) none in
      rw (h, same) refl)
  | inr h ↦ rw h refl
]

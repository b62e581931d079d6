-- Blocks without a mark stay solved while one block's edges are passed on.
use Rattle.std.proofs.Common.{ℕ, zero, suc, ◌≡◌, ◌+◌, ◌<◌, inl, inr, arith, Bool, true, false, List, [], ◌∷◌, length, get_or, set, refl, sym, ap, ◌∙◌}
use Rattle.std.proofs.Common.{subst, below_more}
use Rattle.std.specs.Prelude.{◌&&◌, slice_index}
use Rattle.std.proofs.lemmas.Bool.{cases_Bool, cases_eq, and_parts}
use Rattle.std.proofs.lemmas.List.{get_or-set_same, get_or-set_other, length-set}
use Rattle.std.specs.declared.cmp.Reverse.{Reverse}
use Rattle.regalloc2_index.proofs.Bools.{from_both}
use Rattle.regalloc2_names.specs.Register.{VirtualRegister}
use Rattle.regalloc2_names.specs.Place.{Place}
use Rattle.regalloc2_function.specs.FunctionValue.{FunctionValue, block_at}
use Rattle.regalloc2_function.specs.OutputValue.{OutputValue}
use Rattle.regalloc2_function.specs.WellFormed.{IsFramed}
use Rattle.regalloc2_checker.specs.Facts.{Facts}
use Rattle.regalloc2_checker.specs.Fixpoint.{facts_passed}
use Rattle.regalloc2_checker.specs.Tables.{BlockView, view_at, facts_at, AreSoundViews, BlockSolved, EdgeSolved, EdgesSolved, IsUpdated}
use Rattle.regalloc2_checker.specs.Propagation.{mark_at, over, IsBlockEnd, IsPropagatedOver, AreReached, UnmarkedAreSolved, ArePropagated}
use Rattle.regalloc2_checker.proofs.RoundInvariant.{over-same, sound-updated}
use Rattle.regalloc2_checker.proofs.FactsFollowMaps.{AreEarlier}

-- an update leaves the edges of every other block solved
module _ (f : FunctionValue) (o : OutputValue) (t new : List BlockView) (target : ℕ) (passed : Facts) (u : IsUpdated t new target passed) where
  -- a block has no more facts than it had, if it was reached
  fewer : (s : ℕ) → (view_at t s).reached ≡ true → (p : Place) (v : VirtualRegister) → facts_at new s p v ≡ true → facts_at t s p v ≡ true
  fewer s r p v h = elim (cases_eq s target) [
    | inl e ↦ (let m : facts_at new s p v ≡ (facts_at t s p v && passed p v) =
        subst (λ (n : ℕ). facts_at new n p v ≡ (facts_at t n p v && passed p v)) (sym e)
        (u.met (subst (λ (n : ℕ). (view_at t n).reached ≡ true) e r) p v) in
        (and_parts _ _ (sym m ∙ h)).0)
    | inr n ↦ ap (λ (x : BlockView). x.facts p v) (sym (u.others s n)) ∙ h
  ]

  still : (s : ℕ) → (view_at t s).reached ≡ true → (view_at new s).reached ≡ true
  still s r = elim (cases_eq s target) [
    | inl e ↦ subst (λ (n : ℕ). (view_at new n).reached ≡ true) (sym e) u.reached
    | inr n ↦ ap (λ (x : BlockView). x.reached) (u.others s n) ∙ r
  ]

  edge-keeps : (c j : ℕ) → (c ≡ target → ⊥) → EdgeSolved f o t c j → EdgeSolved f o new c j
  edge-keeps c j n e = record {
    reached = still (slice_index (block_at f c).succs j) e.reached;
    within = λ p v h. subst (λ (x : BlockView). facts_passed f o c j x.facts p v ≡ true) (sym (u.others c n))
        (e.within p v (fewer (slice_index (block_at f c).succs j) e.reached p v h));
  }

  edges-keep : (c n : ℕ) → (c ≡ target → ⊥) → EdgesSolved f o t c n → EdgesSolved f o new c n
  edges-keep c n d e r j less = edge-keeps c j d (e (ap (λ (x : BlockView). x.reached) (sym (u.others c d)) ∙ r) j less)

  -- what the successor has now was passed to it
  given : (p : Place) (v : VirtualRegister) → facts_at new target p v ≡ true → passed p v ≡ true
  given p v h = elim (cases_Bool (view_at t target).reached) [
    | inl m ↦ (and_parts _ _ (sym (u.met m p v) ∙ h)).1
    | inr m ↦ ap (λ (x : Facts). x p v) (sym (u.first m)) ∙ h
  ]

mark-set : (marks : List Bool) (i c : ℕ) → mark_at (set marks i true) c ≡ false → (c ≡ i → ⊥) → mark_at marks c ≡ false
mark-set marks i c h n = sym (get_or-set_other marks i c true true n) ∙ h

unmarked-apart : (marks : List Bool) (i c : ℕ) → i < length marks → mark_at (set marks i true) c ≡ false → c ≡ i → ⊥
unmarked-apart marks i c less h e = from_both (mark_at (set marks i true) i) (get_or-set_same marks i true true less)
    (subst (λ (n : ℕ). mark_at (set marks i true) n ≡ false) e h)

-- one edge more
module _ (f : FunctionValue) (o : OutputValue) (old t new : List BlockView) (marks after : List Bool) (b k : ℕ) (F : Facts)
    (a : ArePropagated f o old t marks b k)
    (low : b < length f.blocks) (target_low : slice_index (block_at f b).succs k < length f.blocks) (ends : IsBlockEnd f o b (facts_at old b) F) where
  -- an edge that changed its successor is propagated over: the successor has a mark, and blocks without one are still solved
  pub passed-changed : IsPropagatedOver f b k F t new marks after true → ArePropagated f o old new after b (k + 1)
  passed-changed s =
      let u : IsUpdated t new (slice_index (block_at f b).succs k) (over f b k F) = s.met.updated refl in
      let there : slice_index (block_at f b).succs k < length marks = omega (arith, a.size, target_low) in
      let m : after ≡ set marks (slice_index (block_at f b).succs k) true = s.marked in
      record {
        size = ap length m ∙ length-set marks (slice_index (block_at f b).succs k) true ∙ a.size;
        others = λ c less n h.
            let g : mark_at (set marks (slice_index (block_at f b).succs k) true) c ≡ false = subst (λ (x : List Bool). mark_at x c ≡ false) m h in
            let d = unmarked-apart marks (slice_index (block_at f b).succs k) c there g in
            edges-keep f o t new (slice_index (block_at f b).succs k) (over f b k F) u c _ d (a.others c less n (mark-set marks _ c g d));
        here = λ h.
            let g : mark_at (set marks (slice_index (block_at f b).succs k) true) b ≡ false = subst (λ (x : List Bool). mark_at x b ≡ false) m h in
            let d = unmarked-apart marks (slice_index (block_at f b).succs k) b there g in
            let was = a.here (mark-set marks _ b g d) in
            let same : view_at new b ≡ view_at old b = u.others b d ∙ was.0 in (
              same,
              λ q. below_more (λ j. EdgeSolved f o new b j) k (edges-keep f o t new (slice_index (block_at f b).succs k) (over f b k F) u b k d was.1 q)
                  (record {
                    reached = u.reached;
                    within = λ p v y. subst (λ (x : BlockView). facts_passed f o b k x.facts p v ≡ true) (sym same)
                        (sym (over-same f b k F _ ends p v) ∙ given f o t new (slice_index (block_at f b).succs k) (over f b k F) u p v y);
                  }),
            );
      }

  -- an edge that changed nothing is propagated over: table and marks stay, and the edge is solved if its block has no mark
  pub passed-unchanged : IsPropagatedOver f b k F t new marks after false → ArePropagated f o old new after b (k + 1)
  passed-unchanged s =
      let e : new ≡ t = (s.met.same refl).0 in
      let m : after ≡ marks = s.marked in
      subst (λ (x : List BlockView). ArePropagated f o old x after b (k + 1)) (sym e)
      (subst (λ (x : List Bool). ArePropagated f o old t x b (k + 1)) (sym m) (record {
        size = a.size;
        others = a.others;
        here = λ h.
            let was = a.here h in (
              was.0,
              λ q. below_more (λ j. EdgeSolved f o t b j) k (was.1 q) (record {
                reached = (s.met.same refl).1;
                within = λ p v y. subst (λ (x : BlockView). facts_passed f o b k x.facts p v ≡ true) (sym was.0)
                    (sym (over-same f b k F _ ends p v) ∙ (s.met.same refl).2 p v y);
              }),
            );
      }))

-- when all its edges are passed on, the block is kept too
pub all-kept : (f : FunctionValue) (o : OutputValue) (old t : List BlockView) (marks : List Bool) (b : ℕ) →
    ArePropagated f o old t marks b (length (block_at f b).succs) → UnmarkedAreSolved f o t marks
all-kept f o old t marks b a = record {
  size = a.size;
  settled = λ c less h. elim (cases_eq c b) [
    | inl e ↦ subst (λ (n : ℕ). BlockSolved f o t n) (sym e) (a.here (subst (λ (n : ℕ). mark_at marks n ≡ false) e h)).1
    | inr n ↦ a.others c less n h
  ];
}

-- a block's mark is taken away before its edges are passed on
pub mark-taken : (f : FunctionValue) (o : OutputValue) (t : List BlockView) (marks : List Bool) (b : ℕ) → UnmarkedAreSolved f o t marks →
    ArePropagated f o t t (set marks b false) b 0
mark-taken f o t marks b h = record {
  size = length-set marks b false ∙ h.size;
  others = λ c less n g. h.settled c less (sym (get_or-set_other marks b c false true n) ∙ g);
  here = λ g. (refl, λ q j less. absurd (omega arith));
}

-- the first k edges of block b are propagated
pub record EdgesPassed (f : FunctionValue) (o : OutputValue) (old t : List BlockView) (marks : List Bool) (b k : ℕ) : Type 0 where
  pub sound : AreSoundViews f o t
  pub kept : ArePropagated f o old t marks b k

-- the first k edges of block b are propagated, and the queue has blocks that are reached
pub record ArePassedOn (f : FunctionValue) (o : OutputValue) (old t : List BlockView) (marks : List Bool) (entries : List (Reverse (ℕ × ℕ))) (b k : ℕ)
    : Type 0 where
  pub passed : EdgesPassed f o old t marks b k
  pub reached : AreReached t entries

-- before any of them is
pub edges-first : (f : FunctionValue) (o : OutputValue) (t : List BlockView) (marks : List Bool) (b : ℕ) → AreSoundViews f o t →
    ArePropagated f o t t marks b 0 →
    EdgesPassed f o t t marks b 0
edges-first f o t marks b s a = record { sound = s; kept = a }

-- an edge of a reached block, which had the facts that led to F at its end
pub record EdgeLeaves (f : FunctionValue) (o : OutputValue) (old : List BlockView) (b k : ℕ) (F : Facts) : Type 0 where
  pub sound : AreSoundViews f o old
  pub reached : (view_at old b).reached ≡ true
  pub low : b < length f.blocks
  pub less : k < length (block_at f b).succs
  pub ends : IsBlockEnd f o b (facts_at old b) F

-- one edge more
pub edge-passed : AreEarlier → (f : FunctionValue) (o : OutputValue) → IsFramed f → (old t new : List BlockView) (marks after : List Bool) (b k : ℕ) (F : Facts)
    (changed : Bool) → EdgeLeaves f o old b k F → EdgesPassed f o old t marks b k → IsPropagatedOver f b k F t new marks after changed →
    EdgesPassed f o old new after b (k + 1)
edge-passed law f o ok old t new marks after b k F true e so_far p = record {
  sound = sound-updated law f o ok t new b k (facts_at old b) (over f b k F) so_far.sound (e.sound.reached b e.reached)
      (λ q v. e.sound.refuted b q v e.reached) e.less (λ q v. over-same f b k F _ e.ends q v) (p.met.updated refl);
  kept = passed-changed f o old t new marks after b k F so_far.kept e.low (ok.successors.1 b e.low k 0 e.less) e.ends p;
}
edge-passed law f o ok old t new marks after b k F false e so_far p = record {
  sound = subst (AreSoundViews f o) (sym (p.met.same refl).0) so_far.sound;
  kept = passed-unchanged f o old t new marks after b k F so_far.kept e.low (ok.successors.1 b e.low k 0 e.less) e.ends p;
}

-- a mark, as it was read
pub mark-is : (marks : List Bool) (i b : ℕ) (y m : Bool) → i < length marks → y ≡ get_or marks i y → i ≡ b → y ≡ m → mark_at marks b ≡ m
mark-is [] i b y m less e at is = absurd (omega arith)
mark-is (x ∷ marks) zero b y m less e at is = subst (λ (n : ℕ). mark_at (x ∷ marks) n ≡ m) at (sym e ∙ is)
mark-is (x ∷ marks) (suc i) b y m less e at is = subst (λ (n : ℕ). mark_at (x ∷ marks) n ≡ m) at (mark-is marks i i y m (omega arith) e refl is)

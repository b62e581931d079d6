-- What passing on over edges keeps, and what it leaves at the end.
use Rattle.std.proofs.Common.{ℕ, ◌≡◌, ◌+◌, ◌-◌, ◌<◌, inl, inr, arith, true, false, List, [], ◌∷◌, length, refl, sym, ap, ◌∙◌, subst}
use Rattle.std.specs.Prelude.{◌&&◌, slice_index}
use Rattle.std.proofs.lemmas.Bool.{cases_Bool, cases_eq, and_cases, and_left}
use Rattle.regalloc2_names.specs.Register.{VirtualRegister}
use Rattle.regalloc2_names.specs.Place.{Place}
use Rattle.regalloc2_function.specs.FunctionValue.{FunctionValue, block_at}
use Rattle.regalloc2_function.specs.OutputValue.{OutputValue}
use Rattle.regalloc2_semantics.specs.Runs.{Way, Onward, ToSuccessor, Location, first_of, next_of, end_of, HasWay, IsPath}
use Rattle.regalloc2_function.specs.WellFormed.{IsFramed}
use Rattle.regalloc2_checker.specs.Facts.{Facts, IsTraced, facts_over_edge, facts_after, true_facts}
use Rattle.regalloc2_checker.specs.Fixpoint.{nth_of, IsReachedBlock, facts_within, facts_passed, IsRefuted}
use Rattle.regalloc2_checker.specs.Tables.{BlockView, view_at, facts_at, AreSoundViews, AllSolved, IsUpdated, IsSolved}
use Rattle.regalloc2_checker.proofs.FactsTraced.{traced-after, traced-edge, traced-then, change-same}
use Rattle.regalloc2_checker.proofs.FactsFollowMaps.{AreEarlier, true_facts-way}
use Rattle.regalloc2_checker.proofs.Fixpoint.{reached_within, refuted_within, refuted_change, within-suc}
use Rattle.regalloc2_checker.proofs.FixpointDecides.{reached_nonempty, block_within}

-- a successor of a reached block is reached
pub reached_passed : (f : FunctionValue) → IsFramed f → (b k : ℕ) → IsReachedBlock f b → k < length (block_at f b).succs →
    IsReachedBlock f (slice_index (block_at f b).succs k)
reached_passed f ok b k r less =
    let some = reached_nonempty f ok b r in
    let n : ℕ = (block_at f b).range.end - (block_at f b).range.first - 1 in
    let w = reached_within f b r n (omega arith) in
    let last : (block_at f b).range.first + n + 1 ≡ (block_at f b).range.end = omega arith in (
      ToSuccessor k ∷ w.0,
      (w.1, subst (λ (l : Location). HasWay f l (ToSuccessor k)) (sym w.2) (last, less)),
      ap (λ (l : Location). next_of f l (ToSuccessor k)) w.2,
    )

-- what a block and an edge drop fails on a path to the successor
pub refuted_passed : AreEarlier → (f : FunctionValue) (o : OutputValue) → IsFramed f → (b k : ℕ) (F : Facts) → IsReachedBlock f b →
    k < length (block_at f b).succs →
    ((p : Place) (v : VirtualRegister) → F p v ≡ false → IsRefuted f o (first_of f b) p v) →
    (p : Place) (v : VirtualRegister) → facts_passed f o b k F p v ≡ false → IsRefuted f o (first_of f (slice_index (block_at f b).succs k)) p v
unfolding facts_over_edge
refuted_passed law f o ok b k F r less h p v x =
    let some = reached_nonempty f ok b r in
    let first : ℕ = (block_at f b).range.first in
    let end : ℕ = (block_at f b).range.end in
    let n : ℕ = end - first - 1 in
    let l : Location = nth_of f b n in
    let last : first + n + 1 ≡ end = omega arith in
    let e = within-suc f o b F (end - first) n (first + n) (omega arith) refl in
    let y : facts_over_edge f l (ToSuccessor k) (facts_after f o l (facts_within f o b F n)) p
    v ≡ false = subst (λ (G : Facts). facts_over_edge f l (ToSuccessor k) G p v ≡ false) e x in
    let t : IsTraced (λ F. facts_over_edge f l (ToSuccessor k) (facts_after f o l F)) =
    traced-then (facts_after f o l) (facts_over_edge f l (ToSuccessor k)) (traced-after f o l) (traced-edge f l (ToSuccessor k)) in
    let w = refuted_change f o l (facts_within f o b F n) (λ F. facts_over_edge f l (ToSuccessor k) (facts_after f o l F)) t
    (reached_within f b r n (omega arith)) (refuted_within law f o b F r h n (omega arith)) p v y in
    let d = subst (λ (m : Location). facts_over_edge f m (ToSuccessor k) (facts_after f o m (true_facts f o w.0)) p v ≡ false) (sym w.2) w.3 in (
      ToSuccessor k ∷ w.0,
      (w.1, subst (λ (m : Location). HasWay f m (ToSuccessor k)) (sym w.2) (last, less)),
      ap (λ (m : Location). next_of f m (ToSuccessor k)) w.2,
      true_facts-way law f o (ToSuccessor k) w.0 p v ∙ d,
    )

-- an update keeps what is sound
module _ (law : AreEarlier) (f : FunctionValue) (o : OutputValue) (ok : IsFramed f) (old new : List BlockView) (b k : ℕ) (F passed : Facts)
    (s : AreSoundViews f o old) (r : IsReachedBlock f b) (dropped : (p : Place) (v : VirtualRegister) → F p v ≡ false → IsRefuted f o (first_of f b) p v)
    (less : k < length (block_at f b).succs)
    (exact : (p : Place) (v : VirtualRegister) → passed p v ≡ facts_passed f o b k F p v)
    (u : IsUpdated old new (slice_index (block_at f b).succs k) passed) where
  passed_refuted : (p : Place) (v : VirtualRegister) → passed p v ≡ false → IsRefuted f o (first_of f (slice_index (block_at f b).succs k)) p v
  passed_refuted p v h = refuted_passed law f o ok b k F r less dropped p v (sym (exact p v) ∙ h)

  target_refuted : (p : Place) (v : VirtualRegister) → facts_at new (slice_index (block_at f b).succs k) p v ≡ false →
      IsRefuted f o (first_of f (slice_index (block_at f b).succs k)) p v
  target_refuted p v h = elim (cases_Bool (view_at old (slice_index (block_at f b).succs k)).reached) [
    | inl m ↦ elim (and_cases _ _ (sym (u.met m p v) ∙ h)) [
      | inl x ↦ s.refuted (slice_index (block_at f b).succs k) p v m x
      | inr x ↦ passed_refuted p v x
    ]
    | inr m ↦ passed_refuted p v (ap (λ (x : Facts). x p v) (sym (u.first m)) ∙ h)
  ]

  entry_empty : (p : Place) (v : VirtualRegister) → facts_at new f.entry p v ≡ false
  entry_empty p v = elim (cases_eq f.entry (slice_index (block_at f b).succs k)) [
    | inl e ↦ subst (λ (t : ℕ). facts_at new t p v ≡ (facts_at old t p v && passed p v)) (sym e)
        (u.met (subst (λ (t : ℕ). (view_at old t).reached ≡ true) e s.started) p v)
        ∙ and_left _ _ (s.nothing p v)
    | inr n ↦ ap (λ (x : BlockView). x.facts p v) (u.others f.entry n) ∙ s.nothing p v
  ]

  -- a meet into its successor of what a reached block propagates over an edge keeps the table valid
  pub sound-updated : AreSoundViews f o new
  sound-updated = record {
    size = u.size ∙ s.size;
    started = elim (cases_eq f.entry (slice_index (block_at f b).succs k)) [
      | inl e ↦ subst (λ (t : ℕ). (view_at new t).reached ≡ true) (sym e) u.reached
      | inr n ↦ ap (λ (x : BlockView). x.reached) (u.others f.entry n) ∙ s.started
    ];
    nothing = entry_empty;
    reached = λ c h. elim (cases_eq c (slice_index (block_at f b).succs k)) [
      | inl e ↦ subst (IsReachedBlock f) (sym e) (reached_passed f ok b k r less)
      | inr n ↦ s.reached c (ap (λ (x : BlockView). x.reached) (sym (u.others c n)) ∙ h)
    ];
    refuted = λ c p v h x. elim (cases_eq c (slice_index (block_at f b).succs k)) [
      | inl e ↦ subst (λ (t : ℕ). IsRefuted f o (first_of f t) p v) (sym e) (target_refuted p v (subst (λ (t : ℕ). facts_at new t p v ≡ false) e x))
      | inr n ↦ s.refuted c p v (ap (λ (x : BlockView). x.reached) (sym (u.others c n)) ∙ h)
          (ap (λ (x : BlockView). x.facts p v) (sym (u.others c n)) ∙ x)
    ];
  }

-- at the end every reached block is marked
marked : (f : FunctionValue) (o : OutputValue) (t : List BlockView) → IsFramed f → AreSoundViews f o t → AllSolved f o t → (ws : List Way) → IsPath f ws →
    (view_at t (end_of f ws).block).reached ≡ true
marked f o t ok s a [] h = s.started
marked f o t ok s a (Onward ∷ ws) h = marked f o t ok s a ws h.0
marked f o t ok s a (ToSuccessor k ∷ ws) h = (a (end_of f ws).block (block_within f ok ws h.0) (marked f o t ok s a ws h.0) k h.1.1).reached

marked_block : (f : FunctionValue) (o : OutputValue) (t : List BlockView) → IsFramed f → AreSoundViews f o t → AllSolved f o t → (b : ℕ) → IsReachedBlock f b →
    (view_at t b).reached ≡ true
marked_block f o t ok s a b r = subst (λ (l : Location). (view_at t l.block).reached ≡ true) r.2 (marked f o t ok s a r.0 r.1)

block_below : (f : FunctionValue) → IsFramed f → (b : ℕ) → IsReachedBlock f b → b < length f.blocks
block_below f ok b r = subst (λ (l : Location). l.block < length f.blocks) r.2 (block_within f ok r.0 r.1)

-- at the end the table is what the checker requires
pub solved : (f : FunctionValue) (o : OutputValue) (t : List BlockView) → IsFramed f → AreSoundViews f o t → AllSolved f o t → IsSolved f o t
solved f o t ok s a = record {
  size = s.size;
  reached = λ b. (s.reached b, marked_block f o t ok s a b);
  settled = record {
    entry = s.nothing;
    edges = λ b k r less. (a b (block_below f ok b r) (marked_block f o t ok s a b r) k less).within;
  };
  refuted = λ b p v r. s.refuted b p v (marked_block f o t ok s a b r);
}

-- the edge's own step, of what the block makes
pub over-same : (f : FunctionValue) (b k : ℕ) (F G : Facts) → ((p : Place) (v : VirtualRegister) → F p v ≡ G p v) → (p : Place) (v : VirtualRegister) →
    facts_over_edge f (first_of f b) (ToSuccessor k) F p v ≡ facts_over_edge f (first_of f b) (ToSuccessor k) G p v
over-same f b k F G e = change-same (facts_over_edge f (first_of f b) (ToSuccessor k)) (traced-edge f (first_of f b) (ToSuccessor k)) F G e

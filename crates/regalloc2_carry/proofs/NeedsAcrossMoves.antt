-- What the moves around an instruction do to what each number needs.
use Rattle.std.proofs.Common.{◌≡◌, ◌≢◌, ℕ, ◌+◌, Bool, true, false, List, ◌∷◌, Option, Some, ⊎_elim, sym, ap, ◌∙◌, arith}
use Rattle.std.proofs.lemmas.Bool.{cases_eq}
use Rattle.regalloc2_names.specs.Register.{VirtualRegister}
use Rattle.regalloc2_names.specs.Place.{Place, NoPlace}
use Rattle.regalloc2_carry.specs.Listing.{Item}
use Rattle.regalloc2_carry.specs.Listing.Item.{Move}
use Rattle.regalloc2_carry.specs.Instruction.{Claims}
use Rattle.regalloc2_carry.specs.OperandsPlaced.{What, Need, located, in_slot, made, Pending, still, slotted, used, Progress, GoesToSlot, IsMoved}
use Rattle.regalloc2_carry.proofs.CarryRules.{carries_move, carries_weaken, carries_by_two_moves}

-- a listing carries more, and less of it is needed
pub claims_weaken : (IsTracked : VirtualRegister → Type 0) (E : VirtualRegister → Place → Type 0) (L : List Item) (N M : ℕ → Place → Type 0) →
    ((n : ℕ) (p : Place) → N n p → M n p) → Claims IsTracked L N E → Claims IsTracked L M E
claims_weaken IsTracked E L N M h g v known = carries_weaken v L (N v.number) (M v.number) (E v) (E v) (h v.number) (λ p x. x) (g v known)

-- a move in front
pub claims_move : (IsTracked : VirtualRegister → Type 0) (E : VirtualRegister → Place → Type 0) (L : List Item) (N M : ℕ → Place → Type 0) (from to : Place) →
    to ≢ NoPlace →
    ((n : ℕ) → N n to → M n from) → ((n : ℕ) (p : Place) → (p ≡ to → ⊥) → N n p → M n p) → Claims IsTracked L N E →
    Claims IsTracked (Move (record { from = from; to = to }) ∷ L) M E
claims_move IsTracked E L N M from to there moved kept g v known =
    carries_move v (record { from = from; to = to }) L (N v.number) (M v.number) (E v) there (moved v.number) (kept v.number) (g v known)

-- a move by way of a place that no vreg needs
pub claims_by_two_moves : (IsTracked : VirtualRegister → Type 0) (E : VirtualRegister → Place → Type 0) (L : List Item) (N M : ℕ → Place → Type 0) (from by to : Place) →
    by ≢ NoPlace → to ≢ NoPlace → ((n : ℕ) → N n by → ⊥) →
    ((n : ℕ) → N n to → M n from) → ((n : ℕ) (p : Place) → (p ≡ to → ⊥) → N n p → M n p) → Claims IsTracked L N E →
    Claims IsTracked (Move (record { from = from; to = by }) ∷ (Move (record { from = by; to = to }) ∷ L)) M E
claims_by_two_moves IsTracked E L N M from by to there_by there_to clear moved kept g v known =
    carries_by_two_moves v from by to L (N v.number) (M v.number) (E v) there_by there_to (clear v.number) (moved v.number) (kept v.number) (g v known)

module _ (IsTracked : VirtualRegister → Type 0) (E : VirtualRegister → Place → Type 0) (L : List Item) where
  -- the reload of w, which is evicted
  pub need_evict : (lived out : ℕ → Bool) (X : Place → ℕ → Bool) (T U S : ℕ → Option Place) (w : ℕ) (r p : Place) → GoesToSlot T U S w r p
      → ((x : ℕ) → X r x ≡ false) → Claims IsTracked L (Need lived out X T S) E
      → Claims IsTracked (Move (record { from = p; to = r }) ∷ L) (Need lived out X U S) E
  need_evict lived out X T U S w r p h clear =
      claims_move IsTracked E L (Need lived out X T S) (Need lived out X U S) p r h.there
      (λ v o. elim o [
        | located l e ↦ located l (ap U (h.alone v e) ∙ h.sets.now)
        | in_slot n e ↦ absurd (h.no_slot v e)
        | made x ↦ let c = clear v in absurd cc
      ])
      (λ v q ne o. elim o [
        | located l e ↦ located l (h.sets.same v (λ i. let a : T w ≡ Some q = ap T (sym i) ∙ e in let c : Some r ≡ Some q = sym h.was ∙ a in
            let b : q ≡ r = cc in ne b) ∙ e)
        | in_slot n e ↦ in_slot n e
        | made x ↦ made x
      ])

  -- a new slot only adds to what is needed
  pub need_slot : (lived out : ℕ → Bool) (X : Place → ℕ → Bool) (T S S2 : ℕ → Option Place)
      → ((x : ℕ) (p : Place) → S x ≡ Some p → S2 x ≡ Some p)
      → Claims IsTracked L (Need lived out X T S) E → Claims IsTracked L (Need lived out X T S2) E
  need_slot lived out X T S S2 grows =
      claims_weaken IsTracked E L (Need lived out X T S) (Need lived out X T S2)
      (λ v q o. elim o [ located l e ↦ located l e | in_slot n e ↦ in_slot n (grows v q e) | made x ↦ made x ])

  -- a use of a number that had no location
  pub need_new : (lived out : ℕ → Bool) (X : Place → ℕ → Bool) (T U S : ℕ → Option Place) (u : ℕ)
      → lived u ≡ false → ((x : ℕ) → (x ≡ u → ⊥) → U x ≡ T x)
      → Claims IsTracked L (Need lived out X T S) E → Claims IsTracked L (Need lived out X U S) E
  need_new lived out X T U S u dead same =
      claims_weaken IsTracked E L (Need lived out X T S) (Need lived out X U S)
      (λ v q o. elim o [
        | located l e ↦ located l (same v (λ i. let a : lived u ≡ true = ap lived (sym i) ∙ l in cc) ∙ e)
        | in_slot n e ↦ in_slot n e
        | made x ↦ made x
      ])

-- before the instruction: the move of the use k to its place from c, the current location of its number
module _ (what : ℕ → What) (p : Progress) (T S : ℕ → Option Place) (k : ℕ) (c : Place) (h : IsMoved what p T S k c) where
  moved_here : (v : ℕ) → Pending what p.here p.done p.out T S k v (p.here k) → Pending what p.here p.done p.out T S (k + 1) v c
  moved_here v o = elim o [
    | still e ↦ still (ap T (h.alone v e) ∙ h.was_located)
    | slotted n e ↦ still (ap T (h.own v e) ∙ h.was_located)
    | used j le lt u i e ↦ still (ap T (sym i ∙ h.apart j lt u e) ∙ h.was_located)
  ]

  moved_there : (v : ℕ) (q : Place) → (q ≡ p.here k → ⊥) → Pending what p.here p.done p.out T S k v q → Pending what p.here p.done p.out T S (k + 1) v q
  moved_there v q ne o = elim o [
    | still e ↦ still e
    | slotted n e ↦ slotted n e
    | used j le lt u i e ↦ used j (let x : j ≡ k → ⊥ = λ y. ne (sym e ∙ ap p.here y) in omega arith) lt u i e
  ]

  -- once it is listed in front, only the moves of the uses behind k are not listed
  pub pend_move : (IsTracked : VirtualRegister → Type 0) (E : VirtualRegister → Place → Type 0) (L : List Item)
      → Claims IsTracked L (Pending what p.here p.done p.out T S k) E → Claims IsTracked (Move (record { from = c; to = p.here k }) ∷ L)
      (Pending what p.here p.done p.out T S (k + 1)) E
  pend_move IsTracked E L = claims_move IsTracked E L (Pending what p.here p.done p.out T S k) (Pending what p.here p.done p.out T S (k + 1)) c (p.here k) h.there
      moved_here
      moved_there

  -- the need moves back over two moves, through an intermediate place that nothing needs
  pub pending_by_two_moves : (by : Place) (IsTracked : VirtualRegister → Type 0) (E : VirtualRegister → Place → Type 0) (L : List Item)
      → by ≢ NoPlace → ((v : ℕ) → Pending what p.here p.done p.out T S k v by → ⊥)
      → Claims IsTracked L (Pending what p.here p.done p.out T S k) E → Claims IsTracked
      (Move (record { from = c; to = by }) ∷ (Move (record { from = by; to = p.here k }) ∷ L)) (Pending what p.here p.done p.out T S (k + 1)) E
  pending_by_two_moves by IsTracked E L real clear = claims_by_two_moves IsTracked E L (Pending what p.here p.done p.out T S k) (Pending what p.here p.done p.out T S (k + 1)) c by
      (p.here k) real
      h.there clear moved_here moved_there

  -- no move is needed where the number is in the use's place already
  pub pend_stay : c ≡ p.here k → (IsTracked : VirtualRegister → Type 0) (E : VirtualRegister → Place → Type 0) (L : List Item)
      → Claims IsTracked L (Pending what p.here p.done p.out T S k) E → Claims IsTracked L (Pending what p.here p.done p.out T S (k + 1)) E
  pend_stay same IsTracked E L = claims_weaken IsTracked E L (Pending what p.here p.done p.out T S k) (Pending what p.here p.done p.out T S (k + 1))
      (λ v q o. elim o [
        | still e ↦ still e
        | slotted n e ↦ slotted n e
        | used j le lt u i e ↦ ⊎_elim
            (λ (y : j ≡ k). still (ap T (sym i ∙ ap (λ (x : ℕ). (what x).number) y) ∙ h.was_located ∙ ap Some (same ∙ ap p.here (sym y) ∙ e)))
            (λ (ne : j ≡ k → ⊥). used j (omega arith) lt u i e)
            (cases_eq j k)
      ])

module _ (IsTracked : VirtualRegister → Type 0) (E : VirtualRegister → Place → Type 0) (L : List Item) (what : ℕ → What)
    (p : Progress) where
  -- an operand that has no move: a definition, or one that isn't placed
  pub pend_pass : (T S : ℕ → Option Place) (k : ℕ) → (p.done k ≡ true → (what k).is_def ≡ true)
      → Claims IsTracked L (Pending what p.here p.done p.out T S k) E → Claims IsTracked L (Pending what p.here p.done p.out T S (k + 1)) E
  pend_pass T S k def = claims_weaken IsTracked E L (Pending what p.here p.done p.out T S k) (Pending what p.here p.done p.out T S (k + 1))
      (λ v q o. elim o [
        | still e ↦ still e
        | slotted n e ↦ slotted n e
        | used j le lt u i e ↦ used j (let x : j ≡ k → ⊥ = λ y. let d : p.done k ≡ true = ap p.done (sym y) ∙ lt in
            let z : (what j).is_def ≡ true = ap (λ (x : ℕ). (what x).is_def) y ∙ def d in cc in omega arith) lt u i e
      ])

  -- the reload of w, which a scratch register evicts before the instruction
  pub pend_evict : (T U S : ℕ → Option Place) (k w : ℕ) (r q : Place) → GoesToSlot T U S w r q
      → ((j : ℕ) → p.done j ≡ true → (what j).is_def ≡ false → p.here j ≡ r → ⊥)
      → Claims IsTracked L (Pending what p.here p.done p.out T S k) E
      → Claims IsTracked (Move (record { from = q; to = r }) ∷ L) (Pending what p.here p.done p.out U S k) E
  pend_evict T U S k w r q h clear =
      claims_move IsTracked E L (Pending what p.here p.done p.out T S k) (Pending what p.here p.done p.out U S k) q r h.there
      (λ v o. elim o [
        | still e ↦ still (ap U (h.alone v e) ∙ h.sets.now)
        | slotted n e ↦ absurd (h.no_slot v e)
        | used j le lt u i e ↦ absurd (clear j lt u e)
      ])
      (λ v o ne x. elim x [
        | still e ↦ still (h.sets.same v (λ i. let a : T w ≡ Some o = ap T (sym i) ∙ e in let c : Some r ≡ Some o = sym h.was ∙ a in let b : o ≡ r = cc in ne b)
            ∙ e)
        | slotted n e ↦ slotted n e
        | used j le lt u i e ↦ used j le lt u i e
      ])

  -- what is claimed with some slots is claimed with more
  pub pend_slot : (T S S2 : ℕ → Option Place) (k : ℕ)
      → ((x : ℕ) (q : Place) → S x ≡ Some q → S2 x ≡ Some q)
      → Claims IsTracked L (Pending what p.here p.done p.out T S k) E → Claims IsTracked L (Pending what p.here p.done p.out T S2 k) E
  pend_slot T S S2 k grows =
      claims_weaken IsTracked E L (Pending what p.here p.done p.out T S k) (Pending what p.here p.done p.out T S2 k)
      (λ v q o. elim o [ still e ↦ still e | slotted n e ↦ slotted n (grows v q e) | used j le lt u i e ↦ used j le lt u i e ])

-- An instruction leaves a slot to its owner: only the owner's value is written there.
use Rattle.std.proofs.Common.{ℕ, suc, ◌≡◌, ◌<◌, ◌≤◌, ◌⊎◌, inl, inr, List, [], ◌∷◌, sym, ap, subst, arith}
use Rattle.std.specs.Prelude.{All, Option, Some, slice_index_or}
use Rattle.std.proofs.lemmas.Bool.{cases_eq}
use Rattle.regalloc2_names.specs.Register.{VirtualRegister}
use Rattle.regalloc2_names.specs.Place.{Place, InSlot}
use Rattle.regalloc2_function.specs.Machine.{MachineValue}
use Rattle.regalloc2_function.specs.OutputValue.{MoveValue}
use Rattle.regalloc2_carry.specs.Listing.{with_moves}
use Rattle.regalloc2_carry.specs.Carry.{Untouched}
use Rattle.regalloc2_carry.specs.BlockByPoints.{at_point}
use Rattle.regalloc2_semantics.proofs.Cells.{cases_place}
use Rattle.regalloc2_carry.proofs.Points.{at_point-here, at_point-other}
use Rattle.regalloc2_carry.proofs.UnwrittenPlaces.{NoMoveTo}
use Rattle.regalloc2_fastalloc_state.specs.StateParts.{slot_name}
use Rattle.regalloc2_fastalloc_proofs.specs.InstSteps.{StateValue}
use Rattle.regalloc2_fastalloc_proofs.specs.Safety.{IsEndOfMove, IsEndOfArgMove, IsSafeEdit}
use Rattle.regalloc2_fastalloc_proofs.proofs.Operands.RecordOverState.{opt, opt_from, slots_at}

-- no move at a point goes to a place, or one with a known property does
pub no_move_or : (p : Place) (q : ℕ) (es : List (ℕ × MoveValue)) (R : Type 0) → All (λ e. e.0 ≡ q → e.1.to ≡ p → R) es → NoMoveTo p (at_point es q) ⊎ R
unfolding Untouched with_moves
no_move_or p q [] R h = inl tt
no_move_or p q (e ∷ es) R h = elim (no_move_or p q es R (λ k d lt. h (suc k) d (omega arith))) [
  | inr r ↦ inr r
  | inl rest ↦ elim (cases_eq e.0 q) [
    | inr not ↦ inl (subst (NoMoveTo p) (sym (at_point-other e.0 q e.1 es not)) rest)
    | inl is ↦ elim (cases_place e.1.to p) [
      | inl to ↦ inr (h 0 e (omega arith) is to)
      | inr ne ↦ inl (subst (NoMoveTo p) (sym (subst (λ x. at_point (e ∷ es) x ≡ e.1 ∷ at_point es x) is (at_point-here e.0 e.1 es))) (λ d. ne (sym d), rest))
    ]
  ]
]

module _ (env : MachineValue) (Known : VirtualRegister → Type 0) (same : (v w : VirtualRegister) → Known v → Known w → v.number ≡ w.number → v ≡ w)
    (Writes : ℕ → VirtualRegister → ℕ → Type 0) (May : ℕ → Type 0) (F : ℕ → Option Place)
    (own : (x y n : ℕ) → F x ≡ Some (InSlot n) → F y ≡ Some (InSlot n) → x ≡ y)
    (new : StateValue) (safe : All (IsSafeEdit env Known Writes new.slots May) new.edits) (stays : (x : ℕ) (p : Place) → slots_at new x ≡ Some p → F x ≡ Some p)
    (fresh : (x n : ℕ) → F x ≡ Some (InSlot n) → (slot_name new.slots x ≡ InSlot n) ⊎ (new.slots.count ≤ n)) where
  -- what a move into a vreg's own slot writes there
  pub writes_allowed : (n : ℕ) (v : VirtualRegister) → Known v → F v.number ≡ Some (InSlot n) → All (λ e. e.1.to ≡ InSlot n → Writes e.0 v n) new.edits
  writes_allowed n v known mine = λ k d lt to.
      let s = safe k d lt in
      elim s.moves [
        | inl m ↦ (
            let there : slot_name new.slots m.vreg.number ≡ InSlot n = subst (IsEndOfMove env new.slots m.vreg) to m.to in
            let is : m.vreg ≡ v = same m.vreg v m.known known (own m.vreg.number v.number n (stays m.vreg.number (InSlot n) (ap opt there)) mine) in
            subst (λ w. Writes (slice_index_or new.edits k d).0 w n) is (m.written n to))
        | inr m ↦ elim (m.written n to) [
          | inl w ↦ (
              let is : w.0 ≡ v = same w.0 v w.1 known (own w.0.number v.number n (stays w.0.number (InSlot n) (ap opt w.2)) mine) in
              subst (λ x. Writes (slice_index_or new.edits k d).0 x n) is w.3)
          | inr unowned ↦ elim (fresh v.number n mine) [
            | inl there ↦ absurd (unowned v known there)
            | inr later ↦ absurd (let below : n < new.slots.count = subst (IsEndOfArgMove env new.slots m.class) to m.to in omega arith)
          ]
        ]
      ]

-- only a vreg's own slot is written, of the slots of the tables
pub own_written : (env : MachineValue) (Known : VirtualRegister → Type 0) → ((v w : VirtualRegister) → Known v → Known w → v.number ≡ w.number → v ≡ w) →
    (Writes : ℕ → VirtualRegister → ℕ → Type 0) (May : ℕ → Type 0) (t : StateValue)
    → ((x y n : ℕ) → slot_name t.slots x ≡ InSlot n → slot_name t.slots y ≡ InSlot n → x ≡ y) → All (IsSafeEdit env Known Writes t.slots May) t.edits
    → (v : VirtualRegister) → Known v → (n : ℕ) → slots_at t v.number ≡ Some (InSlot n) → All (λ e. e.1.to ≡ InSlot n → Writes e.0 v n) t.edits
own_written env Known same Writes May t own safe v known n mine =
    writes_allowed env Known same Writes May (slots_at t) (λ x y k a b. own x y k (opt_from (slot_name t.slots x) (InSlot k) a)
    (opt_from (slot_name t.slots y) (InSlot k) b)) t safe (λ x p e. e)
    (λ x k e. inl (opt_from (slot_name t.slots x) (InSlot k) e)) n v known mine

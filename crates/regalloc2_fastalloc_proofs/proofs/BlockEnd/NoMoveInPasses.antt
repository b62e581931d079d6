-- At a block's last instruction, where no vreg is in a register, placing operands pushes no move: the passes.
-- The fold in `Changes` doesn't apply: what the listing carries, or the operands' record, differs from step to step.
use Rattle.std.proofs.Common.{ℕ, ◌≡◌, ◌≢◌, ◌<◌, List, Bool, true, false, cond, refl, sym, ap, ◌∙◌, ◌⊎◌, inl, inr, subst, arith, length, set, get_or-set_same}
use Rattle.std.specs.Prelude.{None, Some, ◌&&◌}
use Rattle.std.proofs.lemmas.Bool.{cases_eq, and_parts, or_right, both_ways, or_cases}
use Rattle.std.proofs.lemmas.List.{get_or-set_other}
use Rattle.std.proofs.Math.ListN.{length-set}
use Rattle.regalloc2_names.specs.declared.OperandConstraint.TheVariants.{FixedReg, Reuse}
use Rattle.regalloc2_names.specs.Register.{Register, VirtualRegister, has_register}
use Rattle.regalloc2_names.specs.Operand.{OperandValue, is_def, is_late, is_reading}
use Rattle.regalloc2_names.specs.Place.{Place, NoPlace, InRegister, InSlot, is_place, after}
use Rattle.regalloc2_function.specs.OutputValue.{MoveValue, place_at}
use Rattle.regalloc2_semantics.proofs.Cells.{is_place-same, is_place-other}
use Rattle.regalloc2_carry.proofs.Operands.{reads_use}
use Rattle.regalloc2_carry.proofs.Forms.{same_register}
use Rattle.regalloc2_fastalloc_state.specs.declared.inst_regs.InstRegs.{InstRegs}
use Rattle.regalloc2_fastalloc_state.specs.declared.positions.Positions.{Positions}
use Rattle.regalloc2_fastalloc_state.specs.declared.request.Requirement.TheVariants.{InPReg}
use Rattle.regalloc2_fastalloc_state.specs.StateParts.{VRegAllocsValue, SetsAlloc, alloc_of, vreg_of_preg}
use Rattle.regalloc2_fastalloc_state.specs.InstRegs.{IsAvailableAt}
use Rattle.regalloc2_fastalloc_state.specs.Positions.{positions_of}
use Rattle.regalloc2_function.specs.FunctionValue.{op_at}
use Rattle.regalloc2_fastalloc_proofs.specs.InstSteps.{StateValue, use_request, def_request, reuse_request, LocatesUse, stays, located, AllocsUse}
use Rattle.regalloc2_fastalloc_proofs.specs.InstSteps.{AllocsDefOp, ProcessesOperand, a_register, a_use, a_def, a_reuse, own, named}
use Rattle.regalloc2_fastalloc_proofs.proofs.Safety.StepsKeepSafe.{holder_after_set_alloc}
use Rattle.regalloc2_fastalloc_proofs.proofs.Operands.AllocsSoFar.{AreSoundOperands, reads_allocated, requires_fixed_reg, reuse_requires_fixed_reg}
use Rattle.regalloc2_fastalloc_proofs.proofs.BlockEnd.NoMoveForOperand.{Overlap, NeedsReg, claims, chosen, NoMovePushed, Awaiting, Origin, stood_there, asked}
use Rattle.regalloc2_fastalloc_proofs.proofs.BlockEnd.NoMoveForOperand.{was_free, in_a_slot, Got, no_register_slot, none_some, allocs_operand_no_move}
use Rattle.regalloc2_fastalloc_proofs.proofs.BlockEnd.NoMoveForOperand.{SamePlaces, same_places, frees_alloc_no_move}
use Rattle.regalloc2_fastalloc_proofs.proofs.Operands.OperandRules.{use_vreg}
use Rattle.regalloc2_fastalloc_proofs.proofs.Evictions.PushedAndRemoved.{no_some}
use Rattle.regalloc2_fastalloc_proofs.proofs.Moves.ScratchRegTaken.{Less, less_same}

-- the tables, where the same vregs are located in the same places
no_move_pushed_on : (ops : List OperandValue) (pass : Bool) (edits : List (ℕ × MoveValue)) (t u : InstRegs) (old new : StateValue) → Less t u → SamePlaces old new →
    NoMovePushed ops pass edits t old → NoMovePushed ops pass edits u new
no_move_pushed_on ops pass edits t u old new later same s = record {
  edits_are = same.edits ∙ s.edits_are;
  early = λ r v small held. later.early r (s.early r v small (sym (same.held_by r small) ∙ held));
  late = λ yes_pass r v small held. later.late r (s.late yes_pass r v small (sym (same.held_by r small) ∙ held));
  holds = λ r v small held. same.location_at v.number r (s.holds r v small (sym (same.held_by r small) ∙ held));
  located = λ n r at. (let x = s.located n r (same.stood_at n r at) in (x.0, (x.1.0, x.1.1, same.held_by r x.0 ∙ x.1.2)));
  away = λ k r less def at. s.away k r less def (same.stood_at (op_at ops k).vreg.number r at);
}

-- the walk of the last instruction goes on without moves if a vreg without a location gets one
no_move_after_use_located : (ops : List OperandValue) (pass : Bool) (edits : List (ℕ × MoveValue)) (v : VirtualRegister) (p : Place) (t u : InstRegs)
    (old new : StateValue) → Less t u → SetsAlloc old.places new.places v p → new.edits ≡ old.edits
    → alloc_of old.places v.number ≡ NoPlace
    → ((q : Register) → p ≡ InRegister q → (q.number < 64) × (vreg_of_preg old.places q ≡ None) × (has_register u.early q ≡ false)
    × (pass ≡ true → has_register u.late q ≡ false))
    → ((k : ℕ) → k < length ops → is_def (op_at ops k).kind ≡ true → (op_at ops k).vreg.number ≢ v.number)
    → NoMovePushed ops pass edits t old → NoMovePushed ops pass edits u new
no_move_after_use_located ops pass edits v p t u old new later z pushed nowhere mine other s = record {
  edits_are = pushed ∙ s.edits_are;
  early = λ r w small held. elim (holder_after_set_alloc old.places new.places v w p r small z held) [
    | inl a ↦ (mine r a.0).2
    | inr h ↦ later.early r (s.early r w small h)
  ];
  late = λ yes_pass r w small held. elim (holder_after_set_alloc old.places new.places v w p r small z held) [
    | inl a ↦ (mine r a.0).3 yes_pass
    | inr h ↦ later.late r (s.late yes_pass r w small h)
  ];
  holds = λ r w small held. elim (holder_after_set_alloc old.places new.places v w p r small z held) [
    | inl a ↦ (ap (λ (x : VirtualRegister). alloc_of new.places x.number) (sym a.1) ∙ z.here ∙ a.0)
    | inr h ↦ (let at : alloc_of old.places w.number ≡ InRegister r = s.holds r w small h in
        z.others w.number (λ e. (let x : NoPlace ≡ InRegister r = sym nowhere ∙ ap (alloc_of old.places) (sym e) ∙ at in cc)) ∙ at)
  ];
  located = λ n r at. elim (cases_eq n v.number) [
    | inl e ↦ (let is : p ≡ InRegister r = sym z.here ∙ ap (alloc_of new.places) (sym e) ∙ at in
        let small = (mine r is).0 in
        let yes : is_place p (InRegister r) ≡ true = ap (λ (x : Place). is_place x (InRegister r)) is ∙ is_place-same (InRegister r) in (
          small,
          (
            v,
            sym e,
            z.holders r small
                ∙ ap (λ (b : Bool). cond b (Some v) (cond (is_place (alloc_of old.places v.number) (InRegister r)) None (vreg_of_preg old.places r))) yes,
          ),
        ))
    | inr ne ↦ (let x = s.located n r (sym (z.others n ne) ∙ at) in
        let a : is_place p (InRegister r) ≡ false = is_place-other p (InRegister r) (λ f. none_some (vreg_of_preg old.places r) x.1.0 (mine r f).1 x.1.2) in
        let b : is_place (alloc_of old.places v.number) (InRegister r) ≡ false = ap (λ (y : Place). is_place y (InRegister r)) nowhere in
        (x.0, (x.1.0, x.1.1, z.holders r x.0 ∙ rw (a, b) x.1.2)))
  ];
  away = λ k r less def at. s.away k r less def (sym (z.others (op_at ops k).vreg.number (other k less def)) ∙ at);
}

-- no vreg arrives in a register other than this one
other_register_stays_empty : (v : VirtualRegister) (p : Place) (old new : VRegAllocsValue) (r : Register) → r.number < 64 → SetsAlloc old new v p → (p ≡ InRegister r → ⊥) →
    vreg_of_preg old r ≡ None → vreg_of_preg new r ≡ None
other_register_stays_empty v p old new r small z ne none = z.holders r small ∙ (let a : is_place p (InRegister r) ≡ false = is_place-other p (InRegister r) ne in
    rw a (either (is_place (alloc_of old v.number) (InRegister r))))
  where
    either : (b : Bool) → cond b None (vreg_of_preg old r) ≡ None
    either true = refl
    either false = none

-- the next operand is done
pub record NextDone (D E : ℕ → Type 0) (k : ℕ) : Type 0 where
  pub before_it : D k → ⊥
  pub back : (j : ℕ) → (E j → ⊥) → (D j → ⊥) × (j ≢ k)

needs_back : (ops : List OperandValue) (here there : List Place) (k : ℕ) (r : Register) (p : Positions) → place_at there k ≡ place_at here k →
    NeedsReg ops there k r p → NeedsReg ops here k r p
needs_back ops here there k r p e (claims c) = claims c
needs_back ops here there k r p e (chosen at is) = chosen (sym e ∙ at) is

-- operands that wait for their registers go on waiting, if fewer are left, no register becomes available, and their
-- registers stay empty
pub awaiting_on : (ops : List OperandValue) (D E : ℕ → Type 0) (here there : List Place) (t u : InstRegs) (old new : StateValue) →
    ((j : ℕ) → j < length ops → (E j → ⊥) → D j → ⊥)
    → ((j : ℕ) → j < length ops → (E j → ⊥) → place_at there j ≡ place_at here j) → Less t u
    → ((j : ℕ) (r : Register) (p : Positions) → j < length ops → (E j → ⊥) → NeedsReg ops here j r p → vreg_of_preg new.places r ≡ None) →
    Awaiting ops D here t old → Awaiting ops E there u new
awaiting_on ops D E here there t u old new back same later none_held a = record {
  held_early = λ k r p less not_e asks early. later.early r (a.held_early k r p less (back k less not_e)
      (needs_back ops here there k r p (same k less not_e) asks) early);
  held_late = λ k r p less not_e asks late. later.late r (a.held_late k r p less (back k less not_e) (needs_back ops here there k r p (same k less not_e) asks)
      late);
  small = λ k r p less not_e asks. a.small k r p less (back k less not_e) (needs_back ops here there k r p (same k less not_e) asks);
  one = λ j k r p q lj lk ej ek x y both. a.one j k r p q lj lk (back j lj ej) (back k lk ek) (needs_back ops here there j r p (same j lj ej) x)
      (needs_back ops here there k r q (same k lk ek) y) both;
  none_held = λ k r p less not_e asks. none_held k r p less not_e (needs_back ops here there k r p (same k less not_e) asks);
  lates = λ k less not_e late. same k less not_e ∙ a.lates k less (back k less not_e) late;
}

-- two operands that overlap both hold a register at the early position or both at the late one
pub overlap_cases : (p q : Positions) → Overlap p q → ((p.early ≡ true) × (q.early ≡ true)) ⊎ ((p.late ≡ true) × (q.late ≡ true))
overlap_cases p q h = elim (or_cases (p.early && q.early) (p.late && q.late) h) [
  | inl e ↦ inl (and_parts p.early q.early e)
  | inr e ↦ inr (and_parts p.late q.late e)
]

-- two operands that both hold a register at the early position hold it at the same time
pub early_overlap : (p q : Positions) → p.early ≡ true → q.early ≡ true → Overlap p q
early_overlap p q a b = rw (a, b) refl

-- two operands that both hold a register at the late position hold it at the same time
pub late_overlap : (p q : Positions) → p.late ≡ true → q.late ≡ true → Overlap p q
late_overlap p q a b = rw (a, b) (or_right (p.early && q.early) true refl)

-- an early use holds its register at the early position alone
early_use : (o : OperandValue) → is_def o.kind ≡ false → is_late o.position ≡ false → ((positions_of o).early ≡ true) × ((positions_of o).late ≡ false)
early_use o d l = (rw d refl, rw (d, l) refl)

-- a reuse has chosen a place for the use that it names too
awaiting_reuse : (ops : List OperandValue) (D E : ℕ → Type 0) (n : ℕ) (p : Place) (here there : List Place) (t u : InstRegs) (old new : StateValue) →
    n < length ops → is_def (op_at ops n).kind ≡ false → is_late (op_at ops n).position ≡ false
    → ((j : ℕ) → j < length ops → (E j → ⊥) → D j → ⊥) → place_at there n ≡ p →
    ((j : ℕ) → j < length ops → (E j → ⊥) → j ≢ n → place_at there j ≡ place_at here j) → Less t u
    → ((q : Register) → p ≡ InRegister q → (q.number < 64) × (has_register u.early q ≡ false) × (has_register u.late q ≡ false)
    × (vreg_of_preg new.places q ≡ None)
    × ((j : ℕ) (w : Positions) → j < length ops → (E j → ⊥) → j ≢ n → NeedsReg ops here j q w → w.early ≡ true → ⊥))
    → ((j : ℕ) (r : Register) (w : Positions) → j < length ops → (E j → ⊥) → NeedsReg ops here j r w → vreg_of_preg new.places r ≡ None) →
    Awaiting ops D here t old → Awaiting ops E there u new
awaiting_reuse ops D E n p here there t u old new within reads early_n back at_n same later newly none_held a = record {
  held_early = λ k r w less not_e asks early. elim (split k r w less not_e asks) [
    | inl x ↦ later.early r (a.held_early k r w less (back k less not_e) x early)
    | inr x ↦ (newly r x.1).1
  ];
  held_late = λ k r w less not_e asks late. elim (split k r w less not_e asks) [
    | inl x ↦ later.late r (a.held_late k r w less (back k less not_e) x late)
    | inr x ↦ (newly r x.1).2
  ];
  small = λ k r w less not_e asks. elim (split k r w less not_e asks) [
    | inl x ↦ a.small k r w less (back k less not_e) x
    | inr x ↦ (newly r x.1).0
  ];
  one = λ j k r w z lj lk ej ek x y both. elim (split j r w lj ej x) [
    | inl m ↦ elim (split k r z lk ek y) [
      | inl o ↦ a.one j k r w z lj lk (back j lj ej) (back k lk ek) m o both
      | inr o ↦ elim (cases_eq j n) [
        | inl e ↦ (e ∙ sym o.0)
        | inr ne ↦ absurd ((newly r o.1).4 j w lj ej ne m (left_early w z both o.2))
      ]
    ]
    | inr m ↦ elim (cases_eq k n) [
      | inl e ↦ (m.0 ∙ sym e)
      | inr ne ↦ elim (split k r z lk ek y) [
        | inl o ↦ absurd ((newly r m.1).4 k z lk ek ne o (right_early w z both m.2))
        | inr o ↦ absurd (ne o.0)
      ]
    ]
  ];
  none_held = λ k r w less not_e asks. elim (split k r w less not_e asks) [
    | inl x ↦ none_held k r w less not_e x
    | inr x ↦ (newly r x.1).3
  ];
  lates = λ k less not_e late. elim (cases_eq k n) [
    | inl e ↦ absurd (both_ways (is_late (op_at ops n).position) early_n (ap (λ (x : ℕ). is_late (op_at ops x).position) (sym e) ∙ late))
    | inr ne ↦ (same k less not_e ne ∙ a.lates k less (back k less not_e) late)
  ];
}
  where
    split : (j : ℕ) (r : Register) (w : Positions) → j < length ops → (E j → ⊥) → NeedsReg ops there j r w → NeedsReg ops here j r w
        ⊎ ((j ≡ n) × (p ≡ InRegister r) × (w ≡ positions_of (op_at ops n)))
    split j r w less not_e (claims c) = inl (claims c)
    split j r w less not_e (chosen at is) = elim (cases_eq j n) [
      | inl e ↦ inr (e, sym at_n ∙ ap (place_at there) (sym e) ∙ at, is ∙ ap (λ (x : ℕ). positions_of (op_at ops x)) e)
      | inr ne ↦ inl (chosen (sym (same j less not_e ne) ∙ at) is)
    ]

    no_late : (w : Positions) → w ≡ positions_of (op_at ops n) → w.late ≡ true → ⊥
    no_late w e h = both_ways (positions_of (op_at ops n)).late (early_use (op_at ops n) reads early_n).1 (ap (λ (x : Positions). x.late) (sym e) ∙ h)

    left_early : (w z : Positions) → Overlap w z → z ≡ positions_of (op_at ops n) → w.early ≡ true
    left_early w z both e = elim (overlap_cases w z both) [
      | inl x ↦ x.0
      | inr x ↦ absurd (no_late z e x.1)
    ]

    right_early : (w z : Positions) → Overlap w z → w ≡ positions_of (op_at ops n) → z.early ≡ true
    right_early w z both e = elim (overlap_cases w z both) [
      | inl x ↦ x.1
      | inr x ↦ absurd (no_late w e x.0)
    ]

-- what a use requires, and what it holds
use_needs : (o : OperandValue) (here : Place) (q : Register) → (use_request o here).requirement ≡ InPReg q → (here ≡ InRegister q) ⊎ (o.constraint ≡ FixedReg q)
use_needs o NoPlace q h = inr (requires_fixed_reg o.constraint q h)
use_needs o (InRegister r) q h = inl (let e : InPReg r ≡ InPReg q = h in let same : r ≡ q = cc in ap InRegister same)
use_needs o (InSlot n) q h = inr (requires_fixed_reg o.constraint q h)

use_positions : (o : OperandValue) (here : Place) → (use_request o here).positions ≡ positions_of o
use_positions o NoPlace = refl
use_positions o (InRegister r) = refl
use_positions o (InSlot n) = refl

available_at_same : (t : InstRegs) (p q : Positions) (r : Register) → p ≡ q → IsAvailableAt t p r → IsAvailableAt t q r
available_at_same t p q r e h = subst (λ (x : Positions). IsAvailableAt t x r) e h

module _ (Known : VirtualRegister → Type 0) (ops : List OperandValue) (sound_ops : AreSoundOperands Known ops) (i : ℕ) (ends_block : Bool)
    (only_at_end : (k : ℕ) → k < length ops → is_def (op_at ops k).kind ≡ true → ends_block ≡ true) (pass : Bool) (edits : List (ℕ × MoveValue)) where
  -- an operand is allocated, and holds its register at least at one position of the pass
  abbrev pub HoldsInPass : Positions → Type 0
  HoldsInPass p = (p.early ≡ true) ⊎ ((pass ≡ true) × (p.late ≡ true))

  not_free : (t : InstRegs) (old : StateValue) (p : Positions) → HoldsInPass p → NoMovePushed ops pass edits t old → (q : Register) (v : VirtualRegister) → q.number < 64 →
      vreg_of_preg old.places q ≡ Some v → IsAvailableAt t p q → ⊥
  not_free t old p (inl early) no_move q v small held is_free = both_ways (has_register t.early q) (no_move.early q v small held) (is_free.early early)
  not_free t old p (inr late) no_move q v small held is_free = both_ways (has_register t.late q) (no_move.late late.0 q v small held) (is_free.late late.1)

  -- no edit was added in the pass, operands that wait still have their registers, and the list of places is as long as
  -- before
  abbrev pub NoMoveSoFar : (ℕ → Type 0) → List Place → InstRegs → StateValue → Type 0
  NoMoveSoFar D there u t = NoMovePushed ops pass edits u t × Awaiting ops D there u t × (length there ≡ length ops)

  -- if no vreg gets a new location
  same_no_move : (D E : ℕ → Type 0) (k : ℕ) (p : Place) (here : List Place) (t u : InstRegs) (old new : StateValue) → NextDone D E k → Less t u →
      SamePlaces old new → NoMoveSoFar D here t old → NoMoveSoFar E (set here k p) u new
  same_no_move D E k p here t u old new next later same c = (
    no_move_pushed_on ops pass edits t u old new later same c.0,
    awaiting_on ops D E here (set here k p) t u old new (λ j less not_e. (next.back j not_e).0)
        (λ j less not_e. get_or-set_other here k j p NoPlace (next.back j not_e).1) later
        (λ j r w less not_e asks. same.held_by r (c.1.small j r w less (next.back j not_e).0 asks) ∙ c.1.none_held j r w less (next.back j not_e).0 asks) c.1,
    length-set here k p ∙ c.2,
  )

  -- a definition that is no reuse
  def_no_move : (D E : ℕ → Type 0) (k : ℕ) (p : Place) (here : List Place) (t u : InstRegs) (old new : StateValue) → k < length ops → NextDone D E k →
      HoldsInPass (positions_of (op_at ops k)) → is_def (op_at ops k).kind ≡ true
      → AllocsDefOp (after i) (def_request (op_at ops k)) ends_block p t u old new → NoMoveSoFar D here t old → NoMoveSoFar E (set here k p) u new
  def_no_move D E k p here t u old new less next reach def d c =
      let o : OperandValue = op_at ops k in
      let g = allocs_operand_no_move (after i) ops pass edits (def_request o) p t d.inst_regs old d.middle d.gets c.0
      (λ q wants. c.1.none_held k q (positions_of o) less next.before_it (claims (own (sound_ops.allocated k less def) (requires_fixed_reg o.constraint q wants) refl)))
      (not_free t old (positions_of o) reach c.0) in
      let z = frees_alloc_no_move (after i) o.vreg ends_block p d.inst_regs u d.middle new (only_at_end k less def) d.defines
      (λ q at. c.0.away k q less def (ap (λ (x : VRegAllocsValue). alloc_of x o.vreg.number) (sym g.places) ∙ at)) in
      let later : Less t u = subst (Less t) (sym z.0) g.later in
      let both : SamePlaces old new = record {
        edits = z.1.edits ∙ g.edits;
        stood_at = λ n r h. ap (λ (x : VRegAllocsValue). alloc_of x n) (sym g.places) ∙ z.1.stood_at n r h;
        location_at = λ n r h. z.1.location_at n r (ap (λ (x : VRegAllocsValue). alloc_of x n) g.places ∙ h);
        held_by = λ r small. z.1.held_by r small ∙ ap (λ (x : VRegAllocsValue). vreg_of_preg x r) g.places;
      } in
      same_no_move D E k p here t u old new next later both c

  -- a reuse
  reuse_no_move : (D E : ℕ → Type 0) (k n : ℕ) (p : Place) (here : List Place) (t u : InstRegs) (old new : StateValue) → k < length ops → NextDone D E k →
      (D n → ⊥) → is_def (op_at ops k).kind ≡ true → (op_at ops k).constraint ≡ Reuse n
      → AllocsDefOp (after i) (reuse_request (op_at ops k) (op_at ops n)) ends_block p t u old new → NoMoveSoFar D here t old → NoMoveSoFar E (set (set here k p) n p) u new
  reuse_no_move D E k n p here t u old new less next not_n def reuses d c =
      let o : OperandValue = op_at ops k in
      let m : OperandValue = op_at ops n in
      let name = sound_ops.named k n less reuses in
      let use_it : is_def m.kind ≡ false = reads_use m name.2 in
      let mine : (q : Register) → (reuse_request o m).requirement ≡ InPReg q →
      NeedsReg ops here k q (record { early = false; late = true }) = λ q wants. claims (named n reuses name.0 (reuse_requires_fixed_reg m.constraint q wants) refl) in
      let none : (q : Register) → (reuse_request o m).requirement ≡ InPReg q →
      vreg_of_preg old.places q ≡ None = λ q wants. c.1.none_held k q (record { early = false; late = true }) less next.before_it (mine q wants) in
      let taken : (q : Register) (v : VirtualRegister) → q.number < 64 → vreg_of_preg old.places q ≡ Some v → IsAvailableAt t (reuse_request o m).positions q →
      ⊥ = λ q v small held f. both_ways (has_register t.early q) (c.0.early q v small held) (f.early refl) in
      let g = allocs_operand_no_move (after i) ops pass edits (reuse_request o m) p t d.inst_regs old d.middle d.gets c.0 none taken in
      let z = frees_alloc_no_move (after i) o.vreg ends_block p d.inst_regs u d.middle new (only_at_end k less def) d.defines
      (λ q at. c.0.away k q less def (ap (λ (x : VRegAllocsValue). alloc_of x o.vreg.number) (sym g.places) ∙ at)) in
      let later : Less t u = subst (Less t) (sym z.0) g.later in
      let both : SamePlaces old new = record {
        edits = z.1.edits ∙ g.edits;
        stood_at = λ x r h. ap (λ (y : VRegAllocsValue). alloc_of y x) (sym g.places) ∙ z.1.stood_at x r h;
        location_at = λ x r h. z.1.location_at x r (ap (λ (y : VRegAllocsValue). alloc_of y x) g.places ∙ h);
        held_by = λ r small. z.1.held_by r small ∙ ap (λ (x : VRegAllocsValue). vreg_of_preg x r) g.places;
      } in
      let long_enough : (q : Register) → p ≡ InRegister q → (q.number < 64) × (vreg_of_preg old.places q ≡ None)
      × ((j : ℕ) (w : Positions) → j < length ops → (E j → ⊥) → j ≢ n → NeedsReg ops here j q w → w.early ≡ true → ⊥) =
      λ q is. by_origin q is g.origin none taken mine in (
        no_move_pushed_on ops pass edits t u old new later both c.0,
        awaiting_reuse ops D E n p here (set (set here k p) n p) t u old new name.0 use_it name.1 (λ j within not_e. (next.back j not_e).0)
            (get_or-set_same (set here k p) n p NoPlace (let l = c.2 in let q = length-set here k p in let w = name.0 in omega (arith, l, q, w)))
            (λ j within not_e ne. get_or-set_other (set here k p) n j p NoPlace ne ∙ get_or-set_other here k j p NoPlace (next.back j not_e).1) later
            (λ q is. (
              (long_enough q is).0,
              ap (λ (x : InstRegs). has_register x.early q) z.0 ∙ g.claimed_early q is refl,
              ap (λ (x : InstRegs). has_register x.late q) z.0 ∙ g.claimed_late q is refl,
              both.held_by q (long_enough q is).0 ∙ (long_enough q is).1,
              (long_enough q is).2,
            ))
            (λ j r w within not_e asks. both.held_by r (c.1.small j r w within (next.back j not_e).0 asks) ∙ c.1.none_held j r w within (next.back j not_e).0 asks)
            c.1,
        length-set (set here k p) n p ∙ length-set here k p ∙ c.2,
      )
    where
      by_origin : (q : Register) → p ≡ InRegister q → Origin (reuse_request (op_at ops k) (op_at ops n)) p t old
          → ((q : Register) → (reuse_request (op_at ops k) (op_at ops n)).requirement ≡ InPReg q → vreg_of_preg old.places q ≡ None)
          → ((q : Register) (v : VirtualRegister) → q.number < 64 → vreg_of_preg old.places q ≡ Some v →
          IsAvailableAt t (reuse_request (op_at ops k) (op_at ops n)).positions q → ⊥)
          → ((q : Register) → (reuse_request (op_at ops k) (op_at ops n)).requirement ≡ InPReg q → NeedsReg ops here k q (record { early = false; late = true }))
          → (q.number < 64) × (vreg_of_preg old.places q ≡ None) × ((j : ℕ) (w : Positions) → j < length ops → (E j → ⊥) → j ≢ n → NeedsReg ops here j q w →
          w.early ≡ true → ⊥)
      by_origin q is (stood_there there real) none taken mine = absurd (c.0.away k q less def (there ∙ is))
      by_origin q is (asked r at wants) none taken mine =
          let same : r ≡ q = same_register r q (sym at ∙ is) in
          let asks : (reuse_request (op_at ops k) (op_at ops n)).requirement ≡ InPReg q = wants ∙ ap InPReg same in
          let name = sound_ops.named k n less reuses in
          let claim : NeedsReg ops here n q (positions_of (op_at ops n)) = claims
          (own (reads_allocated (op_at ops n) name.2) (reuse_requires_fixed_reg (op_at ops n).constraint q asks) refl) in (
            c.1.small k q (record { early = false; late = true }) less next.before_it (mine q asks),
            none q asks,
            λ j w within not_e ne x early. ne (c.1.one j n q w (positions_of (op_at ops n)) within name.0 (next.back j not_e).0 not_n x claim
                (early_overlap w (positions_of (op_at ops n)) early (early_use (op_at ops n) (reads_use (op_at ops n) name.2) name.1).0)),
          )
      by_origin q is (was_free r at small is_free) none taken mine =
          let same : r ≡ q = same_register r q (sym at ∙ is) in
          let lt : q.number < 64 = subst (λ (x : Register). x.number < 64) same small in
          let f : IsAvailableAt t (reuse_request (op_at ops k) (op_at ops n)).positions
          q = subst (IsAvailableAt t (reuse_request (op_at ops k) (op_at ops n)).positions) same is_free in (
            lt,
            no_some (vreg_of_preg old.places q) (λ v held. taken q v lt held f),
            λ j w within not_e ne x early. both_ways (has_register t.early q) (c.1.held_early j q w within (next.back j not_e).0 x early) (f.early refl),
          )
      by_origin q is (in_a_slot l at) none taken mine = absurd (no_register_slot l q (sym at ∙ is))

  -- a use
  use_no_move : (D E : ℕ → Type 0) (k : ℕ) (p : Place) (here : List Place) (t u : InstRegs) (old new : StateValue) → k < length ops → NextDone D E k →
      HoldsInPass (positions_of (op_at ops k)) → is_reading (op_at ops k) ≡ true
      → (pass ≡ true → (positions_of (op_at ops k)).late ≡ true)
      → ((j : ℕ) (r : Register) (w : Positions) → j < length ops → (D j → ⊥) → NeedsReg ops here j r w → Overlap (positions_of (op_at ops k)) w)
      → AllocsUse (after i) (use_request (op_at ops k) (place_at here k)) p t u old new → NoMoveSoFar D here t old → NoMoveSoFar E (set here k p) u new
  use_no_move D E k p here t u old new less next reach reads lates covers d c = by_use d.uses
    where
      asks_it : (q : Register) → (use_request (op_at ops k) (place_at here k)).requirement ≡ InPReg q → NeedsReg ops here k q (positions_of (op_at ops k))
      asks_it q wants = elim (use_needs (op_at ops k) (place_at here k) q wants) [
        | inl at ↦ chosen at refl
        | inr is ↦ claims (own (reads_allocated (op_at ops k) reads) is refl)
      ]

      none : (q : Register) → (use_request (op_at ops k) (place_at here k)).requirement ≡ InPReg q → vreg_of_preg old.places q ≡ None
      none q wants = c.1.none_held k q (positions_of (op_at ops k)) less next.before_it (asks_it q wants)

      taken : (q : Register) (v : VirtualRegister) → q.number < 64 → vreg_of_preg old.places q ≡ Some v →
          IsAvailableAt t (use_request (op_at ops k) (place_at here k)).positions q → ⊥
      taken q v small held f = not_free t old (positions_of (op_at ops k)) reach c.0 q v small held
          (available_at_same t (use_request (op_at ops k) (place_at here k)).positions (positions_of (op_at ops k)) q (use_positions (op_at ops k) (place_at here k)) f)

      g : Got (use_request (op_at ops k) (place_at here k)) p t u old d.middle
      g = allocs_operand_no_move (after i) ops pass edits (use_request (op_at ops k) (place_at here k)) p t u old d.middle d.gets c.0 none taken

      early : (positions_of (op_at ops k)).early ≡ true
      early = (let e : is_def (op_at ops k).kind ≡ false = reads_use (op_at ops k) reads in rw e refl)

      -- if the vreg got a new location
      mine : (alloc_of old.places (op_at ops k).vreg.number ≡ NoPlace) → (q : Register) → p ≡ InRegister q →
          Origin (use_request (op_at ops k) (place_at here k)) p t old
          → (q.number < 64) × (vreg_of_preg old.places q ≡ None) × ((j : ℕ) (w : Positions) → j < length ops → (E j → ⊥) → NeedsReg ops here j q w → ⊥)
      mine nowhere q is (stood_there there real) =
          absurd (real (sym there ∙ ap (λ (v : VirtualRegister). alloc_of old.places v.number) (use_vreg (op_at ops k) (place_at here k)) ∙ nowhere))
      mine nowhere q is (asked r at wants) =
          let same : r ≡ q = same_register r q (sym at ∙ is) in
          let asks : (use_request (op_at ops k) (place_at here k)).requirement ≡ InPReg q = wants ∙ ap InPReg same in (
            c.1.small k q (positions_of (op_at ops k)) less next.before_it (asks_it q asks),
            none q asks,
            λ j w within not_e x. (next.back j not_e).1
                (sym (c.1.one k j q (positions_of (op_at ops k)) w less within next.before_it (next.back j not_e).0 (asks_it q asks) x
                (covers j q w within (next.back j not_e).0 x))),
          )
      mine nowhere q is (was_free r at small is_free) =
          let same : r ≡ q = same_register r q (sym at ∙ is) in
          let lt : q.number < 64 = subst (λ (x : Register). x.number < 64) same small in
          let f : IsAvailableAt t (positions_of (op_at ops k)) q = available_at_same t (use_request (op_at ops k) (place_at here k)).positions
          (positions_of (op_at ops k)) q (use_positions (op_at ops k) (place_at here k))
          (subst (IsAvailableAt t (use_request (op_at ops k) (place_at here k)).positions) same is_free) in (
            lt,
            no_some (vreg_of_preg old.places q) (λ v held. not_free t old (positions_of (op_at ops k)) reach c.0 q v lt held f),
            λ j w within not_e x. elim (overlap_cases (positions_of (op_at ops k)) w (covers j q w within (next.back j not_e).0 x)) [
              | inl both ↦ both_ways (has_register t.early q) (c.1.held_early j q w within (next.back j not_e).0 x both.1) (f.early both.0)
              | inr both ↦ both_ways (has_register t.late q) (c.1.held_late j q w within (next.back j not_e).0 x both.1) (f.late both.0)
            ],
          )
      mine nowhere q is (in_a_slot l at) = absurd (no_register_slot l q (sym at ∙ is))

      same_number : (use_request (op_at ops k) (place_at here k)).vreg.number ≡ (op_at ops k).vreg.number
      same_number = ap (λ (v : VirtualRegister). v.number) (use_vreg (op_at ops k) (place_at here k))

      by_use : LocatesUse (use_request (op_at ops k) (place_at here k)).vreg p d.middle new → NoMoveSoFar E (set here k p) u new
      by_use (stays there en) = same_no_move D E k p here t u old new next g.later
          (same_places old new (ap (λ (x : StateValue). x.places) en ∙ g.places) (ap (λ (x : StateValue). x.edits) en ∙ g.edits)) c
      by_use (located stood_nowhere sets_alloc slots pushed machine order) =
          let nowhere : alloc_of old.places (op_at ops k).vreg.number ≡ NoPlace = ap (alloc_of old.places) (sym same_number)
          ∙ ap (λ (x : VRegAllocsValue). alloc_of x (use_request (op_at ops k) (place_at here k)).vreg.number) (sym g.places) ∙ stood_nowhere in
          let z : SetsAlloc old.places new.places (use_request (op_at ops k) (place_at here k)).vreg
          p = subst (λ (x : VRegAllocsValue). SetsAlloc x new.places (use_request (op_at ops k) (place_at here k)).vreg p) g.places sets_alloc in
          let positions : (use_request (op_at ops k) (place_at here k)).positions ≡ positions_of (op_at ops k) = use_positions (op_at ops k)
          (place_at here k) in (
            no_move_after_use_located ops pass edits (use_request (op_at ops k) (place_at here k)).vreg p t u old new g.later z (pushed ∙ g.edits)
                (ap (alloc_of old.places) same_number ∙ nowhere)
                (λ q is. let m = mine nowhere q is g.origin in (
                  m.0,
                  m.1,
                  g.claimed_early q is (ap (λ (x : Positions). x.early) positions ∙ early),
                  λ yes_pass. g.claimed_late q is (ap (λ (x : Positions). x.late) positions ∙ lates yes_pass),
                ))
                (λ j within def e. sound_ops.unread j k within less def reads (sym (e ∙ same_number)))
                c.0,
            awaiting_on ops D E here (set here k p) t u old new (λ j within not_e. (next.back j not_e).0)
                (λ j within not_e. get_or-set_other here k j p NoPlace (next.back j not_e).1) g.later
                (λ j r w within not_e x. other_register_stays_empty (use_request (op_at ops k) (place_at here k)).vreg p old.places new.places r
                (c.1.small j r w within (next.back j not_e).0 x) z (λ is. (mine nowhere r is g.origin).2 j w within not_e x)
                (c.1.none_held j r w within (next.back j not_e).0 x)) c.1,
            length-set here k p ∙ c.2,
          )

  -- an operand is allocated
  pub processes_operand_no_move : {D E : ℕ → Type 0} {k : ℕ} {here there : List Place} {t u : InstRegs} {old new : StateValue} →
      ProcessesOperand i ends_block ops k here there t u old new → k < length ops → NextDone D E k → HoldsInPass (positions_of (op_at ops k))
      → ((n : ℕ) → (op_at ops k).constraint ≡ Reuse n → D n → ⊥)
      → (is_reading (op_at ops k) ≡ true → pass ≡ true → (positions_of (op_at ops k)).late ≡ true)
      → (is_reading (op_at ops k) ≡ true → (j : ℕ) (r : Register) (w : Positions) → j < length ops → (D j → ⊥) → NeedsReg ops here j r w →
      Overlap (positions_of (op_at ops k)) w)
      → NoMoveSoFar D here t old → NoMoveSoFar E there u new
  processes_operand_no_move {D} {E} {k} {here} {t} {u} {old} {new} (a_register r silent is written_it eu en) less next reach not_n lates covers c =
      subst (λ l. NoMoveSoFar E l u new) (sym written_it) (same_no_move D E k (InRegister r) here t u old new next (less_same t u eu)
      (same_places old new (ap (λ (x : StateValue). x.places) en) (ap (λ (x : StateValue). x.edits) en)) c)
  processes_operand_no_move {D} {E} {k} {here} {t} {u} {old} {new} (a_use p reads places written_it) less next reach not_n lates covers c =
      subst (λ l. NoMoveSoFar E l u new) (sym written_it) (use_no_move D E k p here t u old new less next reach reads (lates reads) (covers reads) places c)
  processes_operand_no_move {D} {E} {k} {here} {t} {u} {old} {new} (a_def p def no_reuse places written_it) less next reach not_n lates covers c =
      subst (λ l. NoMoveSoFar E l u new) (sym written_it) (def_no_move D E k p here t u old new less next reach def places c)
  processes_operand_no_move {D} {E} {k} {here} {t} {u} {old} {new} (a_reuse n p def reuses places written_it) less next reach not_n lates covers c =
      subst (λ l. NoMoveSoFar E l u new) (sym written_it) (reuse_no_move D E k n p here t u old new less next (not_n n reuses) def reuses places c)

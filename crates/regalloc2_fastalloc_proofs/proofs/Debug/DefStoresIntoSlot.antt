-- What a definition stores into its slot, in the moves after its instruction: only its own moves write the slot.
use Rattle.std.proofs.Common.{ℕ, ◌≡◌, ◌≢◌, inl, inr, Bool, true, false, List, [], ◌∷◌, ◌++◌, refl, sym, ap, ◌∙◌, subst}
use Rattle.std.specs.Prelude.{not, ◌&&◌}
use Rattle.std.proofs.lemmas.Bool.{cases_eq, and_left, and_right}
use Rattle.std.proofs.lemmas.List.{append_assoc}
use Rattle.regalloc2_names.specs.declared.RegClass.{RegClass}
use Rattle.regalloc2_names.specs.Register.{Register, VirtualRegister}
use Rattle.regalloc2_names.specs.Operand.{OperandValue}
use Rattle.regalloc2_names.specs.Place.{Place, NoPlace, InRegister, is_place}
use Rattle.regalloc2_function.specs.OutputValue.{MoveValue}
use Rattle.regalloc2_semantics.specs.Runs.{after_moves, stored}
use Rattle.regalloc2_carry.specs.BlockByPoints.{at_point, listed}
use Rattle.regalloc2_carry.specs.Listing.{with_moves}
use Rattle.regalloc2_carry.specs.Carry.{Untouched}
use Rattle.regalloc2_semantics.proofs.Cells.{cases_place, stored-same, is_place-same, is_place-other}
use Rattle.regalloc2_carry.proofs.Points.{at_point-here, at_point-other}
use Rattle.regalloc2_carry.proofs.PushedMoves.{listed-push}
use Rattle.regalloc2_carry.proofs.UnwrittenPlaces.{NoMoveTo, moves_kept}
use Rattle.regalloc2_fastalloc_state.specs.StateParts.{alloc_of}
use Rattle.regalloc2_fastalloc_state.specs.declared.inst_regs.InstRegs.{InstRegs}
use Rattle.regalloc2_fastalloc_state.specs.declared.request.OperandRequest.{OperandRequest}
use Rattle.regalloc2_fastalloc_proofs.specs.InstSteps.{StateValue, a_move, AddsMove, direct, through, AllocsOperand, AddsMoveIf, sent, unsent, is_another}
use Rattle.regalloc2_fastalloc_proofs.specs.InstSteps.{FreesAlloc, LocatesUse, EvictsFixed, EvictsEach}
use Rattle.regalloc2_fastalloc_proofs.specs.Safety.{IsWhole}
use Rattle.regalloc2_fastalloc_proofs.proofs.Safety.StepsKeepState.{place_in, slot_in}
use Rattle.regalloc2_fastalloc_proofs.proofs.Safety.BranchArgsKeepState.{changes_steady}
use Rattle.regalloc2_fastalloc_proofs.proofs.Operands.DefRecord.{another_is}
use Rattle.regalloc2_fastalloc_proofs.proofs.Moves.StepsAppendEdits.{AppendsEdits, none_pushed, one_pushed, changes_push}
use Rattle.regalloc2_fastalloc_proofs.proofs.Changes.InstChanges.{allocs_scratch_reg_changes, adds_move_if_changes, allocs_operand_changes}
use Rattle.regalloc2_fastalloc_proofs.proofs.Changes.InstChanges.{locates_use_changes, frees_alloc_changes, evicts_fixed_changes, evicts_each_changes}
use Rattle.regalloc2_semantics.specs.Laws.{Cells}

-- allocating an operand keeps the two tables of locations inverse, and each spill slot its vreg's own
pub allocs_operand_whole : (point : ℕ) (o : OperandRequest) (p : Place) (t u : InstRegs) (old new : StateValue) → AllocsOperand point o p t u old new →
    IsWhole old
    → IsWhole new
allocs_operand_whole point o p t u old new g h = (changes_steady (allocs_operand_changes (λ q r. tt) tt g) h).whole

module _ (s : Place) (slotted : (r : Register) → s ≡ InRegister r → ⊥) where
  -- a move with another target
  abbrev pub Off : (ℕ × MoveValue) → Type 0
  Off e = e.1.to ≢ s

  to_register : (point : ℕ) (from : Place) (r : Register) → Off (a_move point from (InRegister r))
  to_register point from r e = slotted r (sym e)

  off_more : (m : MoveValue) (ms : List MoveValue) → m.to ≢ s → NoMoveTo s ms → NoMoveTo s (m ∷ ms)
  unfolding Untouched with_moves
  off_more m ms ne h = (λ e. ne (sym e), h)

  -- no move at a point goes to s
  pub off_none : (q : ℕ) (a b : List (ℕ × MoveValue)) → AppendsEdits Off a b → NoMoveTo s (at_point (listed a) q) → NoMoveTo s (at_point (listed b) q)
  off_none q a b none_pushed h = h
  off_none q a b (one_pushed es e prev off) h =
      let rest : NoMoveTo s (at_point (listed es) q) = off_none q a es prev h in
      elim (cases_eq e.0 q) [
        | inl here ↦ (
            let is : at_point (listed (es ++ e ∷ [])) q ≡ e.1 ∷ at_point (listed es) q =
            ap (λ l. at_point l q) (listed-push es e) ∙ ap (λ (z : ℕ). at_point ((z, e.1) ∷ listed es) q) here ∙ at_point-here q e.1 (listed es) in
            subst (NoMoveTo s) (sym is) (off_more e.1 (at_point (listed es) q) off rest))
        | inr other ↦ subst (NoMoveTo s) (sym (ap (λ l. at_point l q) (listed-push es e) ∙ at_point-other e.0 q e.1 (listed es) other)) rest
      ]

  module _ (point : ℕ) where
    -- allocating an operand's place adds no move to s
    pub allocs_operand_off : (o : OperandRequest) (p : Place) (t u : InstRegs) (old new : StateValue) → AllocsOperand point o p t u old new
        → AppendsEdits Off old.edits new.edits
    allocs_operand_off o p t u old new g = changes_push Off (allocs_operand_changes (to_register point) tt g)

    -- locating a use adds no move to s
    pub locates_use_off : (v : VirtualRegister) (p : Place) (old new : StateValue) → LocatesUse v p old new → AppendsEdits Off old.edits new.edits
    locates_use_off v p old new h = changes_push Off (locates_use_changes tt h)

    -- evicting the vregs of fixed registers adds no move to s
    pub evicts_fixed_off : (ops : List OperandValue) (t : InstRegs) (old : StateValue) (k : ℕ) (u : InstRegs) (m : StateValue) →
        EvictsFixed point ops t old k u m →
        AppendsEdits Off old.edits m.edits
    evicts_fixed_off ops t old k u m h = changes_push Off (evicts_fixed_changes (to_register point) h)

    -- evicting the vregs of a list of registers adds no move to s
    pub evicts_each_off : (rs : List Register) (t : InstRegs) (old : StateValue) (u : InstRegs) (new : StateValue) → EvictsEach point rs t old u new
        → AppendsEdits Off old.edits new.edits
    evicts_each_off rs t old u new h = changes_push Off (evicts_each_changes (to_register point) h)

    adds_move_if_off : (class : RegClass) (made : Bool) (from to : Place) (t u : InstRegs) (old new : StateValue) → to ≢ s →
        AddsMoveIf point class made from to t u old new → AppendsEdits Off old.edits new.edits
    adds_move_if_off class made from to t u old new ne h = changes_push Off (adds_move_if_changes (to_register point) (λ q. ne) h)

    -- freeing the definition of another vreg adds no move to s
    pub frees_alloc_off : (v : VirtualRegister) (ends_block : Bool) (p : Place) (t u : InstRegs) (old new : StateValue) → FreesAlloc point v ends_block p t u old new →
        place_in old v.number ≢ s → slot_in old v.number ≢ s → AppendsEdits Off old.edits new.edits
    frees_alloc_off v ends_block p t u old new d expected stored = changes_push Off (frees_alloc_changes (to_register point) (λ q. expected) (λ q. stored) tt d)

    -- the moves at the point
    abbrev pub moves_of : StateValue → List MoveValue
    moves_of t = at_point (listed t.edits) point

    pushed_first : (es : List (ℕ × MoveValue)) (from to : Place) → at_point (listed (es ++ a_move point from to ∷ [])) point ≡ record { from = from; to = to } ∷
        at_point (listed es) point
    pushed_first es from to = ap (λ l. at_point l point) (listed-push es (a_move point from to))
        ∙ at_point-here point (record { from = from; to = to }) (listed es)

    -- a value moved to the slot is there once the moves have run
    adds_move_into : (class : RegClass) (p : Place) (t u : InstRegs) (old new : StateValue) → s ≢ NoPlace → AddsMove point class p s t u old new →
        NoMoveTo s (moves_of old) → (c : Cells) → after_moves (moves_of new) c s ≡ c p
    unfolding after_moves
    adds_move_into class p t u old new real (direct flat eu en) none c =
        let is : moves_of new ≡ record { from = p; to = s } ∷ moves_of old = ap (λ (y : StateValue). moves_of y) en ∙ pushed_first old.edits p s in
        ap (λ l. after_moves l c s) is ∙ moves_kept s (moves_of old) (stored c s (c p)) none ∙ stored-same c s (c p) real
    adds_move_into class p t u old new real (through by m stack scratches en) none c =
        let mid : NoMoveTo s (moves_of m) = off_none point old.edits m.edits (changes_push Off (allocs_scratch_reg_changes (to_register point) scratches))
        none in
        let b : Place = InRegister by in
        let d : Cells = stored c b (c p) in
        let is : moves_of new ≡ record { from = p; to = b } ∷ (record { from = b; to = s } ∷ moves_of m) =
        ap (λ (y : StateValue). moves_of y) en
        ∙ ap (λ l. at_point (listed l) point) (sym (append_assoc m.edits (a_move point b s ∷ []) (a_move point p b ∷ [])))
        ∙ pushed_first (m.edits ++ a_move point b s ∷ []) p b
        ∙ ap (λ l. record { from = p; to = b } ∷ l) (pushed_first m.edits b s) in
        ap (λ l. after_moves l c s) is
        ∙ moves_kept s (moves_of m) (stored d s (d b)) mid
        ∙ stored-same d s (d b) real
        ∙ stored-same c b (c p) (λ e. cc)

    adds_move_if_into : (class : RegClass) (made : Bool) (p : Place) (t u : InstRegs) (old new : StateValue) → s ≢ NoPlace → made ≡ true →
        AddsMoveIf point class made p s t u old new → NoMoveTo s (moves_of old) → (c : Cells) → after_moves (moves_of new) c s ≡ c p
    adds_move_if_into class made p t u old new real yes_made (sent is crosses) = adds_move_into class p t u old new real crosses
    adds_move_if_into class made p t u old new real yes_made (unsent is eu en) = absurd (let y : true ≡ false = sym yes_made ∙ is in cc)

    is_sent : (ends_block : Bool) (q p : Place) → ends_block ≡ false → q ≢ NoPlace → q ≢ p → (not ends_block && is_another q p) ≡ true
    is_sent ends_block q p plain real other = rw (plain, is_place-other q NoPlace real, is_place-other q p other) refl

    -- the definition of the slot's own vreg: its moves copy its place to the slot
    pub frees_alloc_into : (v : VirtualRegister) (ends_block : Bool) (p : Place) (t u : InstRegs) (old new : StateValue) → s ≢ NoPlace → ends_block ≡ false →
        slot_in old v.number ≡ s → FreesAlloc point v ends_block p t u old new → NoMoveTo s (moves_of old) →
        (c : Cells) → after_moves (moves_of new) c s ≡ c p
    frees_alloc_into v ends_block p t u old new real plain mine d none =
        let left_none : NoMoveTo s (moves_of d.left) = subst (λ l. NoMoveTo s (at_point (listed l) point)) (sym d.edits) none in
        let stored_at : AddsMoveIf point v.class
        (not ends_block && (is_another s p && not (is_place s (alloc_of old.places v.number)))) p s d.inst_regs u d.middle new =
        subst (λ z. AddsMoveIf point v.class (not ends_block && (is_another z p && not (is_place z (alloc_of old.places v.number)))) p z d.inst_regs u d.middle new)
        mine d.stored in
        let expected_off : alloc_of old.places v.number ≢ s → NoMoveTo s (moves_of d.middle) =
        λ ne. off_none point d.left.edits d.middle.edits (adds_move_if_off v.class _ p _ t d.inst_regs d.left d.middle ne d.expected) left_none in
        elim (cases_place s p) [
          | inl own_place ↦ (
              let unmoved : NoMoveTo s (moves_of new) = never_stored own_place stored_at (never_expected own_place d.expected left_none) in
              λ c. moves_kept s (moves_of new) c unmoved ∙ ap c own_place)
          | inr elsewhere ↦ elim (cases_place s (alloc_of old.places v.number)) [
            | inl there ↦ (λ c. by_expected elsewhere there (subst (λ z. AddsMoveIf point v.class (not ends_block && is_another z p) p z t d.inst_regs d.left d.middle)
                (sym there) d.expected) left_none stored_at c)
            | inr ne ↦ adds_move_if_into v.class _ p d.inst_regs u d.middle new real
                (rw (plain, is_place-other s NoPlace real, is_place-other s p elsewhere, is_place-other s (alloc_of old.places v.number) ne) refl) stored_at
                (expected_off (λ e. ne (sym e)))
          ]
        ]
      where
        c₀ : Place
        c₀ = alloc_of old.places v.number

        -- the place is the slot itself
        never_expected : s ≡ p → AddsMoveIf point v.class (not ends_block && is_another c₀ p) p c₀ t d.inst_regs d.left d.middle → NoMoveTo s (moves_of d.left) →
            NoMoveTo s (moves_of d.middle)
        never_expected e (unsent is eu en) h = subst (λ (y : StateValue). NoMoveTo s (moves_of y)) (sym en) h
        never_expected e (sent is crosses) h =
            let made : is_another c₀ p ≡ true = sym (ap (λ b. not b && is_another c₀ p) plain) ∙ is in
            let ne : c₀ ≢ s = λ z. (another_is c₀ p made).1 (z ∙ e) in
            off_none point d.left.edits d.middle.edits (adds_move_if_off v.class _ p c₀ t d.inst_regs d.left d.middle ne (sent is crosses)) h

        never_stored : s ≡ p → AddsMoveIf point v.class (not ends_block && (is_another s p && not (is_place s c₀))) p s d.inst_regs u d.middle new →
            NoMoveTo s (moves_of d.middle) → NoMoveTo s (moves_of new)
        never_stored e (unsent is eu en) h = subst (λ (y : StateValue). NoMoveTo s (moves_of y)) (sym en) h
        never_stored e (sent is crosses) h =
            let same : is_place s p ≡ true = ap (is_place s) (sym e) ∙ is_place-same s in
            let no_move : (not ends_block && (is_another s p && not (is_place s c₀))) ≡ false = rw (plain, same)
            (and_left (not (is_place s NoPlace) && false) (not (is_place s c₀)) (and_right (not (is_place s NoPlace)) false refl)) in
            absurd (let y : true ≡ false = sym is ∙ no_move in cc)

        -- the vreg was expected in its slot
        by_expected : s ≢ p → s ≡ c₀ → AddsMoveIf point v.class (not ends_block && is_another s p) p s t d.inst_regs d.left d.middle → NoMoveTo s (moves_of d.left) →
            AddsMoveIf point v.class (not ends_block && (is_another s p && not (is_place s c₀))) p s d.inst_regs u d.middle new → (c : Cells) →
            after_moves (moves_of new) c s ≡ c p
        by_expected ne there sends h (unsent is eu en) c =
            ap (λ (y : StateValue). after_moves (moves_of y) c s) en ∙ adds_move_if_into v.class _ p t d.inst_regs d.left d.middle real
            (is_sent ends_block s p plain real ne)
            sends h c
        by_expected ne there sends h (sent is crosses) c =
            let same : is_place s c₀ ≡ true = ap (is_place s) (sym there) ∙ is_place-same s in
            let no_move : (not ends_block && (is_another s p && not (is_place s c₀))) ≡ false = rw (plain, same) (and_right (is_another s p) false refl) in
            absurd (let y : true ≡ false = sym is ∙ no_move in cc)

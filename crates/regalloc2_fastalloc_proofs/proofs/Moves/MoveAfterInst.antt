-- A move after the instruction from one place to another, through a scratch register if both are on the stack.
-- The fold in `Changes` doesn't apply: what the listing carries, or the operands' record, differs from step to step.
use Rattle.std.proofs.Common.{ℕ, ◌≡◌, ◌≢◌, ◌<◌, Bool, true, false, List, [], ◌∷◌, ◌++◌, refl, sym, ap, ◌∙◌, subst, inl, inr, ◌⊎◌}
use Rattle.std.specs.Prelude.{Option, None, Some}
use Rattle.std.proofs.lemmas.Bool.{cases_eq, and_parts}
use Rattle.regalloc2_names.specs.declared.RegClass.{RegClass}
use Rattle.regalloc2_names.specs.Register.{Register, has_register}
use Rattle.regalloc2_names.specs.Operand.{OperandValue}
use Rattle.regalloc2_names.specs.Place.{Place, NoPlace, InRegister, after}
use Rattle.regalloc2_function.specs.OutputValue.{MoveValue}
use Rattle.regalloc2_carry.specs.Listing.{Item}
use Rattle.regalloc2_carry.specs.Listing.Item.{Move}
use Rattle.regalloc2_carry.specs.Instruction.{Claims}
use Rattle.regalloc2_carry.specs.BlockByPoints.{after_part, listed}
use Rattle.regalloc2_carry.specs.OperandsPlaced.{what_of, Progress, Held, Counts, Need, located, in_slot, made}
use Rattle.regalloc2_carry.proofs.NeedsAcrossMoves.{claims_move, claims_by_two_moves}
use Rattle.regalloc2_carry.proofs.PushedMoves.{after_part-more}
use Rattle.regalloc2_fastalloc_state.specs.declared.inst_regs.InstRegs.{InstRegs}
use Rattle.regalloc2_fastalloc_proofs.specs.InstSteps.{StateValue, AddsMove, direct, through, is_stack_in, a_move}
use Rattle.regalloc2_fastalloc_proofs.proofs.Safety.StepsKeepState.{place_in, slot_in, slot_no_register}
use Rattle.regalloc2_fastalloc_proofs.proofs.Operands.RecordOverState.{opt_from, location_at, slots_at, Located, OwesPlaces, later_push, located_after_edits}
use Rattle.regalloc2_fastalloc_proofs.proofs.Evictions.EvictVReg.{held_early, held_late, Kept, kept_all, kept_edits}
use Rattle.regalloc2_fastalloc_proofs.proofs.Moves.ScratchRegTaken.{of_machine, taken, Fit, Spare, Less, allocs_scratch_reg_less, spare_more, scratch_off}
use Rattle.regalloc2_fastalloc_proofs.proofs.Moves.ScratchRegTaken.{fit_same}
use Rattle.regalloc2_fastalloc_proofs.proofs.Moves.ScratchRegMidMove.{put, put_same, put_other, ScratchedBut, scratch_but, scratch_move_items, scratch_move_later}
use Rattle.regalloc2_fastalloc_proofs.proofs.Operands.RecordOfInst.{Ready}
use Rattle.regalloc2_fastalloc_proofs.proofs.Evictions.EvictKeepsRecord.{NoneNeeded, none_adds_move}
use Rattle.regalloc2_fastalloc_proofs.proofs.Operands.BlockTail.{BlockTail}

-- scratch registers stay idle if only edits change
pub spare_edits : (here : ℕ → Place) (claimed : ℕ → Bool) (X : Place → ℕ → Bool) (u : InstRegs) (t : StateValue) (es : List (ℕ × MoveValue)) →
    Spare here claimed X u t → Spare here claimed X u (record t { edits = es })
spare_edits here claimed X u t es s = record {
  idle = λ c b is. (let y = s.idle c b (elim is [ of_machine e ↦ of_machine e | taken e ↦ taken e ]) in
      record { no_allocs = y.no_allocs; clear = y.clear; unclaimed = y.unclaimed });
  own = s.own;
  early = s.early;
  late = s.late;
}

-- registers that fit still fit if only edits change
pub fit_edits : (t : StateValue) (es : List (ℕ × MoveValue)) → Fit t → Fit (record t { edits = es })
fit_edits t es f = record { small = f.small; stack_apart = f.stack_apart; own_apart = f.own_apart }

module _ (tail : BlockTail) where
  open tail use {Known, insts, placesf, i, n, E}

  -- the record without what the listing carries
  pub record Steady (ops : List OperandValue) (far : Progress) (ends_block : Bool)
      (u : InstRegs) (t : StateValue) : Type 0 where
    pub located : Located (what_of ops) far t
    pub nowhere_needed : ends_block ≡ true → NoneNeeded tail t.edits
    pub held : Held (what_of ops) far.here far.claimed (held_early u) (held_late u)
    pub scratch_reserve : Spare far.here far.claimed far.made_at u t
    pub fit : Fit t
    pub clobbers : (r : Register) → far.clobbered (InRegister r) ≡ true → has_register u.late r ≡ false
    pub within : (j : ℕ) → far.claimed j ≡ true → Counts ops j
    pub small : (j : ℕ) (r : Register) → far.claimed j ≡ true → far.here j ≡ InRegister r → r.number < 64

  -- the record without what the listing carries, together with that, is the record
  pub ready_of : (ops : List OperandValue) (far : Progress) (ends_block : Bool)
      (u : InstRegs) (t : StateValue) →
      Steady ops far ends_block u t → OwesPlaces tail far.lived far.out far.made_at (location_at t) (slots_at t) t.edits →
      Ready tail ops far ends_block u t
  ready_of ops far ends_block u t s o =
      record {
        located = s.located;
        owes = o;
        nowhere_needed = s.nowhere_needed;
        held = s.held;
        scratch_reserve = s.scratch_reserve;
        fit = s.fit;
        clobbers = s.clobbers;
        within = s.within;
        small = s.small;
      }

  -- after a move, or none
  pub record Sent (ops : List OperandValue) (far : Progress) (need : ℕ → Bool)
      (ends_block : Bool) (u : InstRegs) (old new : StateValue) : Type 0 where
    pub steady : Steady ops far ends_block u new
    pub owes : OwesPlaces tail far.lived need far.made_at (location_at new) (slots_at new) new.edits
    pub kept : Kept old new

  -- The target needs a vreg that is being moved; with the move, its source does. The vreg has no location in the
  -- tables.
  pub record MovesNeed (lived need need2 : ℕ → Bool) (X : Place → ℕ → Bool) (v : ℕ) (c : Option Place) (from to : Place) (m : StateValue) : Type 0 where
    pub moved : (x : ℕ) → Need lived need X (put (location_at m) v c) (slots_at m) x to → Need lived need2 X (location_at m) (slots_at m) x from
    pub others : (x : ℕ) (q : Place) → (q ≡ to → ⊥) → Need lived need X (put (location_at m) v c) (slots_at m) x q →
        Need lived need2 X (location_at m) (slots_at m) x q

  steady_push : (ops : List OperandValue) (far : Progress) (ends_block : Bool)
      (u : InstRegs) (t : StateValue) (es : List (ℕ × MoveValue)) →
      Located (what_of ops) far t → Held (what_of ops) far.here far.claimed (held_early u) (held_late u) → Spare far.here far.claimed far.made_at u t →
      Fit t →
      ((r : Register) → far.clobbered (InRegister r) ≡ true → has_register u.late r ≡ false) → ((j : ℕ) → far.claimed j ≡ true → Counts ops j) →
      ((j : ℕ) (r : Register) → far.claimed j ≡ true → far.here j ≡ InRegister r → r.number < 64) →
      (ends_block ≡ true → NoneNeeded tail es) → Steady ops far ends_block u (record t { edits = es })
  steady_push ops far ends_block u t es st h sp f cl within small rest = record {
    located = located_after_edits (what_of ops) far t es st;
    nowhere_needed = rest;
    held = h;
    scratch_reserve = spare_edits far.here far.claimed far.made_at u t es sp;
    fit = fit_edits t es f;
    clobbers = cl;
    within = within;
    small = small;
  }

  -- a move added after the instruction for a vreg that is being moved keeps the record: its value is needed at the
  -- source from then on
  pub adds_move_step : {ops : List OperandValue} {far : Progress} {need need2 : ℕ → Bool}
      {ends_block : Bool} (v : ℕ) (c : Option Place) {class : RegClass} {from to : Place} {t u : InstRegs} {old new : StateValue} →
      AddsMove (after i) class from to t u old new → to ≢ NoPlace → place_in old v ≡ NoPlace → (c ≡ Some to) ⊎ (c ≡ None) →
      ((m : StateValue) → Located (what_of ops) far m → Kept old m → MovesNeed far.lived need need2 far.made_at v c from to m) →
      Steady ops far ends_block t old → OwesPlaces tail far.lived need far.made_at (put (location_at old) v c) (slots_at old) old.edits →
      Sent ops far need2 ends_block u old new
  adds_move_step {ops} {far} {need} {need2} {ends_block} v c {class} {from} {to} {t} {old} {new} (direct flat eu en) there nowhere away moves s o =
      let es : List (ℕ × MoveValue) = old.edits ++ a_move (after i) from to ∷ [] in
      let mv : MovesNeed far.lived need need2 far.made_at v c from to old = moves old s.located (kept_all old) in
      let L : List Item = after_part insts (listed old.edits) placesf i n in
      let M : ℕ → Place → Type 0 = Need far.lived need2 far.made_at (location_at old) (slots_at old) in
      let claims : Claims Known (Move (record { from = from; to = to }) ∷ L) M E =
      claims_move Known E L (Need far.lived need far.made_at (put (location_at old) v c) (slots_at old)) M from to there mv.moved mv.others o.claims in
      let sent : Sent ops far need2 ends_block t old (record old { edits = es }) = record {
        steady = steady_push ops far ends_block t old es s.located s.held s.scratch_reserve s.fit s.clobbers s.within s.small
            (λ e. none_adds_move tail class from to t t old (record old { edits = es }) there (direct flat refl refl) (s.nowhere_needed e));
        owes = record {
          later = later_push tail (after i) (record { from = from; to = to }) old.edits o.later;
          claims = subst (λ l. Claims Known l M E) (sym (after_part-more insts (record { from = from; to = to }) old.edits placesf i n)) claims;
        };
        kept = kept_edits old old es (kept_all old);
      } in
      subst (λ (y : InstRegs). Sent ops far need2 ends_block y old new) (sym eu)
      (subst (Sent ops far need2 ends_block t old) (sym en) sent)
  adds_move_step {ops} {far} {need} {need2} {ends_block} v c {class} {from} {to} {t} {u} {old} (through by m stack scratches en) there nowhere away moves s
      o =
      let es : List (ℕ × MoveValue) = m.edits ++ a_move (after i) (InRegister by) to ∷ a_move (after i) from (InRegister by) ∷ [] in
      let off : has_register old.fixed_stack by ≡ false = scratch_off far.here far.claimed far.made_at (after i) class t u by old m scratches s.fit
      s.scratch_reserve in
      let apart : to ≡ InRegister by → ⊥ = λ e.
      let on : is_stack_in old to ≡ true = (and_parts (is_stack_in old from) (is_stack_in old to) stack).1 in
      let is_on : has_register old.fixed_stack by ≡ true = ap (is_stack_in old) (sym e) ∙ on in cc in
      let sb : ScratchedBut tail (what_of ops) far need u by v c old m =
      scratch_but tail scratches
      (s.scratch_reserve.idle class) s.held
      (λ e. elim away [
        | inl a ↦ (let x : Some to ≡ Some (InRegister by) = sym a ∙ e in let y : to ≡ InRegister by = cc in apart y)
        | inr a ↦
            (let x : None ≡ Some (InRegister by) = sym a ∙ e in cc)
      ])
      (λ e. let x : NoPlace ≡ InRegister by = sym nowhere ∙ e in cc) s.located o in
      let mv : MovesNeed far.lived need need2 far.made_at v c from to m = moves m sb.located sb.kept in
      let L : List Item = after_part insts (listed m.edits) placesf i n in
      let N : ℕ → Place → Type 0 = Need far.lived need far.made_at (put (location_at m) v c) (slots_at m) in
      let M : ℕ → Place → Type 0 = Need far.lived need2 far.made_at (location_at m) (slots_at m) in
      let none_held : (x : ℕ) → N x (InRegister by) → ⊥ = λ x z. elim z [
        | located l e ↦ elim (cases_eq x v) [
          | inl d ↦ elim away [
            | inl a ↦ (let y : Some to ≡ Some (InRegister by) = sym a ∙ sym (put_same (location_at m) v c x d) ∙ e in let w : to ≡ InRegister by = cc in apart w)
            | inr a ↦ (let y : None ≡ Some (InRegister by) = sym a ∙ sym (put_same (location_at m) v c x d) ∙ e in cc)
          ]
          | inr d ↦ sb.idle.no_allocs x (opt_from (place_in m x) (InRegister by) (sym (put_other (location_at m) v c x d) ∙ e))
        ]
        | in_slot f e ↦ slot_no_register m.slots.count (slot_in m x) by (sb.located.whole.below x) (opt_from (slot_in m x) (InRegister by) e)
        | made g ↦ (let y = sb.idle.clear x in cc)
      ] in
      let claims : Claims Known (Move (record { from = from; to = InRegister by }) ∷ (Move (record { from = InRegister by; to = to }) ∷ L)) M E =
      claims_by_two_moves Known E L N M from (InRegister by) to (λ z. cc) there none_held mv.moved mv.others sb.owes.claims in
      let less : Less t u = allocs_scratch_reg_less (after i) class t u by old m scratches in
      let sent : Sent ops far need2 ends_block u old (record m { edits = es }) = record {
        steady = steady_push ops far ends_block u m es sb.located sb.held
            (spare_more far.here far.claimed far.made_at (after i) class t u by old m scratches sb.idle sb.kept s.scratch_reserve)
            (fit_same old m sb.kept.machine s.fit) (λ r e. less.late r (s.clobbers r e)) s.within s.small
            (λ e. none_adds_move tail class from to t u old (record m { edits = es }) there (through by m stack scratches refl)
            (s.nowhere_needed e));
        owes = record {
          later = scratch_move_later tail from (InRegister by) to m.edits sb.owes.later;
          claims = subst (λ l. Claims Known l M E) (sym (scratch_move_items tail from (InRegister by) to m.edits)) claims;
        };
        kept = kept_edits old m es sb.kept;
      } in
      subst (Sent ops far need2 ends_block u old) (sym en) sent

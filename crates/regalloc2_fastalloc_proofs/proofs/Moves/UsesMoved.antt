-- Before an instruction: scratch registers are taken, and uses are moved to their places.
-- The fold in `Changes` doesn't apply: what the listing carries, or the operands' record, differs from step to step.
use Rattle.std.proofs.Common.{ℕ, ◌≡◌, ◌+◌, ◌≤◌, Bool, true, false, List, [], ◌∷◌, ◌++◌, length, refl, arith, sym, ap, ◌∙◌, subst, inr, ⊎_elim}
use Rattle.std.specs.Prelude.{Option, None, Some, not}
use Rattle.std.proofs.lemmas.Bool.{and_parts, not-false}
use Rattle.std.proofs.lemmas.List.{append_assoc}
use Rattle.regalloc2_names.specs.declared.RegClass.{RegClass}
use Rattle.regalloc2_names.specs.Register.{Register, has_register}
use Rattle.regalloc2_names.specs.Place.{Place, InRegister, is_place, before}
use Rattle.regalloc2_names.specs.Operand.{OperandValue, is_def, is_reading}
use Rattle.regalloc2_function.specs.OutputValue.{MoveValue}
use Rattle.regalloc2_carry.specs.Listing.{Item}
use Rattle.regalloc2_carry.specs.Listing.Item.{Move}
use Rattle.regalloc2_carry.specs.BlockByPoints.{AllFrom, before_part, listed}
use Rattle.regalloc2_carry.specs.Instruction.{Claims}
use Rattle.regalloc2_carry.specs.OperandsPlaced.{What, what_of, Progress, IsMoved, AreAllPlaced, Pending, still, slotted, used, Counts, Held}
use Rattle.regalloc2_semantics.proofs.Cells.{is_place-true}
use Rattle.regalloc2_carry.proofs.PushedMoves.{before_part-more}
use Rattle.regalloc2_carry.proofs.SharedPlace.{share_uses}
use Rattle.regalloc2_carry.proofs.Operands.{reads_use}
use Rattle.regalloc2_carry.proofs.NeedsAcrossMoves.{pend_move, pending_by_two_moves, pend_stay, pend_pass, pend_evict, pend_slot}
use Rattle.regalloc2_carry.proofs.BoundaryToBoundary.{FreeAt, scratch_idle}
use Rattle.regalloc2_fastalloc_state.specs.declared.inst_regs.InstRegs.{InstRegs}
use Rattle.regalloc2_function.specs.FunctionValue.{op_at}
use Rattle.regalloc2_fastalloc_proofs.specs.InstSteps.{StateValue, is_stack_in, EvictsVReg, none_held, moved, AllocsScratchReg, dedicated_scratch, had, a_move}
use Rattle.regalloc2_fastalloc_proofs.specs.InstSteps.{found, direct, through, AddsMoveIf, sent, unsent, MovesUses, none_moved, not_moved, one_moved}
use Rattle.regalloc2_fastalloc_proofs.specs.Safety.{IsWhole}
use Rattle.regalloc2_fastalloc_proofs.proofs.Safety.StepsKeepState.{place_in, slot_in, slot_no_register}
use Rattle.regalloc2_fastalloc_proofs.proofs.Operands.RecordOverState.{location_at, slots_at, opt, opt_from, Located, Shifts, shifts, shift_whole, located_after_shift}
use Rattle.regalloc2_fastalloc_proofs.proofs.Operands.RecordOverState.{shift_goes_to_slot, later_push, located_after_edits}
use Rattle.regalloc2_fastalloc_proofs.proofs.Evictions.EvictVReg.{held_early, held_late, Kept, kept_all, kept_edits, shift_kept}
use Rattle.regalloc2_fastalloc_proofs.proofs.Moves.ScratchRegTaken.{IsIdle, IsScratch, of_machine, taken, less_early, less_late, held_keeps, fit_same}
use Rattle.regalloc2_fastalloc_proofs.proofs.Moves.ScratchRegTaken.{free_unclaimed, Fit, Spare, spare_same, spare_kept, spare_more, scratch_off}
use Rattle.regalloc2_fastalloc_proofs.proofs.Evictions.EvictPReg.{kept_trans}
use Rattle.regalloc2_fastalloc_proofs.proofs.Operands.BlockTail.{BlockTail}

module _ (tail : BlockTail) (item : Item) where
  open tail use {Known, insts, placesf, i, n, E}

  -- what the listing carries with the instruction in front, while the moves of the uses from k on aren't listed yet
  pub record Pends (what : ℕ → What) (here : ℕ → Place) (done out : ℕ → Bool) (T S : ℕ → Option Place) (k : ℕ) (edits : List (ℕ × MoveValue)) : Type 0 where
    pub later : AllFrom (before i) (listed edits)
    pub claims : Claims Known (before_part insts (listed edits) placesf i n item) (Pending what here done out T S k) E

  pends_push : (what : ℕ → What) (here : ℕ → Place) (done out : ℕ → Bool) (T S : ℕ → Option Place) (k : ℕ) (es : List (ℕ × MoveValue)) (from to : Place) →
      AllFrom (before i) (listed es) →
      Claims Known (Move (record { from = from; to = to }) ∷ before_part insts (listed es) placesf i n item) (Pending what here done out T S k) E →
      Pends what here done out T S k (es ++ a_move (before i) from to ∷ [])
  pends_push what here done out T S k es from to later c = record {
    later = later_push tail (before i) (record { from = from; to = to }) es later;
    claims = subst (λ l. Claims Known l (Pending what here done out T S k) E)
        (sym (before_part-more insts (record { from = from; to = to }) es placesf i n item)) c;
  }

  -- a register is emptied
  pub record EmptiedBefore (what : ℕ → What) (far : Progress) (k : ℕ)
      (r : Register) (old new : StateValue) : Type 0 where
    pub located : Located what far new
    pub pends : Pends what far.here far.done far.out (location_at new) (slots_at new) k new.edits
    pub empty : (x : ℕ) → place_in new x ≡ InRegister r → ⊥
    pub others : (x : ℕ) → (place_in old x ≡ InRegister r → ⊥) → place_in new x ≡ place_in old x
    pub kept : Kept old new

  -- evicting a register before the instruction keeps the record of the uses that are still to be moved
  pub evict_before : (what : ℕ → What) (far : Progress) (k : ℕ)
      (r : Register) (old new : StateValue) → EvictsVReg (before i) r old new →
      ((x : ℕ) → location_at old x ≡ Some (InRegister r) → far.lived x ≡ true) → ((j : ℕ) → far.claimed j ≡ true → far.here j ≡ InRegister r → ⊥) →
      Located what far old → Pends what far.here far.done far.out (location_at old) (slots_at old) k old.edits →
      EmptiedBefore what far k r old new
  evict_before what far k r old new (none_held none same) may free st p =
      subst (EmptiedBefore what far k r old) (sym same) (record {
        located = st;
        pends = p;
        empty = λ x h. let y = st.whole.stands_in x r h in let z : None ≡ Some y.1.0 = sym none ∙ y.1.2 in cc;
        others = λ x h. refl;
        kept = kept_all old;
      })
  evict_before what far k r old new (moved v s lt held gives sets_alloc edits machine order) may free st p =
      let w : IsWhole new = shift_whole old new v r s lt held gives sets_alloc st.whole in
      let h : Shifts old new v r s = shifts old new v r s lt held gives sets_alloc st.whole in
      let L : List Item = before_part insts (listed old.edits) placesf i n item in
      let c : Claims Known (Move (record { from = s; to = InRegister r }) ∷ L) (Pending what far.here far.done far.out (location_at new) (slots_at new) k) E =
      pend_evict Known E L what far (location_at old) (location_at new) (slots_at new) k v.number (InRegister r) s (shift_goes_to_slot old new v r s h)
      (λ j d u e. free j (st.placed.claims j d) e)
      (pend_slot Known E L what far (location_at old) (slots_at old) (slots_at new) k h.grows p.claims) in
      record {
        located = located_after_shift old new v r s w h what far (may v.number h.was) st;
        pends = subst (Pends what far.here far.done far.out (location_at new) (slots_at new) k) (sym edits)
            (pends_push what far.here far.done far.out (location_at new) (slots_at new) k old.edits s (InRegister r) p.later c);
        empty = h.empty;
        others = λ x ne. sets_alloc.others x (λ e. ne (opt_from (place_in old x) (InRegister r) (ap (location_at old) e ∙ h.was)));
        kept = shift_kept old new v r s h sets_alloc.others sets_alloc.here gives.others machine;
      }

  -- a scratch register is taken
  pub record ScratchedBefore (what : ℕ → What) (far : Progress) (k : ℕ)
      (u : InstRegs) (by : Register) (old new : StateValue) : Type 0 where
    pub located : Located what far new
    pub pends : Pends what far.here far.done far.out (location_at new) (slots_at new) k new.edits
    pub held : Held what far.here far.claimed (held_early u) (held_late u)
    pub idle : IsIdle far.here far.claimed far.made_at by new
    pub kept : Kept old new
    pub others : (x : ℕ) → (place_in old x ≡ InRegister by → ⊥) → place_in new x ≡ place_in old x

  stayed_before : (what : ℕ → What) (far : Progress) (k : ℕ) (t u : InstRegs)
      (by : Register) (old new : StateValue) → u ≡ t → new ≡ old →
      IsIdle far.here far.claimed far.made_at by old → Held what far.here far.claimed (held_early t) (held_late t) →
      Located what far old → Pends what far.here far.done far.out (location_at old) (slots_at old) k old.edits →
      ScratchedBefore what far k u by old new
  stayed_before what far k t u by old new eu en idle h st p =
      subst (ScratchedBefore what far k u by old) (sym en) (record {
        located = st;
        pends = p;
        held = subst (λ (y : InstRegs). Held what far.here far.claimed (held_early y) (held_late y)) (sym eu) h;
        idle = idle;
        kept = kept_all old;
        others = λ x g. refl;
      })

  -- taking a scratch register before the instruction keeps the record of the uses that are still to be moved
  pub scratch_before : (what : ℕ → What) (far : Progress) (k : ℕ)
      (class : RegClass) (t u : InstRegs) (by : Register) (old new : StateValue) → AllocsScratchReg (before i) class t u by old new →
      ((b : Register) → IsScratch class t old b → IsIdle far.here far.claimed far.made_at b old) → Held what far.here far.claimed (held_early t) (held_late t) →
      Located what far old → Pends what far.here far.done far.out (location_at old) (slots_at old) k old.edits →
      ScratchedBefore what far k u by old new
  scratch_before what far k class t u by old new (dedicated_scratch own eu en) s h st p =
      stayed_before what far k t u by old new eu en (s by (of_machine own)) h st p
  scratch_before what far k class t u by old new (had none own eu en) s h st p =
      stayed_before what far k t u by old new eu en (s by (taken own)) h st p
  scratch_before what far k class t u by old new (found none unset may early late less_e less_l set evicts) s h st p =
      let free : FreeAt (held_early t) (held_late t) true true (InRegister by) = record { free_early = λ x. ap not early; free_late = λ x. ap not late } in
      let unclaimed : (j : ℕ) → far.claimed j ≡ true → far.here j ≡ InRegister by → ⊥ = free_unclaimed what far.here far.claimed t by early late h in
      let y = scratch_idle what far (location_at old) (slots_at old) (held_early t) (held_late t) (InRegister by) h free
      st.placed in
      let e : EmptiedBefore what far k by old new = evict_before what far k by old new evicts y.0
      unclaimed st p in
      record {
        located = e.located;
        pends = e.pends;
        held = held_keeps what far.here far.claimed (held_early t) (held_late t) (held_early u) (held_late u) (less_early t u by less_e)
            (less_late t u by less_l) h;
        idle = record { no_allocs = e.empty; clear = y.1; unclaimed = unclaimed };
        kept = e.kept;
        others = e.others;
      }

  -- the uses before k are moved
  pub record UsesMovedFrom (what : ℕ → What) (far : Progress) (k : ℕ) (u : InstRegs)
      (base t : StateValue) : Type 0 where
    pub located : Located what far t
    pub pends : Pends what far.here far.done far.out (location_at t) (slots_at t) k t.edits
    pub held : Held what far.here far.claimed (held_early u) (held_late u)
    pub scratch_reserve : Spare far.here far.claimed far.made_at u t
    pub fit : Fit t
    pub kept : Kept base t

  -- an operand is passed that isn't moved
  pub move_passed : (what : ℕ → What) (far : Progress) (k : ℕ) (u : InstRegs)
      (base t : StateValue) → (far.done k ≡ true → (what k).is_def ≡ true) →
      UsesMovedFrom what far k u base t → UsesMovedFrom what far (k + 1) u base t
  move_passed what far k u base t def m = record {
    located = m.located;
    pends = record {
      later = m.pends.later;
      claims = pend_pass Known E (before_part insts (listed t.edits) placesf i n item) what far (location_at t) (slots_at t) k def m.pends.claims;
    };
    held = m.held;
    scratch_reserve = m.scratch_reserve;
    fit = m.fit;
    kept = m.kept;
  }

  -- a placed use has a place to which its vreg may be moved
  use_facts : (what : ℕ → What) (far : Progress) (k : ℕ) (t : StateValue) → far.done k ≡ true → (what k).is_def ≡ false →
      Located what far t → IsMoved what far (location_at t) (slots_at t) k (place_in t (what k).number)
  use_facts what far k t d u st =
      let c : far.claimed k ≡ true = st.placed.claims k d in
      let f = st.placed.found k d u in
      record {
        there = st.placed.there k c;
        is_use = u;
        was_located = f.1 ∙ ap Some (sym (opt_from (place_in t (what k).number) f.0 f.1));
        alone = λ w e. st.placed.use_alone k w c u e;
        own = λ w e. st.placed.slot_own k w c e;
        apart = λ j dj uj e. ⊎_elim
            (λ (y : j ≡ k). ap (λ (z : ℕ). (what z).number) y)
            (λ sh. share_uses (what j) (what k) sh uj u)
            (st.placed.apart j k (st.placed.claims j dj) c e);
      }

  -- one use is moved to its place
  pub move_one : (what : ℕ → What) (far : Progress) (k : ℕ)
      (class : RegClass) (u w : InstRegs) (base m t : StateValue) → far.done k ≡ true → (what k).is_def ≡ false →
      AddsMoveIf (before i) class (not (is_place (place_in m (what k).number) (far.here k))) (place_in m (what k).number) (far.here k) u w m t →
      UsesMovedFrom what far k u base m → UsesMovedFrom what far (k + 1) w base t
  move_one what far k class u w base m t d us (unsent made eu en) v =
      let f : IsMoved what far (location_at m) (slots_at m) k (place_in m (what k).number) = use_facts what far k m d us v.located in
      let same : place_in m (what k).number ≡ far.here k = is_place-true (place_in m (what k).number) (far.here k)
      (not-false (is_place (place_in m (what k).number) (far.here k)) made) in
      subst (UsesMovedFrom what far (k + 1) w base) (sym en) (record {
        located = v.located;
        pends = record {
          later = v.pends.later;
          claims = pend_stay what far (location_at m) (slots_at m) k (place_in m (what k).number) f same Known E
              (before_part insts (listed m.edits) placesf i n item) v.pends.claims;
        };
        held = subst (λ (y : InstRegs). Held what far.here far.claimed (held_early y) (held_late y)) (sym eu) v.held;
        scratch_reserve = spare_same far.here far.claimed far.made_at u w m m eu refl v.scratch_reserve;
        fit = v.fit;
        kept = v.kept;
      })
  move_one what far k class u w base m t d us (sent made (direct flat eu en)) v =
      let f : IsMoved what far (location_at m) (slots_at m) k (place_in m (what k).number) = use_facts what far k m d us v.located in
      let q : Place = place_in m (what k).number in
      let es : List (ℕ × MoveValue) = m.edits ++ a_move (before i) q (far.here k) ∷ [] in
      let kept : Kept m (record m { edits = es }) = kept_edits m m es (kept_all m) in
      subst (UsesMovedFrom what far (k + 1) w base) (sym en) (record {
        located = located_after_edits what far m es v.located;
        pends = pends_push what far.here far.done far.out (location_at m) (slots_at m) (k + 1) m.edits q (far.here k) v.pends.later
            (pend_move what far (location_at m) (slots_at m) k q f Known E
            (before_part insts (listed m.edits) placesf i n item) v.pends.claims);
        held = subst (λ (y : InstRegs). Held what far.here far.claimed (held_early y) (held_late y)) (sym eu) v.held;
        scratch_reserve = spare_kept far.here far.claimed far.made_at w m (record m { edits = es }) kept
            (spare_same far.here far.claimed far.made_at u w m m eu refl v.scratch_reserve);
        fit = fit_same m (record m { edits = es }) kept.machine v.fit;
        kept = kept_trans base m (record m { edits = es }) v.kept kept;
      })
  move_one what far k class u w base m t d us (sent made (through by m2 stack sc en)) v =
      let q : Place = place_in m (what k).number in
      let s : ScratchedBefore what far k w by m m2 = scratch_before what far k class u w by m m2
      sc (v.scratch_reserve.idle class) v.held v.located v.pends in
      let f : IsMoved what far (location_at m2) (slots_at m2) k (place_in m2 (what k).number) = use_facts what far k m2 d us s.located in
      let away : q ≡ InRegister by → ⊥ = λ e.
      let on : has_register m.fixed_stack by ≡ true = ap (is_stack_in m) (sym e) ∙ (and_parts (is_stack_in m q) (is_stack_in m (far.here k)) stack).0 in
      let no : has_register m.fixed_stack by ≡ false = scratch_off far.here far.claimed far.made_at (before i) class u w by m m2 sc v.fit v.scratch_reserve in
      cc in
      let still_there : location_at m2 (what k).number ≡ Some q = ap opt (s.others (what k).number away)
      ∙ (use_facts what far k m d us v.located).was_located in
      let L : List Item = before_part insts (listed m2.edits) placesf i n item in
      let c : Claims Known (Move (record { from = q; to = InRegister by }) ∷ (Move (record { from = InRegister by; to = far.here k }) ∷ L))
      (Pending what far.here far.done far.out (location_at m2) (slots_at m2) (k + 1)) E =
      pending_by_two_moves what far (location_at m2) (slots_at m2) k q
      (record { there = f.there; is_use = us; was_located = still_there; alone = f.alone; own = f.own; apart = f.apart }) (InRegister by) Known E L (λ z. cc)
      (λ x z. elim z [
        | still e ↦ s.idle.no_allocs x (opt_from (place_in m2 x) (InRegister by) e)
        | slotted o e ↦ slot_no_register m2.slots.count (slot_in m2 x) by (s.located.whole.below x) (opt_from (slot_in m2 x) (InRegister by) e)
        | used j le dj uj a e ↦ s.idle.unclaimed j (s.located.placed.claims j dj) e
      ]) s.pends.claims in
      let es : List (ℕ × MoveValue) = m2.edits ++ a_move (before i) (InRegister by) (far.here k) ∷ a_move (before i) q (InRegister by) ∷ [] in
      let items : before_part insts (listed es) placesf i n item ≡ Move (record { from = q; to = InRegister by }) ∷
      (Move (record { from = InRegister by; to = far.here k }) ∷ L) =
      ap (λ xs. before_part insts (listed xs) placesf i n item)
      (sym (append_assoc m2.edits (a_move (before i) (InRegister by) (far.here k) ∷ []) (a_move (before i) q (InRegister by) ∷ [])))
      ∙ before_part-more insts (record { from = q; to = InRegister by }) (m2.edits ++ a_move (before i) (InRegister by) (far.here k) ∷ []) placesf i n item
      ∙ ap (λ l. Move (record { from = q; to = InRegister by }) ∷ l) (before_part-more insts (record { from = InRegister by; to = far.here k }) m2.edits
      placesf i n
      item) in
      let kept : Kept m (record m2 { edits = es }) = kept_edits m m2 es s.kept in
      subst (UsesMovedFrom what far (k + 1) w base) (sym en) (record {
        located = located_after_edits what far m2 es s.located;
        pends = record {
          later = subst (λ xs. AllFrom (before i) (listed xs)) (append_assoc m2.edits (a_move (before i) (InRegister by) (far.here k) ∷ [])
              (a_move (before i) q (InRegister by) ∷ []))
              (later_push tail (before i) (record { from = q; to = InRegister by })
              (m2.edits ++ a_move (before i) (InRegister by) (far.here k) ∷ [])
              (later_push tail (before i) (record { from = InRegister by; to = far.here k }) m2.edits s.pends.later));
          claims = subst (λ l. Claims Known l (Pending what far.here far.done far.out (location_at m2) (slots_at m2) (k + 1)) E) (sym items) c;
        };
        held = s.held;
        scratch_reserve = spare_kept far.here far.claimed far.made_at w m2 (record m2 { edits = es }) (kept_edits m2 m2 es (kept_all m2))
            (spare_more far.here far.claimed far.made_at (before i) class u w by m m2 sc s.idle s.kept v.scratch_reserve);
        fit = fit_same m (record m2 { edits = es }) kept.machine v.fit;
        kept = kept_trans base m (record m2 { edits = es }) v.kept kept;
      })

  -- all uses among the first k
  pub moves_uses_done : (ops : List OperandValue) (places : List Place) (far : Progress) (u : InstRegs) (base : StateValue) →
      AreAllPlaced ops places far → UsesMovedFrom (what_of ops) far 0 u base base →
      (k : ℕ) (w : InstRegs) (t : StateValue) → MovesUses (before i) ops places u base k w t → k ≤ length ops →
      UsesMovedFrom (what_of ops) far k w base t
  moves_uses_done ops places far u base all begin k w t none_moved = λ le. begin
  moves_uses_done ops places far u base all begin k w t (not_moved x s m prev reads) = λ le.
      move_passed (what_of ops) far x w base t
      (λ d. ⊎_elim (λ (y : is_def (op_at ops x).kind ≡ true). y) (λ (y : is_reading (op_at ops x) ≡ true). absurd cc) (all.counted x d).1)
      (moves_uses_done ops places far u base all begin x w t prev (omega arith))
  moves_uses_done ops places far u base all begin k w t (one_moved x s r m q prev reads sends) = λ le.
      let c : Counts ops x = (omega arith, inr reads) in
      move_one (what_of ops) far x (op_at ops x).vreg.class s w base m t (all.all x c) (reads_use (op_at ops x) reads)
      (subst (λ (p : Place). AddsMoveIf (before i) (op_at ops x).vreg.class (not (is_place (place_in m (op_at ops x).vreg.number) p))
      (place_in m (op_at ops x).vreg.number) p s w m t) (all.at_places x c) sends)
      (moves_uses_done ops places far u base all begin x s m prev (omega arith))

-- From the boundary after an instruction to its first operand: fixed registers are claimed, and clobbers are emptied.
use Rattle.std.proofs.Common.{ℕ, zero, suc, ◌≡◌, ◌+◌, ◌<◌, Bool, true, false, List, [], ◌∷◌, length, refl, arith, sym, ap, ◌∙◌, subst, inl, inr, ◌⊎◌, ⊎_elim}
use Rattle.std.specs.Prelude.{None, Some, not, ◌&&◌, ◌||◌, Contains, slice_index_or}
use Rattle.std.proofs.lemmas.Bool.{cases_Bool, or_left, or_right}
use Rattle.regalloc2_names.specs.declared.RegClass.{RegClass}
use Rattle.regalloc2_names.specs.declared.RegClass.TheVariants.{Int, Float, Vector}
use Rattle.regalloc2_names.specs.declared.sets.PRegSet.{PRegSet}
use Rattle.regalloc2_names.specs.Register.{Register, VirtualRegister, class_code, has_register, registers_of}
use Rattle.regalloc2_names.specs.Listed.{is_listed}
use Rattle.regalloc2_names.specs.Operand.{OperandValue, is_def, is_late}
use Rattle.regalloc2_names.specs.Place.{Place, NoPlace, InRegister, InSlot, before, after}
use Rattle.regalloc2_function.specs.FunctionValue.{InstValue, op_at}
use Rattle.regalloc2_carry.specs.Carry.{is_clobbered}
use Rattle.regalloc2_carry.specs.Instruction.{Claims}
use Rattle.regalloc2_carry.specs.BlockByPoints.{AllFrom, at_point, walked, listed}
use Rattle.regalloc2_carry.specs.OperandsPlaced.{What, what_of, Progress, Need}
use Rattle.regalloc2_carry.proofs.MoveInFront.{after_part-clean}
use Rattle.regalloc2_fastalloc_state.specs.declared.inst_regs.InstRegs.{InstRegs}
use Rattle.regalloc2_fastalloc_state.specs.declared.positions.Positions.{Positions}
use Rattle.regalloc2_fastalloc_state.specs.Positions.{positions_of}
use Rattle.regalloc2_fastalloc_proofs.specs.InstSteps.{StateValue, NeedsFixedReg, own, named, ReservesRegs, RemovesClobbers, EvictsEach, none_left, one_more}
use Rattle.regalloc2_fastalloc_proofs.specs.InstSteps.{AllocsInst, ends_block}
use Rattle.regalloc2_fastalloc_proofs.specs.Safety.{IsWhole}
use Rattle.regalloc2_fastalloc_proofs.proofs.Safety.StepsKeepState.{place_in}
use Rattle.regalloc2_fastalloc_proofs.proofs.Operands.RecordOverState.{opt_from, location_at, slots_at, Located, OwesPlaces}
use Rattle.regalloc2_fastalloc_proofs.proofs.Evictions.EvictVReg.{Kept, kept_all}
use Rattle.regalloc2_fastalloc_proofs.proofs.Moves.ScratchRegTaken.{of_machine, taken, Fit, Less, less_same, less_trans, and_none}
use Rattle.regalloc2_fastalloc_proofs.proofs.Evictions.EvictPReg.{kept_trans}
use Rattle.regalloc2_fastalloc_proofs.proofs.Inst.AcrossInst.{lives_in, located_at_begin, begin_owes}
use Rattle.regalloc2_fastalloc_proofs.proofs.Operands.RecordOfInst.{Orderly, Waits, of_fixed, of_reuse, Laid}
use Rattle.regalloc2_fastalloc_proofs.proofs.Evictions.EvictKeepsRecord.{ready_evicts_preg}
use Rattle.regalloc2_fastalloc_proofs.proofs.Evictions.EvictFixed.{begun, Reserved, claims_at, Start, FixedUpTo, evicts_fixed_done, all_lived}
use Rattle.regalloc2_fastalloc_proofs.proofs.Operands.BlockTail.{BlockTail}

-- in a well-formed function the fixed register of a definition, a late use or a reuse is no clobber
abbrev pub AvoidClobbers : List OperandValue → PRegSet → Type 0
AvoidClobbers ops clobbers = (k : ℕ) (r : Register) (p : Positions) → k < length ops → NeedsFixedReg ops k r p → p.late ≡ true → has_register clobbers r ≡ false

-- all that is reserved, with the clobbers
still_held : (a b c : Bool) → c ≡ (not a && b) → b ≡ false → c ≡ false
still_held true b c e h = e
still_held false b c e h = e ∙ h

-- what operands reserve stays reserved once the clobbers are taken too
pub reserved_all : (ops : List OperandValue) (clobbers : PRegSet) (t u b : InstRegs) (old : StateValue) → Fit old → ReservesRegs ops t u old →
    RemovesClobbers clobbers u b → Reserved ops b old
reserved_all ops clobbers t u b old f s h = record {
  known = s.known;
  small = λ k r p lt c. f.small r (s.known k r p lt c);
  early = λ k r p lt c e. h.early r ∙ s.held_early k r p lt c e;
  late = λ k r p lt c e. still_held (has_register clobbers r) (has_register u.late r) (has_register b.late r) (h.late r) (s.held_late k r p lt c e);
  apart = s.apart;
}

-- no scratch register is taken yet
pub no_scratch : (u : InstRegs) (c : RegClass) (q : Register) → u.scratch ≡ None ∷ None ∷ None ∷ [] → slice_index_or u.scratch (class_code c) None ≡ Some q → ⊥
no_scratch u Int q e h = let x : None ≡ Some q = ap (λ l. slice_index_or l 0 None) (sym e) ∙ h in cc
no_scratch u Float q e h = let x : None ≡ Some q = ap (λ l. slice_index_or l 1 None) (sym e) ∙ h in cc
no_scratch u Vector q e h = let x : None ≡ Some q = ap (λ l. slice_index_or l 2 None) (sym e) ∙ h in cc

-- clobbers: no live vreg is in one, and no operand has claimed one that it writes or reads late
pub located_after_clobbers : (what : ℕ → What) (far : Progress) (clob2 : Place → Bool) (t : StateValue) →
    ((j : ℕ) → far.claimed j ≡ true → ((what j).is_def ≡ true) ⊎ ((what j).is_late ≡ true) → clob2 (far.here j) ≡ false) →
    ((w : ℕ) (p : Place) → location_at t w ≡ Some p → clob2 p ≡ false) → ((k : ℕ) → clob2 (InSlot k) ≡ false) →
    Located what far t → Located what (record far { clobbered = clob2 }) t
located_after_clobbers what far clob2 t kept cleared unclobbered st = record {
  whole = st.whole;
  placed = record {
    there = st.placed.there;
    apart = st.placed.apart;
    def_alone = st.placed.def_alone;
    use_alone = st.placed.use_alone;
    slot_own = st.placed.slot_own;
    kept = kept;
    cleared = λ w p l e. cleared w p e;
    claims = st.placed.claims;
    found = st.placed.found;
    newly = st.placed.newly;
    lives = st.placed.lives;
    gone = st.placed.gone;
    defined = st.placed.defined;
    outs = st.placed.outs;
    makes = st.placed.makes;
  };
  below = st.below;
  unclobbered = unclobbered;
}

late_by : (d l : Bool) → (d ≡ true) ⊎ (l ≡ true) → (d || l) ≡ true
late_by d l h = elim h [ inl e ↦ or_left d l e | inr e ↦ or_right d l e ]

module _ (Known : VirtualRegister → Type 0) (insts : ℕ → InstValue) (placesf : ℕ → List Place) (E : VirtualRegister → Place → Type 0) where
  -- What holds before the instruction i, with n instructions from it on: no move is before it, the listing carries each
  -- known vreg from its location and, unless out excludes it, from its slot, and no vreg is in a register reserved for
  -- moves.
  pub record CarriedBut (out : ℕ → Bool) (i n : ℕ) (t : StateValue) : Type 0 where
    pub whole : IsWhole t
    pub later : AllFrom (before i) (listed t.edits)
    pub claims : Claims Known (walked insts (at_point (listed t.edits)) placesf i n) (Need (lives_in t) out (λ p x. false) (location_at t) (slots_at t)) E
    pub fit : Fit t
    pub apart : (c : RegClass) (b : Register) → slice_index_or t.dedicated_scratch (class_code c) None ≡ Some b → (x : ℕ) → place_in t x ≡ InRegister b → ⊥

  -- `CarriedBut` from every slot
  abbrev pub Carried : ℕ → ℕ → StateValue → Type 0
  Carried = CarriedBut (λ x. false)

  -- What is listed after an instruction that ends its block carries each known vreg from nowhere.
  abbrev pub EndsHere : ℕ → ℕ → Bool → StateValue → Type 0
  EndsHere i n ends_block t = ends_block ≡ true → Claims Known (walked insts (at_point (listed t.edits)) placesf i n) (λ x p. ⊥) E

module _ (tail : BlockTail) where
  open tail use {Known, insts, placesf, i, n, E}

  -- after an instruction, with nothing reserved or claimed, the record of its operands holds
  pub start : (ops : List OperandValue) (ends_block : Bool) (b : InstRegs) (t : StateValue) → Carried Known insts placesf E (i + 1) n t → EndsHere Known insts
      placesf E (i + 1) n ends_block t →
      b.scratch ≡ None ∷ None ∷ None ∷ [] →
      FixedUpTo tail ops (lives_in t) ends_block b t 0 b t
  start ops ends_block b t c ends none =
      let owes : OwesPlaces tail (lives_in t) (λ x. false) (λ p x. false) (location_at t) (slots_at t) t.edits = begin_owes tail t c.later c.claims in
      record {
        here = λ j. NoPlace;
        claimed = λ j. false;
        ready = record {
          located = located_at_begin (what_of ops) (λ j. NoPlace) t c.whole;
          owes = owes;
          nowhere_needed = λ e. subst (λ l. Claims Known l (λ x p. ⊥) E) (sym (after_part-clean insts (listed t.edits) placesf i n c.later)) (ends e);
          held = record { early_uses = λ j x u. absurd cc; early_defs = λ j x u. absurd cc; late_defs = λ j x u. absurd cc; late_uses = λ j x u. absurd cc };
          scratch_reserve = record {
            idle = λ d q is. elim is [
              | of_machine e ↦ record { no_allocs = c.apart d q e; clear = λ x. refl; unclaimed = λ j x e2. cc }
              | taken e ↦ absurd (no_scratch b d q none e)
            ];
            own = λ d q e. absurd (no_scratch b d q none e);
            early = λ d q e. absurd (no_scratch b d q none e);
            late = λ d q e. absurd (no_scratch b d q none e);
          };
          fit = c.fit;
          clobbers = λ r e. absurd cc;
          within = λ j x. absurd cc;
          small = λ j r x e. absurd cc;
        };
        kept = kept_all t;
        less = less_same b b refl;
        free = λ d q e. absurd (no_scratch b d q none e);
        took = λ j x. absurd cc;
        fixed = λ j r lt k e. absurd (omega arith);
        fixed_reuse = λ j m r lt k e f. absurd (omega arith);
      }

  -- registers are emptied one after another
  pub record Quieted (ops : List OperandValue) (here : ℕ → Place) (claimed lived : ℕ → Bool) (ends_block : Bool) (rs : List Register) (t u : InstRegs)
      (old new : StateValue) : Type 0 where
    pub ready : Start tail ops here claimed lived ends_block u new
    pub kept : Kept old new
    pub less : Less t u
    pub emptied : (r : Register) → Contains rs r → (x : ℕ) → place_in new x ≡ InRegister r → ⊥

  -- evicting a list of registers, such as the clobbers, keeps the record, and leaves no vreg in any of them
  pub all_cleared : (ops : List OperandValue) (here : ℕ → Place) (claimed lived : ℕ → Bool) (ends_block : Bool) (rs : List Register) (t u : InstRegs)
      (old new : StateValue) → EvictsEach (after i) rs t old u new →
      Start tail ops here claimed lived ends_block t old → Quieted ops here claimed lived ends_block rs t u old new
  all_cleared ops here claimed lived ends_block rs t u old new (none_left w m) =
      λ s. record { ready = s; kept = kept_all old; less = less_same t t refl; emptied = λ r c x e. let lt : c.0 < 0 = c.1 in absurd (omega arith) }
  all_cleared ops here claimed lived ends_block rs t u old new (one_more q qs t1 w u1 old1 m new1 clears rest) = λ s.
      let c = ready_evicts_preg tail ops (begun here claimed lived) ends_block q t w old m clears
      (λ v at. (all_lived (what_of ops) here claimed lived old s.located v (InRegister q) at, λ z. refl)) s in
      let y : Quieted ops here claimed lived ends_block qs w u m new = all_cleared ops here claimed lived ends_block qs w u m new rest c.0.ready in
      record {
        ready = y.ready;
        kept = kept_trans old m new c.0.kept y.kept;
        less = less_trans t w u c.0.less y.less;
        emptied = λ r has x e. by_index has.0 r has.1 has.2 x e y.emptied (λ z h. c.1 z (y.kept.registers z q h));
      }
    where
      by_index : (k : ℕ) (r : Register) → k < length (q ∷ qs) → slice_index_or (q ∷ qs) k r ≡ r → (x : ℕ) → place_in new x ≡ InRegister r →
          ((p : Register) → Contains qs p → (z : ℕ) → place_in new z ≡ InRegister p → ⊥) → ((z : ℕ) → place_in new z ≡ InRegister q → ⊥) → ⊥
      by_index zero r lt e x at others first = first x (at ∙ ap InRegister (sym e))
      by_index (suc k) r lt e x at others first = others r (k, omega arith, e) x at

  -- the operands may be allocated
  pub ready_for_operands : (inst : InstValue) (blank places : List Place) (old new : StateValue) → Orderly inst.operands → AvoidClobbers inst.operands inst.clobbers →
      EndsHere Known insts placesf E (i + 1) n (ends_block inst) old → Carried Known insts placesf E (i + 1) n old →
      (a : AllocsInst i inst blank places old new) →
      Laid tail inst.operands (lives_in old) (is_clobbered inst.clobbers) (ends_block inst) true 0 blank a.quiet a.after_clobbers
  ready_for_operands inst blank places old new o v ends c a =
      let ops : List OperandValue = inst.operands in
      let none : a.prepares.held.scratch ≡ None ∷ None ∷ None ∷ [] = a.prepares.holds.scratch ∙ a.prepares.reserves.scratch ∙ a.fresh.scratch in
      let x : FixedUpTo tail ops (lives_in old) (ends_block inst) a.prepares.held old (length ops) a.prepares.cleared a.prepares.middle =
      evicts_fixed_done tail ops (lives_in old) (ends_block inst) a.prepares.held old o
      (reserved_all ops inst.clobbers a.began a.prepares.reserved a.prepares.held old c.fit a.prepares.reserves a.prepares.holds)
      (start ops (ends_block inst) a.prepares.held old c ends none)
      (length ops)
      a.prepares.cleared a.prepares.middle a.prepares.fixed (omega arith) in
      let y : Quieted ops x.here x.claimed (lives_in old) (ends_block inst) (registers_of inst.clobbers) a.prepares.cleared a.quiet a.prepares.middle
      a.after_clobbers =
      all_cleared ops x.here x.claimed (lives_in old) (ends_block inst) (registers_of inst.clobbers) a.prepares.cleared a.quiet a.prepares.middle
      a.after_clobbers
      a.prepares.emptied
      x.ready in
      let less : Less a.prepares.held a.quiet = less_trans a.prepares.held a.prepares.cleared a.quiet x.less y.less in
      record {
        here = x.here;
        claimed = x.claimed;
        done = λ j. false;
        out = λ w. false;
        X = λ p w. false;
        ready = record {
          located = located_after_clobbers (what_of ops) (begun x.here x.claimed (lives_in old)) (is_clobbered inst.clobbers) a.after_clobbers
              (λ j k h. let t = (x.took j k).1 in
              let p : Positions = positions_of (op_at ops j) in
              let f : NeedsFixedReg ops j t.0 p = subst (NeedsFixedReg ops j t.0) (claims_at ops j t.0 t.2.at o t.2.within t.2.claims) t.2.claims in
              ap (is_clobbered inst.clobbers) t.1 ∙ v j t.0 p t.2.within f (late_by (is_def (op_at ops j).kind) (is_late (op_at ops j).position) h))
              (λ w p e. quiet_there p w (opt_from (place_in a.after_clobbers w) p e) y.ready.located.whole y.emptied)
              (λ k. refl) y.ready.located;
          owes = y.ready.owes;
          nowhere_needed = y.ready.nowhere_needed;
          held = y.ready.held;
          scratch_reserve = y.ready.scratch_reserve;
          fit = y.ready.fit;
          clobbers = λ r e. less.late r (and_none (has_register inst.clobbers r) (has_register a.prepares.reserved.late r) (has_register a.prepares.held.late r)
              (a.prepares.holds.late r) e);
          within = y.ready.within;
          small = y.ready.small;
        };
        turned = λ j d. absurd cc;
        all = λ j k t. elim t [ inl h ↦ (let lt : j < 0 = h.1 in absurd (omega arith)) | inr h ↦ (let e : true ≡ false = h.0 in absurd cc) ];
        fixed = λ j r k e. x.fixed j r k.0 k e;
        fixed_reuse = λ j m r k e f. x.fixed_reuse j m r k.0 k e f;
        waiting = λ j k d. let t = (x.took j k).1 in (t.0, t.1, waits_by ops blank j t.0 t.2.at t.2.claims);
        long = a.long;
        listed_here = λ j k h. absurd (h (a.no_places j));
        placed = λ j d. absurd cc;
        written = λ j d def. absurd cc;
      }
    where
      quiet_there : (p : Place) (w : ℕ) → place_in a.after_clobbers w ≡ p → IsWhole a.after_clobbers →
          ((r : Register) → Contains (registers_of inst.clobbers) r → (x : ℕ) → place_in a.after_clobbers x ≡ InRegister r → ⊥) →
          is_clobbered inst.clobbers p ≡ false
      quiet_there NoPlace w at whole emptied = refl
      quiet_there (InRegister r) w at whole emptied = ⊎_elim
          (λ (h : has_register inst.clobbers r ≡ true). absurd (emptied r (is_listed inst.clobbers r (whole.stands_in w r at).0 h) w at))
          (λ (h : has_register inst.clobbers r ≡ false). h)
          (cases_Bool (has_register inst.clobbers r))
      quiet_there (InSlot k) w at whole emptied = refl

      waits_by : (ops : List OperandValue) (list : List Place) (j : ℕ) (r : Register) (p : Positions) → NeedsFixedReg ops j r p → Waits ops list j r
      waits_by ops list j r p (own able fixed e) = of_fixed fixed
      waits_by ops list j r p (named m reuse within fixed e) = of_reuse m reuse fixed

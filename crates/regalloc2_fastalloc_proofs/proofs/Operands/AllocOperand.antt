-- An operand gets its place: its vreg's location, or its vreg's slot, or a free register, or the register that it
-- claimed before.
-- The fold in `Changes` doesn't apply: what the listing carries, or the operands' record, differs from step to step.
use Rattle.std.proofs.Common.{ℕ, ◌≡◌, ◌≢◌, ◌<◌, Bool, true, false, cond, List, refl, sym, ap, ◌∙◌, subst, inl, inr, ◌⊎◌, ⊎_elim, nat_eq, eq-eqb}
use Rattle.std.specs.Prelude.{None, Some, not, slice_index_or}
use Rattle.std.proofs.lemmas.Bool.{cases_Bool, cases_eq, ne_eqb}
use Rattle.regalloc2_names.specs.declared.RegClass.{RegClass}
use Rattle.regalloc2_names.specs.Register.{Register, VirtualRegister, class_code, has_register}
use Rattle.regalloc2_names.specs.Operand.{OperandValue, is_def, is_late}
use Rattle.regalloc2_names.specs.Place.{Place, InRegister, InSlot, after}
use Rattle.regalloc2_carry.specs.BlockByPoints.{AllFrom, after_part, listed}
use Rattle.regalloc2_carry.specs.OperandsPlaced.{what_of, Counts, Progress, Once, Clear, Puts, Need, located, in_slot as needed, made}
use Rattle.regalloc2_carry.specs.Instruction.{Claims}
use Rattle.regalloc2_carry.proofs.BoundaryToBoundary.{Covers, FreeAt, free_of}
use Rattle.regalloc2_carry.proofs.AllowedPlaces.{clear_free, clear_kept_use, clear_kept_def, evictable}
use Rattle.regalloc2_carry.proofs.NeedsAcrossMoves.{claims_weaken}
use Rattle.regalloc2_fastalloc_state.specs.declared.inst_regs.InstRegs.{InstRegs}
use Rattle.regalloc2_fastalloc_state.specs.declared.request.Requirement.{Requirement}
use Rattle.regalloc2_fastalloc_state.specs.declared.request.Requirement.TheVariants.{AnyPlace, AnyReg, OnStack, InPReg}
use Rattle.regalloc2_fastalloc_state.specs.declared.request.OperandRequest.{OperandRequest}
use Rattle.regalloc2_fastalloc_state.specs.StateParts.{VRegAllocsValue, alloc_of, GetsSpillSlot}
use Rattle.regalloc2_fastalloc_state.specs.InstRegs.{IsAvailableAt}
use Rattle.regalloc2_function.specs.FunctionValue.{op_at}
use Rattle.regalloc2_fastalloc_proofs.specs.InstSteps.{StateValue, SameMachine, MayHold, MeetsRequirement, SelectsPlace, stays, fixed, slot, free}
use Rattle.regalloc2_fastalloc_proofs.specs.InstSteps.{ClaimsPlace, in_slot, in_register, AllocsOperand, EvictsOtherVRegs, own, others}
use Rattle.regalloc2_fastalloc_proofs.specs.Safety.{IsWhole}
use Rattle.regalloc2_fastalloc_proofs.proofs.Safety.StepsKeepState.{place_in, slot_in, whole_tidy, given}
use Rattle.regalloc2_fastalloc_proofs.proofs.Operands.RecordOverState.{opt, location_at, slots_at, slots_grow, give_stands, Located}
use Rattle.regalloc2_fastalloc_proofs.proofs.Evictions.EvictVReg.{held_early, held_late}
use Rattle.regalloc2_fastalloc_proofs.proofs.Moves.ScratchRegTaken.{IsScratch, of_machine, taken, held_keeps, scratch_back, fit_same}
use Rattle.regalloc2_fastalloc_proofs.proofs.Operands.ClaimAndUse.{claim_register, claim_slot}
use Rattle.regalloc2_fastalloc_proofs.proofs.Operands.RecordOfInst.{Ready, ready_used}
use Rattle.regalloc2_fastalloc_proofs.proofs.Evictions.EvictKeepsRecord.{NoneNeeded, ready_evicts_other_vregs, evicts_other_vregs_flat}
use Rattle.regalloc2_fastalloc_proofs.proofs.Operands.ClaimKeepsRecord.{Grips, grips_register, grips_slot, ready_claim}
use Rattle.regalloc2_fastalloc_proofs.proofs.Operands.BlockTail.{BlockTail}
use Rattle.regalloc2_fastalloc_proofs.proofs.Changes.OneChange.{uses_rest}

-- the operand k has the place p from now on
abbrev pub set_at : (ℕ → Place) → ℕ → Place → ℕ → Place
set_at here k p = λ j. cond (nat_eq j k) p (here j)

-- operand k is marked, in addition to the operands that were
abbrev pub and_one : (ℕ → Bool) → ℕ → ℕ → Bool
and_one claimed k = λ j. cond (nat_eq j k) true (claimed j)

-- operand k is among the marked ones once it is added
pub and_one_same : (claimed : ℕ → Bool) (k j : ℕ) → j ≡ k → and_one claimed k j ≡ true
and_one_same claimed k j e = ap (λ b. cond b true (claimed j)) (eq-eqb j k e)

-- whether an operand other than k is marked doesn't change where k is added
pub and_one_other : (claimed : ℕ → Bool) (k j : ℕ) → (j ≡ k → ⊥) → and_one claimed k j ≡ claimed j
and_one_other claimed k j ne = ap (λ b. cond b true (claimed j)) (ne_eqb j k ne)

-- an operand that is marked after k was added is k, or was marked before
pub and_one_grows : (claimed : ℕ → Bool) (k j : ℕ) → and_one claimed k j ≡ true → (j ≡ k) ⊎ (claimed j ≡ true)
and_one_grows claimed k j e = elim (cases_eq j k) [ inl a ↦ inl a | inr a ↦ inr (sym (and_one_other claimed k j a) ∙ e) ]

-- operands that were marked stay so where k is added
pub and_one_keeps : (claimed : ℕ → Bool) (k j : ℕ) → claimed j ≡ true → and_one claimed k j ≡ true
and_one_keeps claimed k j e = elim (cases_eq j k) [ inl a ↦ and_one_same claimed k j a | inr a ↦ (and_one_other claimed k j a ∙ e) ]

-- operand k has the place that it was given
pub set_at_same : (here : ℕ → Place) (k j : ℕ) (p : Place) → j ≡ k → set_at here k p j ≡ p
set_at_same here k j p e = ap (λ b. cond b p (here j)) (eq-eqb j k e)

-- operands other than k keep their places where k is given one
pub set_at_other : (here : ℕ → Place) (k j : ℕ) (p : Place) → (j ≡ k → ⊥) → set_at here k p j ≡ here j
set_at_other here k j p ne = ap (λ b. cond b p (here j)) (ne_eqb j k ne)

-- operand k, which had claimed nothing, claims the place that it is given; the others have the places and claims that
-- they had
pub puts_one : (here : ℕ → Place) (claimed : ℕ → Bool) (k : ℕ) (p : Place) → claimed k ≡ false → Puts here (set_at here k p) claimed (and_one claimed k) k p
puts_one here claimed k p f = record {
  fresh = f;
  at_k = set_at_same here k k p refl;
  at_j = λ j ne. set_at_other here k j p ne;
  grows = and_one_grows claimed k;
  keeps = and_one_keeps claimed k;
  claims = and_one_same claimed k k refl;
}

-- whether an operand has claimed its register before it is allocated
pub data Due (here : ℕ → Place) (claimed : ℕ → Bool) (k : ℕ) (requirement : Requirement) : Type 0 where
  owed : (r : Register) → claimed k ≡ true → here k ≡ InRegister r → requirement ≡ InPReg r → Due here claimed k requirement
  fresh : claimed k ≡ false → ((r : Register) → requirement ≡ InPReg r → ⊥) → Due here claimed k requirement

-- the place that the vreg keeps meets the requirement
pub meets_requirement_at : (t : StateValue) (w : Requirement) (p : Place) (r : Register) → w ≡ InPReg r → MeetsRequirement t w p → p ≡ InRegister r
unfolding MeetsRequirement
meets_requirement_at t w p r e s = subst (λ x. MeetsRequirement t x p) e s

not_both : (w a : Requirement) (r : Register) → w ≡ InPReg r → (w ≡ AnyPlace) ⊎ (w ≡ a) → a ≢ InPReg r → ⊥
not_both w a r e h ne = elim h [
  | inl x ↦ (let y : AnyPlace ≡ InPReg r = sym x ∙ e in cc)
  | inr x ↦ ne (sym x ∙ e)
]

-- any vreg that is in a register alone keeps it
pub evicts_other_vregs_own : (point : ℕ) (r : Register) (v : VirtualRegister) (t u : InstRegs) (old new : StateValue) →
    EvictsOtherVRegs point r v t u old new → IsWhole old →
    place_in old v.number ≡ InRegister r → (u ≡ t) × (new ≡ old)
evicts_other_vregs_own point r v t u old new (own w there same eu en) whole at = (eu, en)
evicts_other_vregs_own point r v t u old new (others other c) whole at = let x = whole.stands_in v.number r at in absurd (other x.1.0 x.1.2 x.1.1)

-- The operand k is next, and isn't placed yet: its request, at positions that cover its own; the registers and the
-- tables before it (t, old); and the registers (u) and the place (p) that it ends with. Once late uses are placed, no
-- early use is.
pub record NextOperand (tail : BlockTail) (ops : List OperandValue) (far : Progress) (ends_block : Bool) : Type 0 where
  pub k : ℕ
  pub o : OperandRequest
  pub nv : o.vreg.number ≡ (op_at ops k).vreg.number
  pub covers : Covers (what_of ops k) o.positions.early o.positions.late
  pub counts : Counts ops k
  pub once : Once (Counts ops) (what_of ops)
  pub new_one : far.done k ≡ false
  pub phase : is_late (op_at ops k).position ≡ true → (j : ℕ) → far.done j ≡ true → is_def (op_at ops j).kind ≡ false →
      is_late (op_at ops j).position ≡ true
  pub t : InstRegs
  pub u : InstRegs
  pub p : Place
  pub old : StateValue
  pub s : Ready tail ops far ends_block t old

module _ (tail : BlockTail) (ops : List OperandValue) (far : Progress) (ends_block : Bool) where
  open tail use {Known, insts, placesf, i, n, E}

  -- a register is held from now on, and the claims stay
  pub ready_grip : (t u : InstRegs) (p : Place) (k : ℕ) (o : OperandRequest) (m : StateValue) → Grips t u p o.positions →
      Ready tail ops far ends_block t m →
      Ready tail ops far ends_block u m
  ready_grip t u p k o m g s =
      let back : (c : RegClass) (b : Register) → slice_index_or u.scratch (class_code c) None ≡ Some b →
      slice_index_or t.scratch (class_code c) None ≡ Some b = λ c b e. ap (λ l. slice_index_or l (class_code c) None) (sym g.scratch) ∙ e in
      record {
        located = s.located;
        owes = s.owes;
        nowhere_needed = s.nowhere_needed;
        held = held_keeps (what_of ops) far.here far.claimed (held_early t) (held_late t) (held_early u) (held_late u) g.early.keeps g.late.keeps s.held;
        scratch_reserve = record {
          idle = λ c b is. s.scratch_reserve.idle c b (elim is [ of_machine e ↦ of_machine e | taken e ↦ taken (back c b e) ]);
          own = λ c b e. s.scratch_reserve.own c b (back c b e);
          early = λ c b e. g.less.early b (s.scratch_reserve.early c b (back c b e));
          late = λ c b e. g.less.late b (s.scratch_reserve.late c b (back c b e));
        };
        fit = s.fit;
        clobbers = λ r e. g.less.late r (s.clobbers r e);
        within = s.within;
        small = s.small;
      }

  -- operand k has its place p: it claims it, no other operand's place changes, and a register p has no other vreg
  pub record Got (k : ℕ) (p : Place) (u : InstRegs) (new : StateValue) : Type 0 where
    pub there : ℕ → Place
    pub claimed2 : ℕ → Bool
    pub ready : Ready tail ops (record far { here = there; claimed = claimed2 }) ends_block u new
    pub at_k : there k ≡ p
    pub at_j : (j : ℕ) → (j ≡ k → ⊥) → there j ≡ far.here j
    pub same : (j : ℕ) → far.claimed j ≡ true → there j ≡ far.here j
    pub grows : (j : ℕ) → claimed2 j ≡ true → (j ≡ k) ⊎ (far.claimed j ≡ true)
    pub keeps : (j : ℕ) → far.claimed j ≡ true → claimed2 j ≡ true
    pub claims : claimed2 k ≡ true
    pub only_vreg : (r : Register) → p ≡ InRegister r → (x : ℕ) → place_in new x ≡ InRegister r → x ≡ (op_at ops k).vreg.number
    pub own_slot : (m : ℕ) → p ≡ InSlot m → slot_in new (op_at ops k).vreg.number ≡ InSlot m

  module _ (turn : NextOperand tail ops far ends_block) where
    open turn use {k, o, nv, covers, counts, once, new_one, phase, t, u, p, old, s}

    abbrev num : ℕ
    num = (op_at ops k).vreg.number

    fresh_same : far.claimed k ≡ false → (j : ℕ) → far.claimed j ≡ true → set_at far.here k p j ≡ far.here j
    fresh_same f j c = set_at_other far.here k j p (λ e. let x : far.claimed k ≡ true = ap far.claimed (sym e) ∙ c in cc)

    -- the operand may evict a vreg from the register
    may_evict : (r : Register) → Clear (what_of ops) far.here far.claimed k (InRegister r) → (x : ℕ) → location_at old x ≡ Some (InRegister r) →
        (x ≡ o.vreg.number → ⊥) →
        (far.lived x ≡ true) × ((w : ℕ) → far.made_at (InRegister r) w ≡ false)
    may_evict r clear x at other = evictable (what_of ops) far (location_at old) (slots_at old) k (InRegister r) x s.located.placed
        clear new_one at (λ e. other (e ∙ sym nv)) (λ d. phase)

    -- the register was claimed before
    get_owed : (new : StateValue) (r : Register) → far.claimed k ≡ true → far.here k ≡ InRegister r → p ≡ InRegister r → ClaimsPlace (after i) o p t u old new
        → Got k p u new
    get_owed new r ck at pr (in_slot q e same en) = let x : InRegister r ≡ InSlot q = sym pr ∙ e in absurd cc
    get_owed new r ck at pr (in_register g m e clears holds) =
        let clear : Clear (what_of ops) far.here far.claimed k (InRegister g) = λ j cj ej. s.located.placed.apart j k cj ck (ej ∙ sym e ∙ pr ∙ sym at) in
        let c = ready_evicts_other_vregs tail ops far ends_block g o.vreg t m old new clears (may_evict g clear) s in
        record {
          there = far.here;
          claimed2 = far.claimed;
          ready = ready_grip m u (InRegister g) k o new (grips_register m u g o.positions holds) c.0.ready;
          at_k = at ∙ sym pr;
          at_j = λ j ne. refl;
          same = λ j cj. refl;
          grows = λ j cj. inr cj;
          keeps = λ j cj. cj;
          claims = ck;
          only_vreg = λ q eq x ex. (let same : InRegister g ≡ InRegister q = sym e ∙ eq in c.1 x (ex ∙ sym same) ∙ nv);
          own_slot = λ q eq. (let x : InRegister r ≡ InSlot q = sym pr ∙ eq in absurd cc);
        }

    -- a register is claimed now, after other vregs were evicted from it without a scratch register
    got_register : (r : Register) (new : StateValue) → far.claimed k ≡ false → p ≡ InRegister r → r.number < 64 → Clear (what_of ops) far.here far.claimed k
        (InRegister r)
        →
        (((what_of ops k).is_def ≡ true) ⊎ ((what_of ops k).is_late ≡ true) → far.clobbered (InRegister r) ≡ false) →
        ((c : RegClass) (b : Register) → IsScratch c t new b → r ≢ b) →
        Grips t u (InRegister r) o.positions → ((x : ℕ) → place_in new x ≡ InRegister r → x ≡ num) →
        Ready tail ops far ends_block t new → Got k p u new
    got_register r new f pr lt clear unclobbered away grips only_vreg rd =
        let puts : Puts far.here (set_at far.here k p) far.claimed (and_one far.claimed k) k
        (InRegister r) = subst (λ q. Puts far.here (set_at far.here k p) far.claimed (and_one far.claimed k) k q) pr (puts_one far.here far.claimed k p f) in
        let st : Located (what_of ops) (record far { here = set_at far.here k p; claimed = and_one far.claimed k }) new =
        claim_register (what_of ops) far (set_at far.here k p) (and_one far.claimed k) new k r puts clear only_vreg unclobbered rd.located in
        record {
          there = set_at far.here k p;
          claimed2 = and_one far.claimed k;
          ready = ready_claim tail ops far (set_at far.here k p) (and_one far.claimed k) ends_block puts counts covers grips
              (λ q e. let same : r ≡ q = cc in subst (λ (y : Register). y.number < 64) same lt) (λ c b is e. let same : r ≡ b = cc in away c b is same) st rd;
          at_k = puts.at_k ∙ sym pr;
          at_j = puts.at_j;
          same = fresh_same f;
          grows = puts.grows;
          keeps = puts.keeps;
          claims = puts.claims;
          only_vreg = λ q eq x ex. (let same : InRegister r ≡ InRegister q = sym pr ∙ eq in only_vreg x (ex ∙ sym same));
          own_slot = λ q eq. (let x : InRegister r ≡ InSlot q = sym pr ∙ eq in absurd cc);
        }

    -- a slot is claimed now
    got_slot : (q : ℕ) (new : StateValue) → far.claimed k ≡ false → p ≡ InSlot q → slot_in new num ≡ InSlot q → Grips t u (InSlot q) o.positions →
        Ready tail ops far ends_block t new → Got k p u new
    got_slot q new f pr at grips rd =
        let puts : Puts far.here (set_at far.here k p) far.claimed (and_one far.claimed k) k
        (InSlot q) = subst (λ g. Puts far.here (set_at far.here k p) far.claimed (and_one far.claimed k) k g) pr (puts_one far.here far.claimed k p f) in
        let st : Located (what_of ops) (record far { here = set_at far.here k p; claimed = and_one far.claimed k }) new =
        claim_slot (Counts ops) (what_of ops) far (set_at far.here k p) (and_one far.claimed k) new k q puts once rd.within
        counts at rd.located in
        record {
          there = set_at far.here k p;
          claimed2 = and_one far.claimed k;
          ready = ready_claim tail ops far (set_at far.here k p) (and_one far.claimed k) ends_block puts counts covers grips
              (λ g e. absurd cc) (λ c b is e. cc) st rd;
          at_k = puts.at_k ∙ sym pr;
          at_j = puts.at_j;
          same = fresh_same f;
          grows = puts.grows;
          keeps = puts.keeps;
          claims = puts.claims;
          only_vreg = λ g eq x ex. (let y : InSlot q ≡ InRegister g = sym pr ∙ eq in absurd cc);
          own_slot = λ g eq. at ∙ sym pr ∙ eq;
        }

    -- the vreg's own place is no clobber, for operands where that matters
    unclobbered_at : (q : Place) → location_at old num ≡ Some q → ((what_of ops k).is_def ≡ true) ⊎ ((what_of ops k).is_late ≡ true) → far.clobbered q ≡ false
    unclobbered_at q at h = ⊎_elim
        (λ (l : far.lived num ≡ true). s.located.placed.cleared num q l at)
        (λ (l : far.lived num ≡ false).
        let w = s.located.placed.newly num q l at in
        let cj = s.located.placed.claims w.0 w.1 in
        elim h [
          | inl d ↦ absurd (once.unread k w.0 counts (s.within w.0 cj) d w.2 (sym w.3))
          | inr e ↦ (ap far.clobbered (sym w.4) ∙ s.located.placed.kept w.0 cj (inr (phase e w.0 w.1 w.2)))
        ])
        (cases_Bool (far.lived num))

    clear_kept : (q : Place) → location_at old num ≡ Some q → Clear (what_of ops) far.here far.claimed k q
    clear_kept q at = ⊎_elim
        (λ (d : is_def (op_at ops k).kind ≡ true). clear_kept_def (Counts ops) (what_of ops) far (location_at old) (slots_at old) k
        q s.located.placed once s.within counts d at)
        (λ (d : is_def (op_at ops k).kind ≡ false). clear_kept_use (Counts ops) (what_of ops) far (location_at old) (slots_at old)
        k q s.located.placed once s.within counts d at phase)
        (cases_Bool (is_def (op_at ops k).kind))

    get_kept : (new : StateValue) → far.claimed k ≡ false → alloc_of old.places o.vreg.number ≡ p → ClaimsPlace (after i) o p t u old new → Got k p u new
    get_kept new f at (in_slot q e same en) =
        let here_is : place_in old num ≡ InSlot q = ap (place_in old) (sym nv) ∙ at ∙ e in
        subst (Got k p u) (sym en) (got_slot q old f e (s.located.whole.own_slot num q here_is) (grips_slot t u q o.positions same) s)
    get_kept new f at (in_register r m e clears holds) =
        let here_is : place_in old o.vreg.number ≡ InRegister r = at ∙ e in
        let num_is : place_in old num ≡ InRegister r = ap (place_in old) (sym nv) ∙ here_is in
        let x = evicts_other_vregs_own (after i) r o.vreg t m old new clears s.located.whole here_is in
        let grips : Grips t u (InRegister r) o.positions = subst (λ y. Grips y u (InRegister r) o.positions) x.0 (grips_register m u r o.positions holds) in
        subst (Got k p u) (sym x.1) (got_register r old f e (s.located.whole.stands_in num r num_is).0 (clear_kept (InRegister r) (ap opt num_is))
        (unclobbered_at (InRegister r) (ap opt num_is))
        (λ c b is same. (s.scratch_reserve.idle c b is).no_allocs num (num_is ∙ ap InRegister same)) grips
        (λ y ey. (whole_tidy old s.located.whole).apart y num r ey num_is) s)

    -- a register that is free at the operand's positions
    get_free : (new : StateValue) (r : Register) → far.claimed k ≡ false → MayHold old o.vreg.class r → IsAvailableAt t o.positions r → p ≡ InRegister r →
        ClaimsPlace (after i) o p t u old new → Got k p u new
    get_free new r f may fr pr (in_slot q e same en) = let x : InRegister r ≡ InSlot q = sym pr ∙ e in absurd cc
    get_free new r f may fr pr (in_register g m e clears holds) =
        let same_p : InRegister g ≡ InRegister r = sym e ∙ pr in
        let same : g ≡ r = cc in
        let flat : has_register old.fixed_stack g ≡ false = ap (has_register old.fixed_stack) same ∙ s.fit.stack_apart r may.allocatable in
        let eu : m ≡ t = evicts_other_vregs_flat (after i) g o.vreg t m old new flat clears in
        let free_at : FreeAt (held_early t) (held_late t) o.positions.early o.positions.late
        (InRegister r) = record { free_early = λ a. ap not (fr.early a); free_late = λ a. ap not (fr.late a) } in
        let clear : Clear (what_of ops) far.here far.claimed k (InRegister r) =
        clear_free (what_of ops) far.here far.claimed (held_early t) (held_late t) k (InRegister r) s.held
        (free_of (what_of ops k) (held_early t) (held_late t) o.positions.early o.positions.late (InRegister r) covers free_at) in
        let clear_g : Clear (what_of ops) far.here far.claimed k (InRegister g) = subst (λ y. Clear (what_of ops) far.here far.claimed k (InRegister y))
        (sym same) clear in
        let c = ready_evicts_other_vregs tail ops far ends_block g o.vreg t m old new clears (may_evict g clear_g) s in
        let rd : Ready tail ops far ends_block t
        new = subst (λ y. Ready tail ops far ends_block y new) eu c.0.ready in
        let grips : Grips t u (InRegister r) o.positions = subst (λ y. Grips t u (InRegister y) o.positions) same
        (subst (λ y. Grips y u (InRegister g) o.positions) eu (grips_register m u g o.positions holds)) in
        let k2 : SameMachine old new = c.0.kept.machine in
        got_register r new f pr may.small clear
        (λ h. ⊎_elim
        (λ (a : far.clobbered (InRegister r) ≡ true).
        let x : has_register t.late r ≡ false = s.clobbers r a in
        let y : has_register t.late r ≡ true = fr.late (elim h [ inl d ↦ covers.late_def d | inr l ↦ covers.late_use l ]) in absurd cc)
        (λ (a : far.clobbered (InRegister r) ≡ false). a)
        (cases_Bool (far.clobbered (InRegister r))))
        (λ c1 b is eb. elim is [
          | of_machine d ↦ (let x = (rd.fit.own_apart c1 b d).0 in let y : has_register new.allocatable b ≡ true = ap (λ l. has_register l b) k2.allocatable
              ∙ ap (has_register old.allocatable) (sym eb) ∙ may.allocatable in cc)
          | taken d ↦ ⊎_elim
              (λ (dk : is_def (op_at ops k).kind ≡ true). let x = s.scratch_reserve.late c1 b d in
              let y : has_register t.late b ≡ true = ap (has_register t.late) (sym eb) ∙ fr.late (covers.late_def dk) in cc)
              (λ (dk : is_def (op_at ops k).kind ≡ false). let x = s.scratch_reserve.early c1 b d in
              let y : has_register t.early b ≡ true = ap (has_register t.early) (sym eb) ∙ fr.early (covers.early_use dk) in cc)
              (cases_Bool (is_def (op_at ops k).kind))
        ]) grips
        (λ x ex. c.1 x (ex ∙ ap InRegister (sym same)) ∙ nv) rd

    -- the vreg's slot, which it had or which is made
    ready_given : (middle : StateValue) → GetsSpillSlot old.slots middle.slots o.vreg p → middle.places ≡ old.places → middle.edits ≡ old.edits →
        SameMachine old middle →
        Ready tail ops far ends_block t middle
    ready_given middle g e ed machine = record {
      located = give_stands old middle o.vreg p g s.located.whole e (what_of ops) far s.located;
      owes = record {
        later = subst (λ es. AllFrom (after i) (listed es)) (sym ed) s.owes.later;
        claims = subst (λ es. Claims Known (after_part insts (listed es) placesf i n) (Need far.lived far.out far.made_at (location_at middle)
            (slots_at middle)) E) (sym ed)
            (claims_weaken Known E (after_part insts (listed old.edits) placesf i n) (Need far.lived far.out far.made_at (location_at old) (slots_at old))
            (Need far.lived far.out far.made_at (location_at middle) (slots_at middle))
            (λ x q y. elim y [
              | located l ex ↦ located l (ap (λ (z : VRegAllocsValue). opt (alloc_of z x)) e ∙ ex)
              | needed f ex ↦ needed f (slots_grow old middle o.vreg p g s.located.whole x q ex)
              | made m ↦ made m
            ]) s.owes.claims);
      };
      nowhere_needed = λ a. subst (NoneNeeded tail) (sym ed) (s.nowhere_needed a);
      held = s.held;
      scratch_reserve = record {
        idle = λ c b is. (let y = s.scratch_reserve.idle c b (scratch_back c t old middle b machine is) in
            record { no_allocs = λ x ex. y.no_allocs x (ap (λ (z : VRegAllocsValue). alloc_of z x) (sym e) ∙ ex); clear = y.clear; unclaimed = y.unclaimed });
        own = λ c b d. ap (λ l. has_register l b) machine.allocatable ∙ s.scratch_reserve.own c b d;
        early = s.scratch_reserve.early;
        late = s.scratch_reserve.late;
      };
      fit = fit_same old middle machine s.fit;
      clobbers = s.clobbers;
      within = s.within;
      small = s.small;
    }

    get_slot : (middle new : StateValue) → far.claimed k ≡ false → GetsSpillSlot old.slots middle.slots o.vreg p → middle.places ≡ old.places →
        middle.edits ≡ old.edits → SameMachine old middle →
        ClaimsPlace (after i) o p t u middle new → Got k p u new
    get_slot middle new f g e ed machine (in_slot q at same en) =
        subst (Got k p u) (sym en) (got_slot q middle f at (ap (slot_in middle) (sym nv) ∙ g.gives ∙ at) (grips_slot t u q o.positions same)
        (ready_given middle g e ed machine))
    get_slot middle new f g e ed machine (in_register r m at clears holds) =
        let x = given old.slots middle.slots o.vreg p g s.located.whole.units s.located.whole.below s.located.whole.own in
        let y : InSlot x.0 ≡ InRegister r = sym x.1 ∙ at in absurd cc

    -- the four cases
    allocs_operand_by : (middle new : StateValue) → Due far.here far.claimed k o.requirement → SelectsPlace t o p old middle →
        ClaimsPlace (after i) o p t u middle new
        → Got k p u new
    allocs_operand_by middle new (owed r ck at w) (stays x su en) occ = get_owed new r ck at (meets_requirement_at old o.requirement p r w su)
        (subst (λ m. ClaimsPlace (after i) o p t u m new) en occ)
    allocs_operand_by middle new (owed r ck at w) (fixed g wg pg en) occ =
        let same : InPReg r ≡ InPReg g = sym w ∙ wg in let one : r ≡ g = cc in
        get_owed new r ck at (pg ∙ ap InRegister (sym one)) (subst (λ m. ClaimsPlace (after i) o p t u m new) en occ)
    allocs_operand_by middle new (owed r ck at w) (slot h g e ed machine order) occ = absurd (not_both o.requirement OnStack r w h (λ a. cc))
    allocs_operand_by middle new (owed r ck at w) (free g h away may fr first pg en) occ = absurd (not_both o.requirement AnyReg r w h (λ a. cc))
    allocs_operand_by middle new (fresh f other) (stays x su en) occ = get_kept new f x (subst (λ m. ClaimsPlace (after i) o p t u m new) en occ)
    allocs_operand_by middle new (fresh f other) (fixed g wg pg en) occ = absurd (other g wg)
    allocs_operand_by middle new (fresh f other) (slot h g e ed machine order) occ = get_slot middle new f g e ed machine occ
    allocs_operand_by middle new (fresh f other) (free g h away may fr first pg en) occ =
        get_free new g f may fr pg (subst (λ m. ClaimsPlace (after i) o p t u m new) en occ)

    -- the order in which registers were used doesn't matter
    got_used : (new : StateValue) (order : List (List Register)) → Got k p u new → Got k p u (record new { lrus = order })
    got_used new order x = record {
      there = x.there;
      claimed2 = x.claimed2;
      ready = ready_used tail ops (record far { here = x.there; claimed = x.claimed2 }) ends_block u new order x.ready;
      at_k = x.at_k;
      at_j = x.at_j;
      same = x.same;
      grows = x.grows;
      keeps = x.keeps;
      claims = x.claims;
      only_vreg = x.only_vreg;
      own_slot = x.own_slot;
    }

    -- an operand that gets a place claims it, and the record of the operands is kept
    pub allocs_operand_step : {new : StateValue} → Due far.here far.claimed k o.requirement → AllocsOperand (after i) o p t u old new → Got k p u new
    allocs_operand_step {new} due g = subst (Got k p u) (sym (uses_rest g.takes.uses))
        (got_used g.takes.claimed new.lrus (allocs_operand_by g.middle g.takes.claimed due g.picks g.takes.occupies))

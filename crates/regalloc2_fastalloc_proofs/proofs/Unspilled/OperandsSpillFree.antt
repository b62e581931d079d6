-- Operands of an instruction under `Reg`, one after another, as long as registers suffice for all vregs.
use Rattle.regalloc2_carry.proofs.Operands.{reads_use}
use Rattle.regalloc2_carry.proofs.Forms.{same_register}
use Rattle.std.proofs.Common.{ℕ, ◌≡◌, ◌≢◌, ◌+◌, ◌<◌, ◌≤◌, ◌⊎◌, inl, inr, Bool, true, false, List, length, refl, arith, sym, ap, ◌∙◌, subst, eqb-true, eq-eqb}
use Rattle.std.proofs.Common.{get_or-set_same}
use Rattle.std.specs.Prelude.{None, Contains, nat_eq, slice_index_or, slice_set, ◌&&◌, ◌||◌, not}
use Rattle.std.proofs.lemmas.Bool.{cases_Bool, cases_eq, or_right, and_right}
use Rattle.std.proofs.lemmas.List.{get_or-set_other, length-set}
use Rattle.regalloc2_names.specs.declared.RegClass.{RegClass}
use Rattle.regalloc2_names.specs.declared.OperandConstraint.TheVariants.{Reg, FixedReg, Reuse}
use Rattle.regalloc2_names.specs.declared.sets.PRegSet.{PRegSet}
use Rattle.regalloc2_names.specs.Register.{Register, VirtualRegister, class_code, has_register}
use Rattle.regalloc2_names.specs.Operand.{OperandValue, is_def, is_late, is_reading}
use Rattle.regalloc2_names.specs.Place.{Place, NoPlace, InRegister, is_place, after as after_point}
use Rattle.regalloc2_names.specs.Same.{is_place-same}
use Rattle.regalloc2_fastalloc_state.specs.declared.request.OperandRequest.{OperandRequest}
use Rattle.regalloc2_fastalloc_state.specs.declared.request.Requirement.TheVariants.{AnyReg}
use Rattle.regalloc2_fastalloc_state.specs.declared.inst_regs.InstRegs.{InstRegs}
use Rattle.regalloc2_fastalloc_state.specs.StateParts.{slot_name, alloc_of, SetsAlloc}
use Rattle.regalloc2_function.specs.FunctionValue.{op_at}
use Rattle.regalloc2_fastalloc_proofs.specs.InstSteps.{StateValue, FreesAlloc, AllocsDefOp, ProcessesOperand, AllocsUse, AddsMoveIf, SameMachine, LocatesUse}
use Rattle.regalloc2_fastalloc_proofs.specs.InstSteps.{a_register, a_use, a_def, a_reuse, requirement_of, def_request, is_another, sent, unsent, stays}
use Rattle.regalloc2_fastalloc_proofs.specs.InstSteps.{located, use_request, SameButOrder, order_of, ProcessesOperandsAt, none_placed, of_other, one_placed}
use Rattle.regalloc2_fastalloc_proofs.proofs.Unspilled.OperandTakesFreeReg.{Got, Taken, operand_got}
use Rattle.regalloc2_fastalloc_proofs.specs.Unspilled.SpillFree.{FitInRegs, ArePlaced, ArePlain, IsSpillFree, IsSpillFreeIn}
use Rattle.regalloc2_fastalloc_proofs.proofs.Evictions.PushedAndRemoved.{same_machine_trans}
use Rattle.regalloc2_fastalloc_proofs.proofs.Operands.FreeDef.{leave_whole}
use Rattle.regalloc2_fastalloc_proofs.proofs.Inst.AcrossInst.{arrive_register}
use Rattle.regalloc2_fastalloc_proofs.specs.Safety.{IsWhole}
use Rattle.regalloc2_fastalloc_proofs.proofs.Safety.StepsKeepState.{whole_used}

-- the vreg for which a register was taken is there from now on, or its definition was seen and it has no location
spill_free_class_after_set_alloc : (names : List VirtualRegister) (gone gone_now : ℕ → Bool) (n : ℕ) (r : Register) (class : RegClass) (ring : List Register) (t u : StateValue)
    (inst_regs : InstRegs) → Taken names gone n r class ring t inst_regs
    → ((m : ℕ) → m ≢ n → alloc_of u.places m ≡ alloc_of t.places m) → (alloc_of u.places n ≡ InRegister r)
    ⊎ ((alloc_of u.places n ≡ NoPlace) × (gone_now n ≡ true)) → ((m : ℕ) → gone m ≡ true → gone_now m ≡ true)
    → IsSpillFreeIn names gone_now class ring u inst_regs
spill_free_class_after_set_alloc names gone gone_now n r class ring t u inst_regs h others own grows = record {
  used = h.used;
  unused = h.unused;
  met = h.met;
  ring = h.ring;
  few = h.few;
  distinct = h.distinct;
  of_class = h.of_class;
  known = known;
  empty = empty;
  free = h.free;
}
  where
    known : (v : VirtualRegister) → Contains h.met v → (alloc_of u.places v.number ≢ NoPlace) ⊎ (gone_now v.number ≡ true)
    known v c = elim (cases_eq v.number n) [
      | inl e ↦ elim own [
        | inl at ↦ inl (λ none. (let wrong : InRegister r ≡ NoPlace = sym at ∙ ap (alloc_of u.places) (sym e) ∙ none in cc))
        | inr at ↦ inr (ap gone_now e ∙ at.1)
      ]
      | inr ne ↦ elim (h.known v c) [
        | inl a ↦ inl (λ none. a (sym (others v.number ne) ∙ none))
        | inr b ↦ elim b [ inl g ↦ inr (grows v.number g) | inr e ↦ absurd (ne e) ]
      ]
    ]

    empty : (m : ℕ) (q : Register) → alloc_of u.places m ≡ InRegister q → Contains h.unused q → ⊥
    empty m q at c = elim (cases_eq m n) [
      | inl e ↦ elim own [
        | inl there ↦ h.apart (subst (Contains h.unused) (same_register q r (sym at ∙ ap (alloc_of u.places) e ∙ there)) c)
        | inr nowhere ↦ (let wrong : InRegister q ≡ NoPlace = sym at ∙ ap (alloc_of u.places) e ∙ nowhere.0 in cc)
      ]
      | inr ne ↦ h.empty m q (sym (others m ne) ∙ at) c
    ]

-- the state once a step has set the vreg's location; left: the state once the register was taken
spill_free_after_location : (names : List VirtualRegister) (gone gone_now : ℕ → Bool) (o : OperandRequest) (p : Place) (inst_regs after_turn : InstRegs)
    (old left new : StateValue)
    → IsSpillFree names gone old inst_regs → Contains names o.vreg → (got : Got names gone o p after_turn old left) → IsWhole new →
    ((m : ℕ) → m ≢ o.vreg.number → alloc_of new.places m ≡ alloc_of old.places m)
    → (alloc_of new.places o.vreg.number ≡ p) ⊎ ((alloc_of new.places o.vreg.number ≡ NoPlace) × (gone_now o.vreg.number ≡ true)) →
    ((m : ℕ) → gone m ≡ true → gone_now m ≡ true)
    → ((m : ℕ) → gone_now m ≡ true → alloc_of new.places m ≡ NoPlace) → new.edits ≡ old.edits → new.slots ≡ old.slots → SameMachine old new →
    new.lrus ≡ left.lrus → IsSpillFree names gone_now new after_turn
spill_free_after_location names gone gone_now o p inst_regs after_turn old left new h named got whole others own grows nowhere edits slots machine order = record {
  no_moves = edits ∙ h.no_moves;
  no_slots = λ m. ap (λ s. slot_name s m) slots ∙ h.no_slots m;
  no_units = ap (λ s. s.count) slots ∙ h.no_units;
  whole = whole;
  apart = record {
    allocatable = λ r has. ap (λ (s : PRegSet). has_register s r) machine.fixed_stack
        ∙ h.apart.allocatable r (ap (λ (s : PRegSet). has_register s r) (sym machine.allocatable) ∙ has);
    dedicated_scratch =
        λ c r has. ap (λ (s : PRegSet). has_register s r) machine.fixed_stack
        ∙ h.apart.dedicated_scratch c r (ap (λ xs. slice_index_or xs (class_code c) None) (sym machine.dedicated_scratch) ∙ has);
  };
  lrus = λ class. rw (machine.allocatable, order) (got.lrus class);
  stand = stand;
  named = named_there;
  nowhere = nowhere;
  each = λ class. spill_free_class_after_set_alloc names gone gone_now o.vreg.number got.register class (order_of new class) old new after_turn
      (rw order (got.each class)) others own_register grows;
}
  where
    own_register : (alloc_of new.places o.vreg.number ≡ InRegister got.register)
        ⊎ ((alloc_of new.places o.vreg.number ≡ NoPlace) × (gone_now o.vreg.number ≡ true))
    own_register = elim own [ inl a ↦ inl (a ∙ got.is) | inr b ↦ inr b ]

    stand : (m : ℕ) → alloc_of new.places m ≢ NoPlace → (r : Register) × (alloc_of new.places m ≡ InRegister r) × (has_register new.allocatable r ≡ true)
    stand m there = elim (cases_eq m o.vreg.number) [
      | inl e ↦ elim own_register [
        | inl at ↦ (got.register, ap (alloc_of new.places) e ∙ at, ap (λ (s : PRegSet). has_register s got.register) machine.allocatable ∙ got.allocatable)
        | inr at ↦ absurd (there (ap (alloc_of new.places) e ∙ at.0))
      ]
      | inr ne ↦ (let s = h.stand m (λ none. there (others m ne ∙ none)) in
          (s.0, others m ne ∙ s.1, ap (λ (x : PRegSet). has_register x s.0) machine.allocatable ∙ s.2))
    ]

    named_there : (m : ℕ) → alloc_of new.places m ≢ NoPlace → (v : VirtualRegister) × Contains names v × (v.number ≡ m)
    named_there m there = elim (cases_eq m o.vreg.number) [
      | inl e ↦ (o.vreg, named, sym e)
      | inr ne ↦ h.named m (λ none. there (others m ne ∙ none))
    ]

-- what an operand under `Reg` does
pub record PlacedInReg (names : List VirtualRegister) (gone_now : ℕ → Bool) (n : ℕ) (p : Place) (is_def : Bool) (u : InstRegs) (old new : StateValue) : Type 0 where
  pub spill_free : IsSpillFree names gone_now new u
  pub machine : new.allocatable ≡ old.allocatable
  pub there : p ≢ NoPlace
  pub others : (m : ℕ) → m ≢ n → alloc_of new.places m ≡ alloc_of old.places m
  pub stays : is_def ≡ false → alloc_of old.places n ≢ NoPlace → alloc_of new.places n ≡ alloc_of old.places n
  pub own : is_def ≡ false → alloc_of new.places n ≡ p

no_machine : (t u : StateValue) → SameButOrder t u → SameMachine t u
no_machine t u e = subst (SameMachine t) (sym e)
    (record { allocatable = refl; fixed_stack = refl; dedicated_scratch = refl; sizes = refl; vregs = refl; num_temp_slots = refl })

-- a use
use_placed : (names : List VirtualRegister) (gone : ℕ → Bool) (point : ℕ) (o : OperandRequest) (p : Place) (t u : InstRegs) (old new : StateValue) →
    o.requirement ≡ AnyReg → IsSpillFree names gone old t → FitInRegs names old.allocatable → Contains names o.vreg → gone o.vreg.number ≡ false →
    AllocsUse point o p t u old new → PlacedInReg names gone o.vreg.number p false u old new
use_placed names gone point o p t u old new any h few named there places = by places.uses
  where
    taken : StateValue
    taken = places.middle

    got : Got names gone o p u old taken
    got = operand_got any h few named there places.gets

    is_there : p ≢ NoPlace
    is_there e = (let wrong : InRegister got.register ≡ NoPlace = sym got.is ∙ e in cc)

    whole_there : IsWhole taken
    whole_there = subst IsWhole (sym got.same) (whole_used old taken.lrus h.whole)

    still_nowhere : (m : ℕ) → gone m ≡ true → ((a : ℕ) → a ≢ o.vreg.number → alloc_of new.places a ≡ alloc_of old.places a) → alloc_of new.places m ≡ NoPlace
    still_nowhere m g others = elim (cases_eq m o.vreg.number) [
      | inl e ↦ absurd (let wrong : true ≡ false = sym g ∙ ap gone e ∙ there in cc)
      | inr ne ↦ others m ne ∙ h.nowhere m g
    ]

    same_at : (m : ℕ) → alloc_of taken.places m ≡ alloc_of old.places m
    same_at m = ap (λ (x : StateValue). alloc_of x.places m) got.same

    by : LocatesUse o.vreg p taken new → PlacedInReg names gone o.vreg.number p false u old new
    by (stays stood_somewhere same) =
        let at : alloc_of old.places o.vreg.number ≡ p = elim got.stood_there [ inl a ↦ a | inr b ↦ absurd (stood_somewhere (same_at o.vreg.number ∙ b)) ] in
        rw same (record {
          spill_free = spill_free_after_location names gone gone o p t u old taken taken h named got whole_there (λ m ne. same_at m) (inl (same_at o.vreg.number ∙ at)) (λ m g. g)
              (λ m g. same_at m ∙ h.nowhere m g) (ap (λ (x : StateValue). x.edits) got.same) (ap (λ (x : StateValue). x.slots) got.same)
              (no_machine old taken got.same) refl;
          machine = ap (λ (x : StateValue). x.allocatable) got.same;
          there = is_there;
          others = λ m ne. same_at m;
          stays = λ e ne. same_at o.vreg.number;
          own = λ e. same_at o.vreg.number ∙ at;
        })
    by (located nowhere sets_alloc slots edits machine order) =
        let there_none : alloc_of old.places o.vreg.number ≡ NoPlace = sym (same_at o.vreg.number) ∙ nowhere in
        let others : (m : ℕ) → m ≢ o.vreg.number → alloc_of new.places m ≡ alloc_of old.places m = λ m ne. sets_alloc.others m ne ∙ same_at m in
        let whole : IsWhole new = arrive_register taken new o.vreg nowhere slots whole_there got.register got.small
        (λ x e. (let own : x ≡ o.vreg.number = got.only_vreg x (sym (same_at x) ∙ e) in
        let wrong : NoPlace ≡ InRegister got.register = sym nowhere ∙ ap (alloc_of taken.places) (sym own) ∙ e in cc))
        (subst (SetsAlloc taken.places new.places o.vreg) got.is sets_alloc) in
        record {
          spill_free = spill_free_after_location names gone gone o p t u old taken new h named got whole others (inl sets_alloc.here) (λ m g. g)
              (λ m g. still_nowhere m g others) (edits ∙ ap (λ (x : StateValue). x.edits) got.same) (slots ∙ ap (λ (x : StateValue). x.slots) got.same)
              (same_machine_trans old taken new (no_machine old taken got.same) machine) order;
          machine = machine.allocatable ∙ ap (λ (x : StateValue). x.allocatable) got.same;
          there = is_there;
          others = others;
          stays = λ e ne. absurd (ne there_none);
          own = λ e. sets_alloc.here;
        }

-- nothing is sent
pub unsent_same : (point : ℕ) (class : RegClass) (b : Bool) (p q : Place) (t u : InstRegs) (old new : StateValue) → b ≡ false →
    AddsMoveIf point class b p q t u old new → (u ≡ t) × (new ≡ old)
unsent_same point class b p q t u old new off (sent made crosses) = absurd (let x : true ≡ false = sym made ∙ off in cc)
unsent_same point class b p q t u old new off (unsent is inst_regs same) = (inst_regs, same)

no_other : (a : Bool) (q p : Place) → (q ≡ p) ⊎ (q ≡ NoPlace) → (a && is_another q p) ≡ false
no_other a q p (inl e) = rw (e, is_place-same p) (and_right a (not (is_place p NoPlace) && false) (and_right (not (is_place p NoPlace)) false refl))
no_other a q p (inr e) = rw e (and_right a false refl)

nor_stored : (a b : Bool) (s p : Place) → s ≡ NoPlace → (a && (is_another s p && b)) ≡ false
nor_stored a b s p e = rw e (and_right a false refl)

-- a definition
unfoldable pub and_defined : ℕ → (ℕ → Bool) → ℕ → Bool
and_defined n gone m = nat_eq n m || gone m

and_defined_same : (n : ℕ) (gone : ℕ → Bool) → and_defined n gone n ≡ true
unfolding and_defined
and_defined_same n gone = rw (eq-eqb n n refl) refl

and_defined_keeps : (n : ℕ) (gone : ℕ → Bool) (m : ℕ) → gone m ≡ true → and_defined n gone m ≡ true
unfolding and_defined
and_defined_keeps n gone m e = or_right (nat_eq n m) (gone m) e

and_defined_inverse : (n : ℕ) (gone : ℕ → Bool) (m : ℕ) → and_defined n gone m ≡ true → (gone m ≡ true) ⊎ (n ≡ m)
unfolding and_defined
and_defined_inverse n gone m e = by (nat_eq n m) refl e
  where
    by : (b : Bool) → nat_eq n m ≡ b → (b || gone m) ≡ true → (gone m ≡ true) ⊎ (n ≡ m)
    by true e h = inr (eqb-true n m e)
    by false e h = inl h

def_placed : (names : List VirtualRegister) (gone : ℕ → Bool) (point : ℕ) (o : OperandRequest) (ends_block : Bool) (p : Place) (t u : InstRegs)
    (old new : StateValue) → o.requirement ≡ AnyReg → IsSpillFree names gone old t → FitInRegs names old.allocatable → Contains names o.vreg →
    gone o.vreg.number ≡ false → AllocsDefOp point o ends_block p t u old new → PlacedInReg names (and_defined o.vreg.number gone) o.vreg.number p true u old new
def_placed names gone point o ends_block p t u old new any h few named there places =
    let first = unsent_same point o.vreg.class (not ends_block && is_another (alloc_of taken.places o.vreg.number) p) p (alloc_of taken.places o.vreg.number)
    places.inst_regs d.inst_regs d.left d.middle (no_other (not ends_block) (alloc_of taken.places o.vreg.number) p stood_there) d.expected in
    let second = unsent_same point o.vreg.class
    (not ends_block && (is_another (slot_name taken.slots o.vreg.number) p
    && not (is_place (slot_name taken.slots o.vreg.number) (alloc_of taken.places o.vreg.number)))) p (slot_name taken.slots o.vreg.number) d.inst_regs u
    d.middle new
    (nor_stored (not ends_block) (not (is_place (slot_name taken.slots o.vreg.number) (alloc_of taken.places o.vreg.number)))
    (slot_name taken.slots o.vreg.number) p (ap (λ (x : StateValue). slot_name x.slots o.vreg.number) got.same ∙ h.no_slots o.vreg.number)) d.stored in
    let inst_regs : u ≡ places.inst_regs = second.0 ∙ first.0 in
    let same : new ≡ d.left = second.1 ∙ first.1 in
    subst (λ (x : StateValue). PlacedInReg names (and_defined o.vreg.number gone) o.vreg.number p true u old x) (sym same)
    (subst (λ (x : InstRegs). PlacedInReg names (and_defined o.vreg.number gone) o.vreg.number p true x old d.left) (sym inst_regs) (record {
      spill_free = spill_free_after_location names gone (and_defined o.vreg.number gone) o p t places.inst_regs old taken d.left h named got
          (leave_whole taken d.left o.vreg d.sets_alloc d.slots (subst IsWhole (sym got.same) (whole_used old taken.lrus h.whole))) others
          (inr (d.sets_alloc.here, and_defined_same o.vreg.number gone)) (and_defined_keeps o.vreg.number gone) still_nowhere
          (d.edits ∙ ap (λ (x : StateValue). x.edits) got.same) (d.slots ∙ ap (λ (x : StateValue). x.slots) got.same)
          (same_machine_trans old taken d.left (no_machine old taken got.same) d.machine) d.lrus;
      machine = d.machine.allocatable ∙ ap (λ (x : StateValue). x.allocatable) got.same;
      there = λ e. (let wrong : InRegister got.register ≡ NoPlace = sym got.is ∙ e in cc);
      others = others;
      stays = λ e. absurd cc;
      own = λ e. absurd cc;
    }))
  where
    taken : StateValue
    taken = places.middle

    d : FreesAlloc point o.vreg ends_block p places.inst_regs u taken new
    d = places.defines

    got : Got names gone o p places.inst_regs old taken
    got = operand_got any h few named there places.gets

    same_at : (m : ℕ) → alloc_of taken.places m ≡ alloc_of old.places m
    same_at m = ap (λ (x : StateValue). alloc_of x.places m) got.same

    stood_there : (alloc_of taken.places o.vreg.number ≡ p) ⊎ (alloc_of taken.places o.vreg.number ≡ NoPlace)
    stood_there = elim got.stood_there [ inl a ↦ inl (same_at o.vreg.number ∙ a) | inr b ↦ inr (same_at o.vreg.number ∙ b) ]

    others : (m : ℕ) → m ≢ o.vreg.number → alloc_of d.left.places m ≡ alloc_of old.places m
    others m ne = d.sets_alloc.others m ne ∙ same_at m

    still_nowhere : (m : ℕ) → and_defined o.vreg.number gone m ≡ true → alloc_of d.left.places m ≡ NoPlace
    still_nowhere m g = elim (cases_eq m o.vreg.number) [
      | inl e ↦ ap (alloc_of d.left.places) e ∙ d.sets_alloc.here
      | inr ne ↦ others m ne ∙ elim (and_defined_inverse o.vreg.number gone m g) [ inl x ↦ h.nowhere m x | inr x ↦ absurd (ne (sym x)) ]
    ]

-- the operand k is placed, after the operands before it
more_placed : (names : List VirtualRegister) (gone : ℕ → Bool) (operands : List OperandValue) (k : ℕ) (late d : Bool) (here there next : List Place) (p : Place)
    (old m n : StateValue) (u w : InstRegs) → ArePlain names gone operands late
    → k < length operands → length here ≡ length operands → is_late (op_at operands k).position ≡ late → is_def (op_at operands k).kind ≡ d →
    (h : ArePlaced names gone operands late k here there old m u) → next ≡ slice_set there k p
    → (gone_now : ℕ → Bool) → ((a : ℕ) → gone_now a ≡ true → (h.gone_now a ≡ true) ⊎ ((d ≡ true) × ((op_at operands k).vreg.number ≡ a))) →
    ((a : ℕ) → h.gone_now a ≡ true → gone_now a ≡ true) → (d ≡ true → gone_now (op_at operands k).vreg.number ≡ true)
    → PlacedInReg names gone_now (op_at operands k).vreg.number p d w m n → ArePlaced names gone operands late (k + 1) here next old n w
more_placed names gone operands k late d here there next p old m n u w plain lt here_long at kind h set_to gone_now from_gone to_gone def_gone
    placed = record {
      gone_now = gone_now;
      spill_free = placed.spill_free;
      machine = placed.machine ∙ h.machine;
      only = λ a e. elim (from_gone a e) [
        | inl g ↦ elim (h.only a g) [ inl x ↦ inl x | inr x ↦ inr (x.0, omega (arith, x.1), x.2, x.3, x.4) ]
        | inr g ↦ inr (k, omega arith, at, kind ∙ g.0, g.1)
      ];
      stays = λ a e. to_gone a (h.stays a e);
      goes = λ a x. elim (cases_eq x.0 k) [
        | inl e ↦ subst (λ (y : ℕ). gone_now y ≡ true) (ap (λ (j : ℕ). (op_at operands j).vreg.number) (sym e) ∙ x.4)
            (def_gone (sym kind ∙ ap (λ (j : ℕ). is_def (op_at operands j).kind) (sym e) ∙ x.3))
        | inr ne ↦ to_gone a (h.goes a (x.0, omega (arith, x.1, ne), x.2, x.3, x.4))
      ];
      long = long ∙ h.long;
      others = λ j past. (let ne : j ≢ k = λ e. (let more = past (ap (λ (x : ℕ). is_late (op_at operands x).position) e ∙ at) in omega (arith, more, e)) in
          slot_other j ne ∙ h.others j (λ e. (let more = past e in omega (arith, more))));
      stand = λ a there_before not_defined. (let same : alloc_of m.places a ≡ alloc_of old.places a = h.stand a there_before
          (λ x. not_defined (x.0, omega (arith, x.1), x.2, x.3, x.4)) in
          elim (cases_eq a (op_at operands k).vreg.number) [
            | inl e ↦ elim (cases_Bool d) [
              | inl defines ↦ absurd (not_defined (k, omega arith, at, kind ∙ defines, sym e))
              | inr use_it ↦ subst (λ (y : ℕ). alloc_of m.places y ≡ alloc_of old.places y → alloc_of m.places y ≢ NoPlace →
                  alloc_of n.places y ≡ alloc_of old.places y) (sym e) (λ s x. placed.stays use_it x ∙ s) same (λ x. there_before (sym same ∙ x))
            ]
            | inr ne ↦ placed.others a ne ∙ same
          ]);
      uses = λ j less position reading. elim (cases_eq j k) [
        | inl e ↦ subst (λ (y : ℕ). is_reading (op_at operands y) ≡ true → (slice_index_or next y NoPlace ≢ NoPlace)
            × (alloc_of n.places (op_at operands y).vreg.number ≡ slice_index_or next y NoPlace)) (sym e)
            (λ r. (λ none. placed.there (sym slot_here ∙ none), placed.own (sym kind ∙ reads_use (op_at operands k) r) ∙ sym slot_here)) reading
        | inr ne ↦ (let was = h.uses j (omega (arith, less, ne)) position reading in let same = slot_other j ne in
            (λ none. was.0 (sym same ∙ none), still j (omega (arith, less, ne, lt)) ne reading (λ none. was.0 (sym was.1 ∙ none)) ∙ was.1 ∙ sym same))
      ];
    }
  where
    there_long : k < length there
    there_long = omega (arith, h.long, here_long, lt)

    long : length next ≡ length there
    long = ap length set_to ∙ length-set there k p

    slot_here : slice_index_or next k NoPlace ≡ p
    slot_here = ap (λ (l : List Place). slice_index_or l k NoPlace) set_to ∙ get_or-set_same there k p NoPlace there_long

    slot_other : (j : ℕ) → j ≢ k → slice_index_or next j NoPlace ≡ slice_index_or there j NoPlace
    slot_other j ne = ap (λ (l : List Place). slice_index_or l j NoPlace) set_to ∙ get_or-set_other there k j p NoPlace ne

    -- an earlier use keeps its location
    still : (j : ℕ) → j < length operands → j ≢ k → is_reading (op_at operands j) ≡ true → alloc_of m.places (op_at operands j).vreg.number ≢ NoPlace →
        alloc_of n.places (op_at operands j).vreg.number ≡ alloc_of m.places (op_at operands j).vreg.number
    still j inside ne reading somewhere = elim (cases_eq (op_at operands j).vreg.number (op_at operands k).vreg.number) [
      | inl e ↦ elim (cases_Bool d) [
        | inl defines ↦ absurd (ne (sym (plain.apart k j lt inside (kind ∙ defines) (sym e))))
        | inr use_it ↦ subst (λ (y : ℕ). alloc_of m.places y ≢ NoPlace → alloc_of n.places y ≡ alloc_of m.places y) (sym e) (placed.stays use_it) somewhere
      ]
      | inr other ↦ placed.others (op_at operands j).vreg.number other
    ]

-- processing an operand, whose place is a register that was taken
pub processes_operand_placed_more : {names : List VirtualRegister} {gone : ℕ → Bool} {i : ℕ} {ends_block : Bool} {operands : List OperandValue} {k : ℕ}
    {late : Bool}
    {here there next : List Place} {old m n : StateValue} {u w : InstRegs} → FitInRegs names old.allocatable → ArePlain names gone operands late →
    k < length operands → length here ≡ length operands →
    ((j : ℕ) → is_late (op_at operands j).position ≡ late → slice_index_or here j NoPlace ≡ NoPlace) → is_late (op_at operands k).position ≡ late →
    ArePlaced names gone operands late k here there old m u → ProcessesOperand i ends_block operands k there next u w m n →
    ArePlaced names gone operands late (k + 1) here next old n w
processes_operand_placed_more {names} {gone} {i} {ends_block} {operands} {k} {late} {here} {there} {next} {old} {m} {n} {u} {w} few plain lt here_long blank at h
    one = by one
  where
    reg : (op_at operands k).constraint ≡ Reg
    reg = plain.under_reg k lt

    no_place : slice_index_or there k NoPlace ≡ NoPlace
    no_place = h.others k (λ e. omega arith) ∙ blank k at

    few_now : FitInRegs names m.allocatable
    few_now = subst (FitInRegs names) (sym h.machine) few

    there_now : h.gone_now (op_at operands k).vreg.number ≡ false
    there_now = elim (cases_Bool (h.gone_now (op_at operands k).vreg.number)) [
      | inl e ↦ elim (h.only (op_at operands k).vreg.number e) [
        | inl g ↦ absurd (let wrong : true ≡ false = sym g ∙ plain.there k lt at in cc)
        | inr x ↦ (let same : x.0 ≡ k = plain.apart x.0 k (omega (arith, x.1, lt)) lt x.3 x.4 in absurd (omega (arith, same, x.1)))
      ]
      | inr e ↦ e
    ]

    by : ProcessesOperand i ends_block operands k there next u w m n → ArePlaced names gone operands late (k + 1) here next old n w
    by (a_register r fixed is set_to inst_regs same) = absurd (let wrong : FixedReg r ≡ Reg = sym is ∙ reg in cc)
    by (a_use p reading places set_to) =
        let o : OperandRequest = use_request (op_at operands k) NoPlace in
        let done : AllocsUse (after_point i) o p u w m n = subst (λ (q : Place). AllocsUse (after_point i) (use_request (op_at operands k) q) p u w m n)
        no_place places in
        more_placed names gone operands k late false here there next p old m n u w plain lt here_long at (reads_use (op_at operands k) reading) h
        set_to h.gone_now (λ a g. inl g) (λ a g. g) (λ e. absurd cc)
        (use_placed names h.gone_now (after_point i) o p u w m n (ap requirement_of reg) h.spill_free few_now (plain.named k lt) there_now done)
    by (a_def p defines not_reuse places set_to) =
        more_placed names gone operands k late true here there next p old m n u w plain lt here_long at defines h set_to
        (and_defined (op_at operands k).vreg.number h.gone_now)
        (λ a g. elim (and_defined_inverse (op_at operands k).vreg.number h.gone_now a g) [ inl x ↦ inl x | inr x ↦ inr (refl, x) ])
        (and_defined_keeps (op_at operands k).vreg.number h.gone_now) (λ e. and_defined_same (op_at operands k).vreg.number h.gone_now)
        (def_placed names h.gone_now (after_point i) (def_request (op_at operands k)) ends_block p u w m n (ap requirement_of reg) h.spill_free few_now
        (plain.named k lt) there_now places)
    by (a_reuse a p defines is places set_to) = absurd (let wrong : Reuse a ≡ Reg = sym is ∙ reg in cc)

-- an operand of the other position is skipped
pub other_left : (names : List VirtualRegister) (gone : ℕ → Bool) (operands : List OperandValue) (k : ℕ) (late : Bool) (here there : List Place)
    (old m : StateValue) (u : InstRegs) → (is_late (op_at operands k).position ≡ late → ⊥) → ArePlaced names gone operands late k here there old m u →
    ArePlaced names gone operands late (k + 1) here there old m u
other_left names gone operands k late here there old m u not_at h = record {
  gone_now = h.gone_now;
  spill_free = h.spill_free;
  machine = h.machine;
  only = λ a e. elim (h.only a e) [ inl x ↦ inl x | inr x ↦ inr (x.0, omega (arith, x.1), x.2, x.3, x.4) ];
  stays = h.stays;
  goes = λ a x. h.goes a (x.0, before_it x.0 x.1 x.2, x.2, x.3, x.4);
  long = h.long;
  others = λ j past. h.others j (λ e. (let more = past e in omega (arith, more)));
  stand = λ a there_before not_defined. h.stand a there_before (λ x. not_defined (x.0, omega (arith, x.1), x.2, x.3, x.4));
  uses = λ j less position reading. h.uses j (before_it j less position) position reading;
}
  where
    before_it : (j : ℕ) → j < k + 1 → is_late (op_at operands j).position ≡ late → j < k
    before_it j less position = elim (cases_eq j k) [
      | inl e ↦ absurd (not_at (subst (λ (y : ℕ). is_late (op_at operands y).position ≡ late) e position))
      | inr ne ↦ omega (arith, less, ne)
    ]

-- no operand is placed yet
pub none_placed_yet : (names : List VirtualRegister) (gone : ℕ → Bool) (operands : List OperandValue) (late : Bool) (here : List Place) (old : StateValue)
    (u : InstRegs) → IsSpillFree names gone old u → ArePlaced names gone operands late 0 here here old old u
none_placed_yet names gone operands late here old u h = record {
  gone_now = gone;
  spill_free = h;
  machine = refl;
  only = λ a e. inl e;
  stays = λ a e. e;
  goes = λ a x. absurd (omega (arith, x.1));
  long = refl;
  others = λ j past. refl;
  stand = λ a ne not_defined. refl;
  uses = λ j less. absurd (omega (arith, less));
}

-- the first operands of a position are placed
pub operands_placed : {names : List VirtualRegister} {gone : ℕ → Bool} {i : ℕ} {ends_block late : Bool} {operands : List OperandValue} {here : List Place}
    {t : InstRegs} {old : StateValue} {k : ℕ} {there : List Place} {u : InstRegs} {m : StateValue} → FitInRegs names old.allocatable →
    ArePlain names gone operands late → length here ≡ length operands →
    ((j : ℕ) → is_late (op_at operands j).position ≡ late → slice_index_or here j NoPlace ≡ NoPlace) → IsSpillFree names gone old t → k ≤ length operands →
    ProcessesOperandsAt i ends_block late operands here t old k there u m → ArePlaced names gone operands late k here there old m u
operands_placed {names} {gone} {late} {operands} {here} {t} {old} few plain long blank h le none_placed =
    none_placed_yet names gone operands late here old t h
operands_placed {names} {gone} {late} {operands} {here} {old} few plain long blank h le (of_other k there u m before other) =
    other_left names gone operands k late here there old m u other (operands_placed few plain long blank h (omega (arith, le)) before)
operands_placed few plain long blank h le (one_placed k there next u w m n before at one) =
    processes_operand_placed_more few plain (omega (arith, le)) long blank at (operands_placed few plain long blank h (omega (arith, le)) before) one

-- An operand that is allocated leaves enough registers for the waiting operands, and finds one if it waits itself.
use Rattle.regalloc2_carry.proofs.Operands.{reads_use}
use Rattle.std.proofs.Common.{ℕ, ◌≡◌, ◌≢◌, ◌+◌, ◌<◌, true, false, List, length, refl, sym, ap, ◌∙◌, subst, inl, inr, ◌⊎◌, arith, get_or-set_same, set}
use Rattle.std.proofs.lemmas.List.{get_or-set_other}
use Rattle.std.proofs.Math.ListN.{length-set}
use Rattle.std.proofs.lemmas.Bool.{both_ways}
use Rattle.regalloc2_names.specs.declared.RegClass.{RegClass}
use Rattle.regalloc2_names.specs.declared.OperandConstraint.{OperandConstraint}
use Rattle.regalloc2_names.specs.declared.OperandConstraint.TheVariants.{Any, Reg, Stack, FixedReg, Reuse, Limit}
use Rattle.regalloc2_names.specs.Register.{Register, VirtualRegister, class_code}
use Rattle.regalloc2_names.specs.Operand.{OperandValue, is_def, is_late, is_reading, is_fixed_nonallocatable}
use Rattle.regalloc2_names.specs.Place.{Place, NoPlace, InRegister, InSlot}
use Rattle.regalloc2_semantics.specs.Fits.{is_under_reg}
use Rattle.regalloc2_function.specs.Machine.{MachineValue, IsPlainRegister}
use Rattle.regalloc2_function.specs.OutputValue.{place_at}
use Rattle.regalloc2_fastalloc_state.specs.declared.inst_regs.InstRegs.{InstRegs}
use Rattle.regalloc2_fastalloc_state.specs.declared.request.Requirement.{Requirement}
use Rattle.regalloc2_fastalloc_state.specs.declared.request.Requirement.TheVariants.{AnyReg, InPReg}
use Rattle.regalloc2_function.specs.FunctionValue.{op_at}
use Rattle.regalloc2_fastalloc_proofs.specs.InstSteps.{StateValue, requirement_of, reuse_requirement_of, use_request}
use Rattle.regalloc2_fastalloc_proofs.specs.Safety.{IsOfMachine, MayBeLocatedAt}
use Rattle.regalloc2_fastalloc_proofs.proofs.Safety.OperandKeepsSafe.{AnswersRequirement}
use Rattle.regalloc2_fastalloc_proofs.proofs.Operands.AllocsSoFar.{AreSoundOperands, Filled, FixedAreKnown, reads_allocated, requires_fixed_reg}
use Rattle.regalloc2_fastalloc_proofs.proofs.Operands.AllocsSoFar.{reuse_requires_fixed_reg, fixed_class}
use Rattle.regalloc2_fastalloc_proofs.proofs.Safety.OperandPassesKeepSafe.{a_place_of}
use Rattle.regalloc2_fastalloc_proofs.specs.Pressure.EnoughRegs.{waits, waiting, AllWrite, AllMay}
use Rattle.regalloc2_fastalloc_proofs.proofs.Pressure.WaitingOperands.{waits_no_more, waits_as_before, waits_not, other_class_does_not_wait, waits_placed, waits_here, some_wait}
use Rattle.regalloc2_fastalloc_proofs.proofs.Pressure.FreeRegsCoverWaiting.{Paying, Pays, waited, anywhere, memory, at_one}

-- a register that isn't a fixed stack slot
plain_at : (env : MachineValue) (p : Place) → IsPlainRegister env p → (r : Register) × (p ≡ InRegister r)
plain_at env NoPlace h = absurd h
plain_at env (InRegister r) h = (r, refl)
plain_at env (InSlot n) h = absurd h

-- the constraint of an operand that requires any register, and is no reuse
requires_any_reg : (c : OperandConstraint) → ((n : ℕ) → c ≡ Reuse n → ⊥) → ((n : ℕ) → c ≡ Limit n → ⊥) → requirement_of c ≡ AnyReg → is_under_reg c ≡ true
requires_any_reg Reg r l e = refl
requires_any_reg (Reuse n) r l e = absurd (r n refl)
requires_any_reg (Limit n) r l e = absurd (l n refl)
requires_any_reg c r l e = absurd cc

-- the constraint determines whether an operand waits
not_under : (c d : OperandConstraint) → c ≡ d → is_under_reg d ≡ false → is_under_reg c ≡ false
not_under c d e h = ap is_under_reg e ∙ h

-- The operand k is next: the operands that satisfy D have places, paid for by the registers that are left in the named
-- classes.
pub record CountedOperand (env : MachineValue) (Known : VirtualRegister → Type 0) (ops : List OperandValue) : Type 1 where
  pub Named : RegClass → Type 0
  pub fixed : FixedAreKnown env ops
  pub D : ℕ → Type 0
  pub k : ℕ
  pub here : List Place
  pub t : InstRegs
  pub old : StateValue
  pub lt : k < length ops
  pub undone : D k → ⊥
  pub h : Filled env Known AllWrite AllMay ops D here t old
  pub p : Paying Named ops D here t old

module _ (env : MachineValue) (Known : VirtualRegister → Type 0) (ops : List OperandValue) (sound_ops : AreSoundOperands Known ops) where
  -- what holds of an operand with this request, before it gets a place
  pub record Ready (v : VirtualRegister) (w : Requirement) (here : List Place) (there : Place → List Place) (t : InstRegs) (old : StateValue) : Type 0 where
    pub known : Known v
    pub asks_well : (r : Register) → w ≡ InPReg r → IsOfMachine env r × (r.class ≡ v.class)
    pub some : w ≡ AnyReg → 0 < waiting ops here v.class
    pub pays : (p : Place) → AnswersRequirement env w p → Pays ops here (there p) v w t old

  -- a place of an operand that doesn't wait changes nothing
  pub waiting_unchanged : (here : List Place) (k : ℕ) (p : Place) → length here ≡ length ops → is_under_reg (op_at ops k).constraint ≡ false → (c : RegClass) →
      waiting ops (set here k p) c ≡ waiting ops here c
  waiting_unchanged here k p long other c = waits_as_before ops here c k p long (λ lt. waits_not ops here c k other ∙ sym (waits_not ops (set here k p) c k other))

  module _ (turn : CountedOperand env Known ops) where
    open turn use {Named, fixed, D, k, here, t, old, lt, undone, h, p}

    -- an operand that has no place yet, and is no reuse
    module _ (allocated : is_fixed_nonallocatable (op_at ops k) ≡ false) (no_reuse : (n : ℕ) → (op_at ops k).constraint ≡ Reuse n → ⊥)
        (none : place_at here k ≡ NoPlace) where
      by_constraint : (c : OperandConstraint) → (op_at ops k).constraint ≡ c → (q : Place) → AnswersRequirement env (requirement_of c) q →
          Pays ops here (set here k q) (op_at ops k).vreg (requirement_of c) t old
      by_constraint Any e q a = anywhere refl (waiting_unchanged here k q h.long (not_under (op_at ops k).constraint Any e refl))
      by_constraint Reg e q a =
          let r = plain_at env q a in
          let under : is_under_reg (op_at ops k).constraint ≡ true = ap is_under_reg e in
          waited refl
          (subst (λ x. waiting ops here (op_at ops k).vreg.class ≡ waiting ops (set here k x) (op_at ops k).vreg.class + 1) (sym r.1)
          (waits_no_more ops here (op_at ops k).vreg.class k r.0 lt h.long (waits_here ops here k under none)))
          (λ c ne. waits_as_before ops here c k q h.long (λ within. other_class_does_not_wait ops here c k ne ∙ sym (other_class_does_not_wait ops (set here k q) c k ne)))
      by_constraint Stack e q a = memory refl (waiting_unchanged here k q h.long (not_under (op_at ops k).constraint Stack e refl))
      by_constraint (FixedReg r) e q a = at_one r refl (p.placed_unfree k r lt allocated (inr e))
          (waiting_unchanged here k q h.long (not_under (op_at ops k).constraint (FixedReg r) e refl))
      by_constraint (Reuse n) e q a = absurd (no_reuse n e)
      by_constraint (Limit n) e q a = absurd (sound_ops.unlimited k n lt e)

      asked_ready : Ready (op_at ops k).vreg (requirement_of (op_at ops k).constraint) here (λ q. set here k q) t old
      asked_ready = record {
        known = sound_ops.known k lt allocated;
        asks_well = λ r is. (let e : (op_at ops k).constraint ≡ FixedReg r = requires_fixed_reg (op_at ops k).constraint r is in
            (fixed k r lt allocated e, fixed_class (op_at ops k).vreg.class (op_at ops k).constraint r (sound_ops.constraint k lt) e));
        some = λ any. some_wait ops here (op_at ops k).vreg.class k lt (waits_here ops here k
            (requires_any_reg (op_at ops k).constraint no_reuse (λ n e. sound_ops.unlimited k n lt e) any) none);
        pays = λ q a. by_constraint (op_at ops k).constraint refl q a;
      }

    -- a use for which a reuse has chosen a register
    chosen_ready : (r : Register) → is_reading (op_at ops k) ≡ true → place_at here k ≡ InRegister r →
        MayBeLocatedAt env old.slots (op_at ops k).vreg (InRegister r) → Ready (op_at ops k).vreg (InPReg r) here (λ q. set here k q) t old
    chosen_ready r reads at stand = record {
      known = sound_ops.known k lt (reads_allocated (op_at ops k) reads);
      asks_well = λ q is. (let x : InPReg r ≡ InPReg q = is in let same : r ≡ q = cc in
          subst (λ (x : Register). IsOfMachine env x × (x.class ≡ (op_at ops k).vreg.class)) same stand);
      some = λ any. absurd cc;
      pays = λ q a. at_one r refl (p.placed_unfree k r lt (reads_allocated (op_at ops k) reads) (inl at))
          (λ c. waits_as_before ops here c k q h.long (λ within. waits_placed ops here c k r at
          ∙ sym (waits_placed ops (set here k q) c k r (get_or-set_same here k q NoPlace (let l = h.long in omega (arith, l, lt)) ∙ a))));
    }

    -- a use
    pub use_ready : is_reading (op_at ops k) ≡ true → Ready (use_request (op_at ops k) (place_at here k)).vreg
        (use_request (op_at ops k) (place_at here k)).requirement here (λ q. set here k q) t old
    use_ready reads = elim (h.waits k lt undone) [
      | inl none ↦ subst (λ x. Ready (use_request (op_at ops k) x).vreg (use_request (op_at ops k) x).requirement here (λ q. set here k q) t old) (sym none)
          (asked_ready (reads_allocated (op_at ops k) reads) (λ n e. both_ways (is_def (op_at ops k).kind)
          (reads_use (op_at ops k) reads) (sound_ops.late_reuse k n lt e).0) none)
      | inr g ↦ (let r = a_place_of (place_at here k) g.1 in
          subst (λ x. Ready (use_request (op_at ops k) x).vreg (use_request (op_at ops k) x).requirement here (λ q. set here k q) t old) (sym r.1)
          (chosen_ready r.0 reads r.1 (subst (MayBeLocatedAt env old.slots (op_at ops k).vreg) r.1 (g.0.place (reads_allocated (op_at ops k) reads)))))
    ]

    -- a definition has no place yet
    def_blank : is_def (op_at ops k).kind ≡ true → place_at here k ≡ NoPlace
    def_blank def = elim (h.waits k lt undone) [
      | inl none ↦ none
      | inr g ↦ (let r = a_place_of (place_at here k) g.1 in let m = p.named k r.0 lt undone r.1 in
          absurd (both_ways (is_def (op_at ops k).kind) (reads_use (op_at ops k) (sound_ops.named m.0 k m.1 m.3).2) def))
    ]

    -- a definition that is no reuse meets this before it gets a place
    pub def_ready : is_def (op_at ops k).kind ≡ true → ((n : ℕ) → (op_at ops k).constraint ≡ Reuse n → ⊥) →
        Ready (op_at ops k).vreg (requirement_of (op_at ops k).constraint) here (λ q. set here k q) t old
    def_ready def no_reuse = asked_ready (sound_ops.allocated k lt def) no_reuse (def_blank def)

    -- a reuse, and the use that it names
    module _ (n : ℕ) (def : is_def (op_at ops k).kind ≡ true) (reuses : (op_at ops k).constraint ≡ Reuse n) (not_n : D n → ⊥) where
      named_blank : place_at here n ≡ NoPlace
      named_blank = elim (h.waits n (sound_ops.named k n lt reuses).0 not_n) [
        | inl none ↦ none
        | inr g ↦ (let r = a_place_of (place_at here n) g.1 in let m = p.named n r.0 (sound_ops.named k n lt reuses).0 not_n r.1 in
            absurd (undone (subst D (sound_ops.apart m.0 k n m.1 lt m.3 reuses) m.2)))
      ]

      -- the use that a reuse names is another operand
      pub named_other : n ≢ k
      named_other e = both_ways (is_late (op_at ops k).position)
          (ap (λ (m : ℕ). is_late (op_at ops m).position) (sym e) ∙ (sound_ops.named k n lt reuses).1) (sound_ops.late_reuse k n lt reuses).1

      same_class : (op_at ops n).vreg.class ≡ (op_at ops k).vreg.class
      same_class = (sound_ops.named k n lt reuses).3

      no_reg : is_under_reg (op_at ops k).constraint ≡ false
      no_reg = not_under (op_at ops k).constraint (Reuse n) reuses refl

      long_too : (q : Place) → length (set here k q) ≡ length ops
      long_too q = length-set here k q ∙ h.long

      waits_named : (q : Place) → is_under_reg (op_at ops n).constraint ≡ true → waits ops (set here k q) (op_at ops k).vreg.class n ≡ true
      waits_named q under = subst (λ (c : RegClass). waits ops (set here k q) c n ≡ true) same_class
          (waits_here ops (set here k q) n under (get_or-set_other here k n q NoPlace named_other ∙ named_blank))

      by_named : (c : OperandConstraint) → (op_at ops n).constraint ≡ c → (c ≡ Reg) ⊎ ((r : Register) × (c ≡ FixedReg r)) → (q : Place) →
          AnswersRequirement env (reuse_requirement_of c) q → Pays ops here (set (set here k q) n q) (op_at ops k).vreg (reuse_requirement_of c) t old
      by_named c e (inl reg) q a =
          let r = plain_at env q (subst (λ x. AnswersRequirement env (reuse_requirement_of x) q) reg a) in
          let under : is_under_reg (op_at ops n).constraint ≡ true = ap is_under_reg (e ∙ reg) in
          let first = waiting_unchanged here k q h.long no_reg (op_at ops k).vreg.class in
          let second : waiting ops (set here k q) (op_at ops k).vreg.class ≡ waiting ops (set (set here k q) n q) (op_at ops k).vreg.class + 1 =
          subst (λ x. waiting ops (set here k q) (op_at ops k).vreg.class ≡ waiting ops (set (set here k q) n x) (op_at ops k).vreg.class + 1) (sym r.1)
          (waits_no_more ops (set here k q) (op_at ops k).vreg.class n r.0 (sound_ops.named k n lt reuses).0 (long_too q) (waits_named q under)) in
          waited (ap reuse_requirement_of reg) (omega (arith, first, second))
          (λ x ne. waits_as_before ops (set here k q) x n q (long_too q)
          (λ within. other_class_does_not_wait ops (set here k q) x n (λ s. ne (s ∙ ap class_code same_class))
          ∙ sym (other_class_does_not_wait ops (set (set here k q) n q) x n (λ s. ne (s ∙ ap class_code same_class)))) ∙ waiting_unchanged here k q h.long no_reg x)
      by_named c e (inr f) q a = at_one f.0 (ap reuse_requirement_of f.1)
          (p.placed_unfree n f.0 (sound_ops.named k n lt reuses).0 (reads_allocated (op_at ops n) (sound_ops.named k n lt reuses).2) (inr (e ∙ f.1)))
          (λ x. waiting_unchanged (set here k q) n q (long_too q) (not_under (op_at ops n).constraint (FixedReg f.0) (e ∙ f.1) refl) x
          ∙ waiting_unchanged here k q h.long no_reg x)

      needs_at_some_position : (c : OperandConstraint) → (op_at ops n).constraint ≡ c → (c ≡ Reg) ⊎ ((r : Register) × (c ≡ FixedReg r)) → reuse_requirement_of c ≡ AnyReg →
          0 < waiting ops here (op_at ops k).vreg.class
      needs_at_some_position c e (inl reg) any = subst (λ (x : RegClass). 0 < waiting ops here x) same_class
          (some_wait ops here (op_at ops n).vreg.class n (sound_ops.named k n lt reuses).0 (waits_here ops here n (ap is_under_reg (e ∙ reg)) named_blank))
      needs_at_some_position c e (inr f) any = (let x : InPReg f.0 ≡ AnyReg = ap reuse_requirement_of (sym f.1) ∙ any in absurd cc)

      -- a reuse meets this before it gets a place, which its use gets too
      pub reuse_ready : Ready (op_at ops k).vreg (reuse_requirement_of (op_at ops n).constraint) here (λ q. set (set here k q) n q) t old
      reuse_ready = record {
        known = sound_ops.known k lt (sound_ops.allocated k lt def);
        asks_well = λ r is. (let e : (op_at ops n).constraint ≡ FixedReg r = reuse_requires_fixed_reg (op_at ops n).constraint r is in (
          fixed n r (sound_ops.named k n lt reuses).0 (reads_allocated (op_at ops n) (sound_ops.named k n lt reuses).2) e,
          fixed_class (op_at ops n).vreg.class (op_at ops n).constraint r (sound_ops.constraint n (sound_ops.named k n lt reuses).0) e ∙ same_class,
        ));
        some = needs_at_some_position (op_at ops n).constraint refl (sound_ops.named_as k n lt reuses);
        pays = λ q a. by_named (op_at ops n).constraint refl (sound_ops.named_as k n lt reuses) q a;
      }

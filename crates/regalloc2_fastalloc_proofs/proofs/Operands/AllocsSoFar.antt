-- The places of an instruction's operands, while they are placed one after another.
use Rattle.regalloc2_carry.proofs.Operands.{reads_use}
use Rattle.std.proofs.Common.{ℕ, ◌≡◌, ◌≢◌, ◌<◌, List, true, false, refl, sym, ap, ◌∙◌, ◌⊎◌, inl, inr, subst, arith, length, set}
use Rattle.std.proofs.Common.{get_or-set_same}
use Rattle.std.specs.Prelude.{not}
use Rattle.std.proofs.lemmas.Bool.{cases_eq, and_parts, not-true, both_ways}
use Rattle.std.proofs.lemmas.List.{get_or-set_other}
use Rattle.std.proofs.Math.ListN.{length-set}
use Rattle.regalloc2_names.specs.declared.RegClass.{RegClass}
use Rattle.regalloc2_names.specs.declared.OperandConstraint.{OperandConstraint}
use Rattle.regalloc2_names.specs.declared.OperandConstraint.TheVariants.{Any, Reg, Stack, FixedReg, Reuse, Limit}
use Rattle.regalloc2_names.specs.Register.{Register, VirtualRegister}
use Rattle.regalloc2_names.specs.Operand.{OperandValue, is_def, is_late, is_reading, is_fixed_nonallocatable}
use Rattle.regalloc2_names.specs.Packing.{IsConstraintOf}
use Rattle.regalloc2_names.specs.Place.{Place, NoPlace, InRegister, InSlot, before, after}
use Rattle.regalloc2_function.specs.Machine.{MachineValue, IsStackPlace, IsPlainRegister}
use Rattle.regalloc2_function.specs.OutputValue.{place_at}
use Rattle.regalloc2_fastalloc_state.specs.declared.inst_regs.InstRegs.{InstRegs}
use Rattle.regalloc2_fastalloc_state.specs.declared.request.Requirement.TheVariants.{InPReg}
use Rattle.regalloc2_fastalloc_state.specs.StateParts.{SpillSlotsValue, alloc_of}
use Rattle.regalloc2_function.specs.FunctionValue.{op_at}
use Rattle.regalloc2_fastalloc_proofs.specs.InstSteps.{StateValue, requirement_of, reuse_requirement_of}
use Rattle.regalloc2_fastalloc_proofs.specs.Safety.{IsOfMachine, MayBeLocatedAt, IsSafe, AreSafeRegs}
use Rattle.regalloc2_fastalloc_proofs.proofs.Slots.SlotsGrow.{SlotsStay, may_be_located_grows}
use Rattle.regalloc2_fastalloc_proofs.proofs.Safety.OperandKeepsSafe.{AnswersRequirement}

-- The operands of an instruction of a well-formed function: a number isn't read where it is defined;
-- a reuse is a late definition that names an early use of its class, under Reg or FixedReg, which no other reuse names.
pub record AreSoundOperands (Known : VirtualRegister → Type 0) (ops : List OperandValue) : Type 0 where
  pub same : (v w : VirtualRegister) → Known v → Known w → v.number ≡ w.number → v ≡ w
  pub known : (k : ℕ) → k < length ops → is_fixed_nonallocatable (op_at ops k) ≡ false → Known (op_at ops k).vreg
  pub constraint : (k : ℕ) → k < length ops → IsConstraintOf (op_at ops k).vreg.class (op_at ops k).constraint
  pub allocated : (k : ℕ) → k < length ops → is_def (op_at ops k).kind ≡ true → is_fixed_nonallocatable (op_at ops k) ≡ false
  pub unlimited : (k n : ℕ) → k < length ops → (op_at ops k).constraint ≡ Limit n → ⊥
  pub late_reuse : (k n : ℕ) → k < length ops → (op_at ops k).constraint ≡ Reuse n → (is_def (op_at ops k).kind ≡ true)
      × (is_late (op_at ops k).position ≡ true)
  pub named : (k n : ℕ) → k < length ops → (op_at ops k).constraint ≡ Reuse n → (n < length ops) × (is_late (op_at ops n).position ≡ false)
      × (is_reading (op_at ops n) ≡ true) × ((op_at ops n).vreg.class ≡ (op_at ops k).vreg.class)
  pub named_as : (k n : ℕ) → k < length ops → (op_at ops k).constraint ≡ Reuse n → ((op_at ops n).constraint ≡ Reg)
      ⊎ ((r : Register) × ((op_at ops n).constraint ≡ FixedReg r))
  pub apart : (j k n : ℕ) → j < length ops → k < length ops → (op_at ops j).constraint ≡ Reuse n → (op_at ops k).constraint ≡ Reuse n → j ≡ k
  pub unread : (j k : ℕ) → j < length ops → k < length ops → is_def (op_at ops j).kind ≡ true → is_reading (op_at ops k) ≡ true →
      (op_at ops k).vreg.number ≢ (op_at ops j).vreg.number

-- the place is a register, or a fixed stack slot, which has a register's name
abbrev pub IsInRegister : Place → Type 0
IsInRegister NoPlace = ⊥
IsInRegister (InRegister r) = Unit {0}
IsInRegister (InSlot n) = ⊥

-- what a constraint requires of the operand's own place
abbrev pub MeetsByItself : MachineValue → OperandConstraint → Place → Type 0
MeetsByItself env Any p = p ≢ NoPlace
MeetsByItself env Reg p = IsPlainRegister env p
MeetsByItself env Stack p = IsStackPlace env p
MeetsByItself env (FixedReg r) p = p ≡ InRegister r
MeetsByItself env (Reuse n) p = IsInRegister p
MeetsByItself env (Limit n) p = ⊥

-- a valid place, which meets the operand's constraint
pub record IsGood (env : MachineValue) (slots : SpillSlotsValue) (o : OperandValue) (p : Place) : Type 0 where
  pub place : is_fixed_nonallocatable o ≡ false → MayBeLocatedAt env slots o.vreg p
  pub meets : MeetsByItself env o.constraint p

-- an operand's good place stays good where slots stay
pub good_grows : (env : MachineValue) (s t : SpillSlotsValue) (o : OperandValue) (p : Place) → SlotsStay s t → IsGood env s o p → IsGood env t o p
good_grows env s t o p stay g = record { place = λ a. may_be_located_grows env s t o.vreg p stay (g.place a); meets = g.meets }

-- an operand that reads isn't fixed to a nonallocatable register, so it is allocated
pub reads_allocated : (o : OperandValue) → is_reading o ≡ true → is_fixed_nonallocatable o ≡ false
reads_allocated o h = not-true (is_fixed_nonallocatable o) (and_parts (not (is_def o.kind)) (not (is_fixed_nonallocatable o)) h).1

-- a place that meets the requirement meets the constraint
pub answer_meets : (env : MachineValue) (c : OperandConstraint) (p : Place) → ((n : ℕ) → c ≡ Reuse n → ⊥) → ((n : ℕ) → c ≡ Limit n → ⊥) →
    AnswersRequirement env (requirement_of c) p → MeetsByItself env c p
answer_meets env (Reuse n) p r l h = absurd (r n refl)
answer_meets env (Limit n) p r l h = absurd (l n refl)
answer_meets env c p r l h = h

plain_in_register : (env : MachineValue) (p : Place) → IsPlainRegister env p → IsInRegister p
plain_in_register env NoPlace h = h
plain_in_register env (InRegister r) h = tt
plain_in_register env (InSlot n) h = h

fixed_in_register : (p : Place) (r : Register) → p ≡ InRegister r → IsInRegister p
fixed_in_register p r e = subst IsInRegister (sym e) tt

-- the place of a reuse meets the constraint of the use that it names, and is a register
pub answer_named : (env : MachineValue) (c : OperandConstraint) (p : Place) → (c ≡ Reg) ⊎ ((r : Register) × (c ≡ FixedReg r)) →
    AnswersRequirement env (reuse_requirement_of c) p → MeetsByItself env c p × IsInRegister p
answer_named env c p (inl e) h =
    let a : IsPlainRegister env p = subst (λ x. AnswersRequirement env (reuse_requirement_of x) p) e h in
    (subst (λ x. MeetsByItself env x p) (sym e) a, plain_in_register env p a)
answer_named env c p (inr e) h =
    let a : p ≡ InRegister e.0 = subst (λ x. AnswersRequirement env (reuse_requirement_of x) p) e.1 h in
    (subst (λ x. MeetsByItself env x p) (sym e.1) a, fixed_in_register p e.0 a)

-- any register meets a reuse constraint, as far as its own place goes
pub reuse_meets : (env : MachineValue) (c : OperandConstraint) (n : ℕ) (p : Place) → c ≡ Reuse n → IsInRegister p → MeetsByItself env c p
reuse_meets env c n p e h = subst (λ x. MeetsByItself env x p) (sym e) h

-- a register meets the constraint that fixes an operand to it
pub fixed_meets : (env : MachineValue) (c : OperandConstraint) (r : Register) → c ≡ FixedReg r → MeetsByItself env c (InRegister r)
fixed_meets env c r e = subst (λ x. MeetsByItself env x (InRegister r)) (sym e) refl

-- an operand that requires a specific register is fixed to it
pub requires_fixed_reg : (c : OperandConstraint) (r : Register) → requirement_of c ≡ InPReg r → c ≡ FixedReg r
requires_fixed_reg (FixedReg q) r h = (let x : InPReg q ≡ InPReg r = h in let same : q ≡ r = cc in ap FixedReg same)
requires_fixed_reg c r h = absurd cc

-- if a reuse requires a specific register, the operand that it names is fixed to that register
pub reuse_requires_fixed_reg : (c : OperandConstraint) (r : Register) → reuse_requirement_of c ≡ InPReg r → c ≡ FixedReg r
reuse_requires_fixed_reg (FixedReg q) r h = (let x : InPReg q ≡ InPReg r = h in let same : q ≡ r = cc in ap FixedReg same)
reuse_requires_fixed_reg c r h = absurd cc

-- the register to which an operand may be fixed is of the operand's class
pub fixed_class : (class : RegClass) (c : OperandConstraint) (r : Register) → IsConstraintOf class c → c ≡ FixedReg r → r.class ≡ class
fixed_class class c r h e = (let x : IsConstraintOf class (FixedReg r) = subst (IsConstraintOf class) e h in x.1)

same_reuse : (m n : ℕ) → Reuse m ≡ Reuse n → m ≡ n
same_reuse m n e = cc

-- each operand that is fixed to a register, and isn't one that reads nothing, is fixed to one of the machine's
abbrev pub FixedAreKnown : MachineValue → List OperandValue → Type 0
FixedAreKnown env ops = (k : ℕ) (r : Register) → k < length ops → is_fixed_nonallocatable (op_at ops k) ≡ false → (op_at ops k).constraint ≡ FixedReg r →
    IsOfMachine env r

-- the operands that are done have good places; every other operand has none yet, or the one that a reuse chose for it
pub record Filled (env : MachineValue) (Known : VirtualRegister → Type 0) (Writes : ℕ → VirtualRegister → ℕ → Type 0) (May : ℕ → Type 0)
    (ops : List OperandValue) (done : ℕ → Type 0) (there : List Place) (u : InstRegs) (t : StateValue) : Type 0 where
  pub safe : IsSafe env Known Writes May t
  pub inst_regs : AreSafeRegs env u
  pub long : length there ≡ length ops
  pub good : (j : ℕ) → j < length ops → done j → IsGood env t.slots (op_at ops j) (place_at there j)
  pub shared : (j n : ℕ) → j < length ops → done j → (op_at ops j).constraint ≡ Reuse n → place_at there j ≡ place_at there n
  pub waits : (j : ℕ) → j < length ops → (done j → ⊥) → (place_at there j ≡ NoPlace)
      ⊎ (IsGood env t.slots (op_at ops j) (place_at there j) × IsInRegister (place_at there j))
  pub found : (j : ℕ) → j < length ops → done j → is_reading (op_at ops j) ≡ true → alloc_of t.places (op_at ops j).vreg.number ≢ NoPlace

-- The slots that an instruction may write: after it, the slots of the vregs that it defines; before it, the slots in
-- which it reads.
abbrev pub DefsAreWritten : (ℕ → VirtualRegister → ℕ → Type 0) → ℕ → List OperandValue → Type 0
DefsAreWritten Writes i ops = (k n : ℕ) → k < length ops → is_def (op_at ops k).kind ≡ true → Writes (after i) (op_at ops k).vreg n

-- before the instruction a vreg's value may be written to each slot in which a use reads it
abbrev pub UsesAreWritten : (ℕ → VirtualRegister → ℕ → Type 0) → ℕ → List OperandValue → List Place → Type 0
UsesAreWritten Writes i ops places = (k n : ℕ) → k < length ops → is_reading (op_at ops k) ≡ true → place_at places k ≡ InSlot n →
    Writes (before i) (op_at ops k).vreg n

-- a place that meets a reuse constraint is a register
pub reuse_register : (env : MachineValue) (c : OperandConstraint) (n : ℕ) (p : Place) → c ≡ Reuse n → MeetsByItself env c p → IsInRegister p
reuse_register env c n p e h = subst (λ x. MeetsByItself env x p) e h

-- `NoPlace` isn't a register
pub no_place_register : (p : Place) → p ≡ NoPlace → IsInRegister p → ⊥
no_place_register p e h = subst IsInRegister e h

-- An instruction's operands, which get their places one after another: the machine; the known vregs; the slots into
-- which the walk may write a vreg's value, and the points where moves may be; and the operands, which are sound.
pub record FillingContext : Type 1 where
  pub env : MachineValue
  pub Known : VirtualRegister → Type 0
  pub Writes : ℕ → VirtualRegister → ℕ → Type 0
  pub May : ℕ → Type 0
  pub ops : List OperandValue
  pub sound_ops : AreSoundOperands Known ops

-- the record, built from its parts
abbrev pub filling_of : MachineValue → (Known : VirtualRegister → Type 0) → (ℕ → VirtualRegister → ℕ → Type 0) → (ℕ → Type 0) →
    (ops : List OperandValue) → AreSoundOperands Known ops → FillingContext
filling_of env Known Writes May ops sound_ops = record { env = env; Known = Known; Writes = Writes; May = May; ops = ops; sound_ops = sound_ops }

module _ (filling : FillingContext) where
  open filling use {env, Known, Writes, May, ops, sound_ops}

  -- operands stay filled if D and E hold of the same ones
  pub filled_same : (D E : ℕ → Type 0) (there : List Place) (u : InstRegs) (t : StateValue) → ((j : ℕ) → j < length ops → E j → D j) →
      ((j : ℕ) → j < length ops → D j → E j)
      → Filled env Known Writes May ops D there u t → Filled env Known Writes May ops E there u t
  filled_same D E there u t back forth h = record {
    safe = h.safe;
    inst_regs = h.inst_regs;
    long = h.long;
    good = λ j less e. h.good j less (back j less e);
    shared = λ j n less e. h.shared j n less (back j less e);
    waits = λ j less not_e. h.waits j less (λ d. not_e (forth j less d));
    found = λ j less e. h.found j less (back j less e);
  }

  -- operands stay filled over other tables, in which the vregs of all uses that are done still have a location
  pub filled_on : (D : ℕ → Type 0) (there : List Place) (t u : InstRegs) (old new : StateValue) → IsSafe env Known Writes May new → AreSafeRegs env u →
      SlotsStay old.slots new.slots
      → ((j : ℕ) → j < length ops → is_reading (op_at ops j) ≡ true → alloc_of old.places (op_at ops j).vreg.number ≢ NoPlace →
      alloc_of new.places (op_at ops j).vreg.number ≢ NoPlace)
      → Filled env Known Writes May ops D there t old → Filled env Known Writes May ops D there u new
  filled_on D there t u old new safe inst_regs stay standing h = record {
    safe = safe;
    inst_regs = inst_regs;
    long = h.long;
    good = λ j less d. good_grows env old.slots new.slots (op_at ops j) (place_at there j) stay (h.good j less d);
    shared = h.shared;
    waits = λ j less not_d. elim (h.waits j less not_d) [
      | inl none ↦ inl none
      | inr g ↦ inr (good_grows env old.slots new.slots (op_at ops j) (place_at there j) stay g.0, g.1)
    ];
    found = λ j less d reads. standing j less reads (h.found j less d reads);
  }

  -- one more operand is done
  pub record OneMore (D E : ℕ → Type 0) (k : ℕ) : Type 0 where
    pub before_it : D k → ⊥
    pub at_it : E k
    pub back : (j : ℕ) → E j → D j ⊎ (j ≡ k)
    pub forth : (j : ℕ) → D j → E j

  -- the place of an operand that is no reuse is written
  pub written : (D E : ℕ → Type 0) (k : ℕ) (p : Place) (here : List Place) (u : InstRegs) (t : StateValue) → k < length ops → OneMore D E k →
      ((n : ℕ) → (op_at ops k).constraint ≡ Reuse n → ⊥)
      → IsGood env t.slots (op_at ops k) p → (is_reading (op_at ops k) ≡ true → alloc_of t.places (op_at ops k).vreg.number ≢ NoPlace)
      → ((j : ℕ) → j < length ops → D j → (op_at ops j).constraint ≡ Reuse k → p ≡ place_at here k)
      → Filled env Known Writes May ops D here u t → Filled env Known Writes May ops E (set here k p) u t
  written D E k p here u t lt more no_reuse good found kept h = record {
    safe = h.safe;
    inst_regs = h.inst_regs;
    long = length-set here k p ∙ h.long;
    good = λ j less e. elim (more.back j e) [
      | inl d ↦ subst (IsGood env t.slots (op_at ops j)) (sym (elsewhere j (not_k j d))) (h.good j less d)
      | inr same ↦ subst (λ (n : ℕ). IsGood env t.slots (op_at ops n) (place_at (set here k p) n)) (sym same)
          (subst (IsGood env t.slots (op_at ops k)) (sym there) good)
    ];
    shared = λ j n less e is. elim (more.back j e) [
      | inl d ↦ (elsewhere j (not_k j d) ∙ h.shared j n less d is ∙ elim (cases_eq n k) [
        | inl same ↦ (ap (place_at here) same ∙ sym (kept j less d (is ∙ ap Reuse same)) ∙ sym there ∙ ap (place_at (set here k p)) (sym same))
        | inr ne ↦ sym (elsewhere n ne)
      ])
      | inr same ↦ absurd (no_reuse n (ap (λ (m : ℕ). (op_at ops m).constraint) (sym same) ∙ is))
    ];
    waits = λ j less not_e.
        let ne : j ≢ k = λ same. not_e (subst E (sym same) more.at_it) in
        subst (λ (x : Place). (x ≡ NoPlace) ⊎ (IsGood env t.slots (op_at ops j) x × IsInRegister x)) (sym (elsewhere j ne))
        (h.waits j less (λ d. not_e (more.forth j d)));
    found = λ j less e reads. elim (more.back j e) [
      | inl d ↦ h.found j less d reads
      | inr same ↦ (let P : ℕ → Type 0 = λ n. is_reading (op_at ops n) ≡ true → alloc_of t.places (op_at ops n).vreg.number ≢ NoPlace in
          subst P (sym same) found reads)
    ];
  }
    where
      there : place_at (set here k p) k ≡ p
      there = get_or-set_same here k p NoPlace (let n = h.long in omega (arith, n, lt))

      elsewhere : (j : ℕ) → j ≢ k → place_at (set here k p) j ≡ place_at here j
      elsewhere j ne = get_or-set_other here k j p NoPlace ne

      not_k : (j : ℕ) → D j → j ≢ k
      not_k j d same = more.before_it (subst D same d)

  -- the place of a reuse, which is also that of the use that it names
  pub written_twice : {D E : ℕ → Type 0} {k : ℕ} (n : ℕ) {p : Place} {here : List Place} {u : InstRegs} {t : StateValue} → k < length ops → OneMore D E k →
      (op_at ops k).constraint ≡ Reuse n → (D n → ⊥)
      → IsGood env t.slots (op_at ops k) p → IsGood env t.slots (op_at ops n) p → IsInRegister p
      → Filled env Known Writes May ops D here u t → Filled env Known Writes May ops E (set (set here k p) n p) u t
  written_twice {D} {E} {k} n {p} {here} {t} lt more reuses not_n good good_n register h = record {
    safe = h.safe;
    inst_regs = h.inst_regs;
    long = length-set (set here k p) n p ∙ length-set here k p ∙ h.long;
    good = λ j less e. elim (more.back j e) [
      | inl d ↦ subst (IsGood env t.slots (op_at ops j)) (sym (elsewhere j (not_k j d) (not_named j d))) (h.good j less d)
      | inr same ↦ subst (λ (m : ℕ). IsGood env t.slots (op_at ops m) (place_at (set (set here k p) n p) m)) (sym same)
          (subst (IsGood env t.slots (op_at ops k)) (sym there) good)
    ];
    shared = λ j m less e is. elim (more.back j e) [
      | inl d ↦ (elsewhere j (not_k j d) (not_named j d) ∙ h.shared j m less d is
          ∙ sym (elsewhere m (names_no_def j m less is) (λ same. not_k j d (sound_ops.apart j k n less lt (is ∙ ap Reuse same) reuses))))
      | inr same ↦ (let one : m ≡ n = same_reuse m n (sym is ∙ ap (λ (x : ℕ). (op_at ops x).constraint) same ∙ reuses) in
          ap (place_at (set (set here k p) n p)) same ∙ there ∙ sym there_n ∙ ap (place_at (set (set here k p) n p)) (sym one))
    ];
    waits = λ j less not_e.
        let ne : j ≢ k = λ same. not_e (subst E (sym same) more.at_it) in
        elim (cases_eq j n) [
          | inl same ↦ inr (
            subst (λ (m : ℕ). IsGood env t.slots (op_at ops m) (place_at (set (set here k p) n p) m)) (sym same)
                (subst (IsGood env t.slots (op_at ops n)) (sym there_n) good_n),
            subst (λ (m : ℕ). IsInRegister (place_at (set (set here k p) n p) m)) (sym same) (subst IsInRegister (sym there_n) register),
          )
          | inr other ↦ subst (λ (x : Place). (x ≡ NoPlace) ⊎ (IsGood env t.slots (op_at ops j) x × IsInRegister x)) (sym (elsewhere j ne other))
              (h.waits j less (λ d. not_e (more.forth j d)))
        ];
    found = λ j less e reads. elim (more.back j e) [
      | inl d ↦ h.found j less d reads
      | inr same ↦ absurd (both_ways (is_def (op_at ops k).kind)
          (reads_use (op_at ops k) (subst (λ (m : ℕ). is_reading (op_at ops m) ≡ true) same reads)) (sound_ops.late_reuse k n lt reuses).0)
    ];
  }
    where
      n_within : n < length ops
      n_within = (sound_ops.named k n lt reuses).0

      apart_k : n ≢ k
      apart_k same = both_ways (is_late (op_at ops k).position)
          (ap (λ (m : ℕ). is_late (op_at ops m).position) (sym same) ∙ (sound_ops.named k n lt reuses).1) (sound_ops.late_reuse k n lt reuses).1

      names_no_def : (j m : ℕ) → j < length ops → (op_at ops j).constraint ≡ Reuse m → m ≢ k
      names_no_def j m less is same = both_ways (is_late (op_at ops k).position)
          (ap (λ (x : ℕ). is_late (op_at ops x).position) (sym same) ∙ (sound_ops.named j m less is).1) (sound_ops.late_reuse k n lt reuses).1

      there : place_at (set (set here k p) n p) k ≡ p
      there = get_or-set_other (set here k p) n k p NoPlace (λ e. apart_k (sym e)) ∙ get_or-set_same here k p NoPlace (let l = h.long in omega (arith, l, lt))

      there_n : place_at (set (set here k p) n p) n ≡ p
      there_n = get_or-set_same (set here k p) n p NoPlace (let l = h.long in let q = length-set here k p in let w = n_within in omega (arith, l, q, w))

      elsewhere : (j : ℕ) → j ≢ k → j ≢ n → place_at (set (set here k p) n p) j ≡ place_at here j
      elsewhere j ne other = get_or-set_other (set here k p) n j p NoPlace other ∙ get_or-set_other here k j p NoPlace ne

      not_k : (j : ℕ) → D j → j ≢ k
      not_k j d same = more.before_it (subst D same d)

      not_named : (j : ℕ) → D j → j ≢ n
      not_named j d same = not_n (subst D same d)

-- What the lemma on paths requires of a block, from its last instruction, the instructions before it and its start.
use Rattle.std.proofs.Common.{ℕ, zero, suc, ◌≡◌, ◌+◌, ◌-◌, ◌<◌, ◌≤◌, inl, inr, Bool, true, false, length, ap, subst, arith}
use Rattle.std.specs.Prelude.{Option, Some}
use Rattle.std.proofs.lemmas.Bool.{cases_eq, or_cases, or_parts}
use Rattle.regalloc2_names.specs.Register.{Register, VirtualRegister}
use Rattle.regalloc2_names.specs.Place.{Place, InRegister, before}
use Rattle.regalloc2_function.specs.FunctionValue.{FunctionValue, block_at, inst_at}
use Rattle.regalloc2_function.specs.WellFormed.{DefinedOnce}
use Rattle.regalloc2_carry.specs.Carry.{Carries}
use Rattle.regalloc2_carry.specs.BlockByPoints.{at_point, walked, listed}
use Rattle.regalloc2_carry.specs.Blocks.{IsUnwritten, StandsBefore}
use Rattle.regalloc2_carry.proofs.CarryRules.{carries_weaken}
use Rattle.regalloc2_carry.proofs.NotRead.{ReadsOthersOnly}
use Rattle.regalloc2_carry.proofs.BlockBackward.{Relied}
use Rattle.regalloc2_carry.proofs.SingleDef.{IsDefOperand, ReadsDefined}
use Rattle.regalloc2_carry.proofs.Order.{reads_later}
use Rattle.regalloc2_fastalloc_proofs.specs.InstSteps.{StateValue, ends_block}
use Rattle.regalloc2_fastalloc_proofs.specs.BlockStart.{ReloadsAtBegin}
use Rattle.regalloc2_fastalloc_proofs.proofs.Operands.RecordOverState.{location_at, slots_at}
use Rattle.regalloc2_fastalloc_proofs.proofs.Operands.DefinedNumbers.{defined_by, defined_by-some}
use Rattle.regalloc2_fastalloc_proofs.proofs.Inst.OneInstCarries.{IsBetweenInsts}
use Rattle.regalloc2_fastalloc_proofs.proofs.Walk.InstForOneVReg.{LeavesOwnSlot, undefined_by}
use Rattle.regalloc2_fastalloc_proofs.proofs.Walk.InstsBeforeLastCarry.{defined_from, Goes, goes_between, goes_carried}
use Rattle.regalloc2_fastalloc_proofs.proofs.BlockBegin.CarriesFromSlot.{entered_carried}
use Rattle.regalloc2_fastalloc_proofs.proofs.Inst.ProperInsts.{ProperCode}

-- if a range of instructions defines a vreg, one of them does
pub defined_from-some : (f : FunctionValue) (x i n : ℕ) → defined_from f x i n ≡ true → (j : ℕ) × (i ≤ j) × (j < i + n)
    × (defined_by (inst_at f j).operands x ≡ true)
unfolding defined_from
defined_from-some f x i zero h = absurd cc
defined_from-some f x i (suc n) h = elim (or_cases (defined_by (inst_at f i).operands x) (defined_from f x (i + 1) n) h) [
  | inl is ↦ (i, omega arith, omega arith, is)
  | inr g ↦ (let r = defined_from-some f x (i + 1) n g in (r.0, omega (arith, r.1), omega (arith, r.2), r.3))
]

-- a vreg that none of n instructions defines isn't defined by any single one of them
pub defined_from-none : (f : FunctionValue) (x i n : ℕ) → defined_from f x i n ≡ false → (j : ℕ) → i ≤ j → j < i + n →
    defined_by (inst_at f j).operands x ≡ false
unfolding defined_from
defined_from-none f x i zero h j le lt = absurd (omega arith)
defined_from-none f x i (suc n) h j le lt =
    let p = or_parts (defined_by (inst_at f i).operands x) (defined_from f x (i + 1) n) h in
    elim (cases_eq i j) [
      | inl e ↦ subst (λ k. defined_by (inst_at f k).operands x ≡ false) e p.0
      | inr ne ↦ defined_from-none f x (i + 1) n p.1 j (omega arith) (omega arith)
    ]

-- what defines a number
pub defines_at : (f : FunctionValue) (x i : ℕ) → i < length f.insts → defined_by (inst_at f i).operands x ≡ true → (k : ℕ) × IsDefOperand f x i k
defines_at f x i lt h = let d = defined_by-some (inst_at f i).operands x h in (d.0, record { inst = lt; operand = d.1; definition = d.2; number = d.3 })

-- before its definition nothing reads a vreg
pub unread_before : (f : FunctionValue) → DefinedOnce f → (v : VirtualRegister) (i n : ℕ) → i < length f.insts → i + 1 + n ≤ length f.insts → ReadsDefined f i →
    defined_from f v.number (i + 1) n ≡ true → ReadsOthersOnly (inst_at f i).operands v
unread_before f once v i n lt within reads h j less read is =
    let d = defined_from-some f v.number (i + 1) n h in
    let a = defines_at f v.number d.0 (omega (arith, d.2)) d.3 in
    let later : d.0 < i = reads_later f once v.number d.0 a.0 i j a.1 lt reads less read (ap (λ (w : VirtualRegister). w.number) is) in
    omega (arith, later, d.1)

module _ (code : ProperCode) (once : DefinedOnce code.f) (reads : (i : ℕ) → i < length code.f.insts → ReadsDefined code.f i) (F : ℕ → Option Place)
    (slot : (x : ℕ) (r : Register) → F x ≡ Some (InRegister r) → ⊥) (b : ℕ) where
  open code use {Known, f, placesf, proper}

  -- the block's first instruction
  abbrev pub first_inst : ℕ
  first_inst = (block_at f b).range.first

  -- each instruction leaves slots, made so far or later, to their own vregs
  abbrev pub EachLeaves : ℕ → StateValue → StateValue → Type 0
  EachLeaves i t u = (v : VirtualRegister) → Known v → LeavesOwnSlot f placesf F v i t u

  -- The walk over the block b: after its last instruction the tables are begin, before its first one middle, and at its
  -- start new.
  pub record Walked (last : ℕ) (begin middle new : StateValue) : Type 0 where
    pub end : last + 1 ≡ (block_at f b).range.end
    pub some : first_inst ≤ last
    pub within : last < length f.insts
    pub start : IsBetweenInsts last begin
    pub goes : Goes f placesf EachLeaves begin first_inst last first_inst middle
    pub begins : ReloadsAtBegin (before first_inst) (block_at f b).params middle new
    pub returns : (i : ℕ) → first_inst ≤ i → i < last → ends_block (inst_at f i) ≡ false
    pub stays : (x : ℕ) (p : Place) → slots_at new x ≡ Some p → F x ≡ Some p

  module _ (last : ℕ) (begin middle new : StateValue) (w : Walked last begin middle new) (v : VirtualRegister) (known : Known v) (E : Place → Type 0) where
    -- whether the block writes v
    abbrev pub written : Bool
    written = defined_from f v.number first_inst (suc (last - first_inst))

    -- what the last instruction carries
    abbrev pub EndCarries : Type 0
    EndCarries = Carries v (walked (inst_at f) (at_point (listed begin.edits)) placesf last 1)
        (Relied (defined_from f v.number last 1) written (location_at begin v.number) (slots_at begin v.number) (F v.number)) E

    -- if its last instruction carries what is needed after the block, the whole block carries v from its place on paths
    -- before it
    pub block_owes : EndCarries → Carries v (walked (inst_at f) (at_point (listed new.edits)) placesf first_inst (suc (last - first_inst)))
        (StandsBefore f (λ u. F u.number) b v) E
    block_owes c =
        let some : first_inst ≤ last = w.some in
        let within : last < length f.insts = w.within in
        let between : IsBetweenInsts first_inst middle = goes_between code EachLeaves begin first_inst last (omega (arith, within)) w.start
        first_inst middle w.goes in
        let carried : Carries v (walked (inst_at f) (at_point (listed middle.edits)) placesf first_inst (suc (last - first_inst)))
        (Relied written written (location_at middle v.number) (slots_at middle v.number) (F v.number)) E =
        goes_carried code EachLeaves begin first_inst last (omega (arith, within)) w.start (record {
          F = F;
          v = v;
          known = known;
          block = written;
          m = 1;
          E = E;
          returns = w.returns;
          writes = λ i ge lt none. defined_from-none f v.number first_inst (suc (last - first_inst)) none i ge (omega (arith, some));
          leaves = λ i t u ge lt l. l v known;
          unread = λ i n ge lt count d. unread_before f once v i n (omega (arith, within)) (omega (arith, within, count)) (reads i (omega (arith, within))) d;
        }) c first_inst middle w.goes (suc (last - first_inst)) (omega (arith, some)) in
        carries_weaken v (walked (inst_at f) (at_point (listed new.edits)) placesf first_inst (suc (last - first_inst)))
        (λ p. (written ≡ false) × (F v.number ≡ Some p)) (StandsBefore f (λ u. F u.number) b v) E E
        (λ p h. (unwritten h.0, h.1)) (λ p h. h)
        (entered_carried (inst_at f) placesf first_inst (last - first_inst) v E (block_at f b).params middle new w.begins between written (F v.number)
        (slot v.number) (w.stays v.number) carried)
      where
        unwritten : written ≡ false → IsUnwritten f b v
        unwritten none i ge lt = (let some : first_inst ≤ last = w.some in let end : last + 1 ≡ (block_at f b).range.end = w.end in
            undefined_by f placesf F v i (defined_from-none f v.number first_inst (suc (last - first_inst)) none i ge (omega (arith, some, end, lt))))

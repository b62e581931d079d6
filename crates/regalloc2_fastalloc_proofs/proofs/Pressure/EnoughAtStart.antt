-- Which registers are available when an instruction begins, and when an instruction's fixed registers and clobbers are held: enough, where
-- the instruction fits.
use Rattle.std.proofs.Common.{ℕ, ◌≡◌, ◌<◌, ◌≤◌, Bool, true, false, List, [], ◌∷◌, refl, sym, ap, ◌∙◌, subst, inl, inr, arith, eq-eqb}
use Rattle.std.specs.Prelude.{◌&&◌, ◌||◌, nat_eq, nat_lt, count_by, if◌then◌else◌, is_none, Option, None, slice_index_or}
use Rattle.std.proofs.lemmas.Bool.{cases_Bool, lt-ltb, ltb-true, and_parts, and_from}
use Rattle.regalloc2_names.specs.declared.OperandConstraint.{OperandConstraint}
use Rattle.regalloc2_names.specs.declared.OperandConstraint.TheVariants.{FixedReg}
use Rattle.regalloc2_names.specs.declared.RegClass.{RegClass}
use Rattle.regalloc2_names.specs.Register.{Register, class_code, has_register}
use Rattle.regalloc2_names.specs.Operand.{OperandValue}
use Rattle.regalloc2_names.specs.Place.{Place, NoPlace}
use Rattle.regalloc2_function.specs.FunctionValue.{FunctionValue, InstValue, no_operand, op_at}
use Rattle.regalloc2_function.specs.Machine.{MachineValue, is_allocatable, scratch_of, IsFixedStackSlot, count_below, register_number}
use Rattle.regalloc2_semantics.specs.Fits.{Fits, is_fixed_to}
use Rattle.regalloc2_function.specs.Fitting.{MachineFits, NamesClass}
use Rattle.regalloc2_semantics.proofs.Soundness.{count_at}
use Rattle.regalloc2_fastalloc_state.specs.declared.inst_regs.InstRegs.{InstRegs}
use Rattle.regalloc2_fastalloc_state.specs.StateParts.{needs_scratch_reserve}
use Rattle.regalloc2_fastalloc_state.specs.InstRegs.{is_free, is_free_throughout, free_count}
use Rattle.regalloc2_fastalloc_state.proofs.CountingLaws.{count_some, some_count}
use Rattle.regalloc2_fastalloc_proofs.specs.InstSteps.{StateValue, ReservesRegs, RemovesClobbers, IsFixedIn, scratch_reserve_left}
use Rattle.regalloc2_fastalloc_proofs.specs.Pressure.EnoughRegs.{HasEnoughRegs, waiting, none_needed}
use Rattle.regalloc2_fastalloc_proofs.proofs.Pressure.TablesHaveAllRegs.{HasAll}
use Rattle.regalloc2_fastalloc_proofs.proofs.Pressure.WaitingOperands.{is_taken_first, fits_enough, all_wait}

-- all registers of the machine are free, and none was taken for moves
pub record StartsFree (inst_regs : InstRegs) (t : StateValue) : Type 0 where
  pub early : (r : Register) → has_register inst_regs.early r ≡ (has_register t.allocatable r || has_register t.fixed_stack r)
  pub late : (r : Register) → has_register inst_regs.late r ≡ (has_register t.allocatable r || has_register t.fixed_stack r)
  pub scratch : inst_regs.scratch ≡ None ∷ None ∷ None ∷ []

starts_free : (inst_regs : InstRegs) (t : StateValue) → StartsFree inst_regs t → (r : Register) → has_register t.allocatable r ≡ true
    → is_free_throughout inst_regs r ≡ true
starts_free inst_regs t s r h = and_from (has_register inst_regs.early r) (has_register inst_regs.late r) (s.early r ∙ first h) (s.late r ∙ first h)
  where
    first : has_register t.allocatable r ≡ true → (has_register t.allocatable r || has_register t.fixed_stack r) ≡ true
    first e = rw e refl

-- at most one register is reserved for stack-to-stack moves
spare_small : (t : StateValue) (inst_regs : InstRegs) (c : RegClass) → scratch_reserve_left t.fixed_stack t.dedicated_scratch inst_regs c ≤ 1
spare_small t inst_regs c = by_test (needs_scratch_reserve t.fixed_stack t.dedicated_scratch c && is_none
    (slice_index_or inst_regs.scratch (class_code c) None))
  where
    by_test : (b : Bool) → (if b then 1 else 0) ≤ 1
    by_test true = omega arith
    by_test false = omega arith

-- a named class has its reserved scratch register at the start
pub fresh_ample : (f : FunctionValue) (env : MachineValue) → MachineFits f env → (inst_regs : InstRegs) (t : StateValue) → HasAll env t →
    StartsFree inst_regs t → HasEnoughRegs (NamesClass f) none_needed inst_regs t
fresh_ample f env fits inst_regs t all s c named =
    let r = (fits c).has_a_register named in
    let q : Register = r.0 in
    let same : q.class ≡ c = (fits c).of_class q r.1 in
    let there : has_register t.allocatable q ≡ true = all.allocatable q (subst (λ k. is_allocatable env k q ≡ true) (sym same) r.1) in
    let free : is_free t.allocatable inst_regs q ≡ true = and_from (has_register t.allocatable q) (is_free_throughout inst_regs q) there
    (starts_free inst_regs t s q there) in
    let some : 0 < free_count t.allocatable inst_regs q.class = some_count (λ n. is_free t.allocatable inst_regs (register_number q.class n)) 64 q.number
    (all.fit.small q (inl there)) free in
    let here : 0 < free_count t.allocatable inst_regs c = subst (λ (k : RegClass). 0 < free_count t.allocatable inst_regs k) same some in
    let one = spare_small t inst_regs c in
    omega (arith, here, one)

-- one more register where the class has fixed stack slots and no dedicated scratch register
abbrev spare_of : MachineValue → RegClass → ℕ
spare_of env class = if nat_lt 0 (count_by (λ r. nat_eq (class_code r.class) (class_code class)) env.fixed_stack_slots)
    && is_none (scratch_of env class) then 1 else 0

-- the registers reserved for moves are no more than the instruction must leave for them
spare_below : (env : MachineValue) (inst_regs : InstRegs) (t : StateValue) (c : RegClass) → HasAll env t
    → scratch_reserve_left t.fixed_stack t.dedicated_scratch inst_regs c ≤ spare_of env c
spare_below env inst_regs t c all = by_test in_tables in_machine (is_none (slice_index_or t.dedicated_scratch (class_code c) None)) (is_none (scratch_of env c))
    (is_none (slice_index_or inst_regs.scratch (class_code c) None)) there same
  where
    in_tables : Bool
    in_tables = nat_lt 0 (count_below (λ n. has_register t.fixed_stack (register_number c n)) 64)

    in_machine : Bool
    in_machine = nat_lt 0 (count_by (λ r. nat_eq (class_code r.class) (class_code c)) env.fixed_stack_slots)

    same : is_none (slice_index_or t.dedicated_scratch (class_code c) None) ≡ is_none (scratch_of env c)
    same = ap (λ (l : List (Option Register)). is_none (slice_index_or l (class_code c) None)) all.dedicated_scratch

    there : in_tables ≡ true → in_machine ≡ true
    there h =
        let n = count_some (λ n. has_register t.fixed_stack (register_number c n)) 64
        (ltb-true 0 (count_below (λ n. has_register t.fixed_stack (register_number c n)) 64) h) in
        let is : IsFixedStackSlot env (register_number c n.0) = all.machine.fixed_stack (register_number c n.0) n.2 in
        let at = count_at (λ (r : Register). nat_eq (class_code r.class) (class_code c)) env.fixed_stack_slots is.0 (register_number c n.0) is.1
        (ap (λ (r : Register). nat_eq (class_code r.class) (class_code c)) is.2 ∙ eq-eqb (class_code c) (class_code c) refl) in
        lt-ltb 0 (count_by (λ r. nat_eq (class_code r.class) (class_code c)) env.fixed_stack_slots) (omega (arith, at))

    by_test : (a b d e s : Bool) → (a ≡ true → b ≡ true) → d ≡ e → (if (a && d) && s then 1 else 0) ≤ (if b && e then 1 else 0)
    by_test true b d e s h q = rw (h refl, q) (by_two e s)
      where
        by_two : (x y : Bool) → (if x && y then 1 else 0) ≤ (if x then 1 else 0)
        by_two true true = omega arith
        by_two true false = omega arith
        by_two false y = omega arith
    by_test false b d e s h q = omega arith

-- a register that an operand is fixed to is one that the instruction needs
fixed_to_itself : (c : OperandConstraint) (r : Register) → c ≡ FixedReg r → is_fixed_to r c ≡ true
fixed_to_itself c r e = ap (is_fixed_to r) e ∙ rw (eq-eqb (class_code r.class) (class_code r.class) refl, eq-eqb r.number r.number refl) refl

not_taken : (a b c : Bool) → a ≡ true → (a && (b || c)) ≡ false → (b ≡ false) × (c ≡ false)
not_taken true true c e h = absurd cc
not_taken true false true e h = absurd cc
not_taken true false false e h = (refl, refl)
not_taken false b c e h = absurd cc

module _ (f : FunctionValue) (env : MachineValue) (inst : InstValue) (fits : Fits f env inst) (old : StateValue) (all : HasAll env old)
    (began reserved held : InstRegs) (s : StartsFree began old)
    (reserves : ReservesRegs inst.operands began reserved old) (holds : RemovesClobbers inst.clobbers reserved held) where
  -- a register that is neither fixed nor clobbered is free still
  left_free : (c : RegClass) (n : ℕ) → n < 64 → is_allocatable env c (register_number c n) ≡ true → is_taken_first env c inst n ≡ false →
      is_free old.allocatable held (register_number c n) ≡ true
  left_free c n lt ok none = and_from (has_register old.allocatable r) (is_free_throughout held r) there
      (and_from (has_register held.early r) (has_register held.late r) (holds.early r ∙ ready.0) (holds.late r ∙ rw (other.0, ready.1) refl))
    where
      r : Register
      r = register_number c n

      there : has_register old.allocatable r ≡ true
      there = all.allocatable r ok

      other : (has_register inst.clobbers r ≡ false) × (nat_lt 0 (count_by (λ o. is_fixed_to r o.constraint) inst.operands) ≡ false)
      other = not_taken (is_allocatable env c r) (has_register inst.clobbers r) (nat_lt 0 (count_by (λ o. is_fixed_to r o.constraint) inst.operands)) ok none

      no_fixed : IsFixedIn inst.operands r → ⊥
      no_fixed at =
          let some = count_at (λ (o : OperandValue). is_fixed_to r o.constraint) inst.operands at.0 no_operand at.1
          (fixed_to_itself (op_at inst.operands at.0).constraint r at.2) in
          let yes_fixed : nat_lt 0 (count_by (λ o. is_fixed_to r o.constraint) inst.operands) ≡ true = lt-ltb 0
          (count_by (λ o. is_fixed_to r o.constraint) inst.operands) (omega (arith, some)) in
          let none_fixed = other.1 in cc

      ready : (has_register reserved.early r ≡ true) × (has_register reserved.late r ≡ true)
      ready = elim (cases_Bool (is_free_throughout reserved r)) [
        | inl free ↦ and_parts (has_register reserved.early r) (has_register reserved.late r) free
        | inr gone ↦ absurd (no_fixed (reserves.only r (starts_free began old s r there) gone))
      ]

  -- enough registers are free for all operands that wait
  pub held_ample : (blank : List Place) → ((k : ℕ) → slice_index_or blank k NoPlace ≡ NoPlace)
      → HasEnoughRegs (NamesClass f) (waiting inst.operands blank) held old
  held_ample blank none c named =
      let enough = fits.enough c named in
      let scratch_reserve = spare_below env held old c all in
      let left = fits_enough env c inst (λ n. is_free old.allocatable held (register_number c n))
      (scratch_reserve_left old.fixed_stack old.dedicated_scratch held c) (left_free c) (omega (arith, enough, scratch_reserve)) in
      let waits = all_wait inst.operands blank c none in
      omega (arith, left, waits)

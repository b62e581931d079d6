-- An instruction that fits claims its registers: each is the machine's, and no two are one where they share a position.
use Rattle.std.proofs.Common.{ℕ, ◌≡◌, ◌≢◌, ◌<◌, Bool, true, false, List, length, sym, ap, ◌∙◌, inl, inr, ◌⊎◌, arith}
use Rattle.std.specs.Prelude.{not, ◌&&◌, ◌||◌}
use Rattle.std.proofs.lemmas.Bool.{cases_eq, or_from, both_ways, or_left, or_right, cases_lt}
use Rattle.regalloc2_names.specs.declared.OperandConstraint.TheVariants.{FixedReg, Reuse}
use Rattle.regalloc2_names.specs.Register.{Register, VirtualRegister, has_register}
use Rattle.regalloc2_names.specs.Operand.{OperandValue, is_def, is_late, is_fixed_nonallocatable}
use Rattle.regalloc2_function.specs.FunctionValue.{FunctionValue, InstValue, op_at}
use Rattle.regalloc2_function.specs.Machine.{MachineValue, is_allocatable, IsFixedStackSlot}
use Rattle.regalloc2_semantics.specs.Fits.{Fits, TakesEarly, TakesLate}
use Rattle.regalloc2_carry.proofs.Operands.{reads_use}
use Rattle.regalloc2_fastalloc_state.specs.declared.positions.Positions.{Positions}
use Rattle.regalloc2_fastalloc_state.specs.Positions.{positions_of}
use Rattle.regalloc2_fastalloc_proofs.specs.InstSteps.{StateValue, NeedsFixedReg, own, named, RegsAreNotReserved, unknown, shared}
use Rattle.regalloc2_fastalloc_proofs.proofs.Operands.AllocsSoFar.{AreSoundOperands, reads_allocated}
use Rattle.regalloc2_fastalloc_proofs.proofs.BlockEnd.NoMoveInPasses.{overlap_cases}
use Rattle.regalloc2_fastalloc_proofs.proofs.Pressure.TablesHaveAllRegs.{HasAll}

-- an operand that claims its register early takes the early position, and one that claims it late the late position
takes_early : (o : OperandValue) → (positions_of o).early ≡ true → TakesEarly o
takes_early o h e = absurd (by_test (is_def o.kind) (is_late o.position) h e)
  where
    by_test : (a b : Bool) → (not a || not b) ≡ true → (a && b) ≡ true → ⊥
    by_test true true h e = cc
    by_test true false h e = cc
    by_test false b h e = cc

takes_late : (i : InstValue) (k : ℕ) (o : OperandValue) → (positions_of o).late ≡ true → TakesLate i k o
takes_late i k o h e = absurd (by_test (is_def o.kind) (is_late o.position) h e)
  where
    by_test : (a b : Bool) → (a || b) ≡ true → (not a && not b) ≡ true → ⊥
    by_test true b h e = cc
    by_test false true h e = cc
    by_test false false h e = cc

either_false : (a b : Bool) → (a ≡ true) ⊎ (b ≡ true) → (a || b) ≡ false → ⊥
either_false a b (inl e) h = both_ways (a || b) h (or_left a b e)
either_false a b (inr e) h = both_ways (a || b) h (or_right a b e)

module _ (f : FunctionValue) (env : MachineValue) (inst : InstValue) (fits : Fits f env inst) (Known : VirtualRegister → Type 0)
    (sound_ops : AreSoundOperands Known inst.operands) where
  abbrev ops : List OperandValue
  ops = inst.operands

  -- an operand that is fixed to a register, and holds it at positions
  record ClaimAt (m : ℕ) (r : Register) (p : Positions) : Type 0 where
    within : m < length ops
    allocated : is_fixed_nonallocatable (op_at ops m) ≡ false
    is_fixed : (op_at ops m).constraint ≡ FixedReg r
    early : p.early ≡ true → TakesEarly (op_at ops m)
    late : p.late ≡ true → TakesLate inst m (op_at ops m)

  own_at : (k : ℕ) (r : Register) (p : Positions) → k < length ops → is_fixed_nonallocatable (op_at ops k) ≡ false → (op_at ops k).constraint ≡ FixedReg r →
      p ≡ positions_of (op_at ops k) → ClaimAt k r p
  own_at k r p lt allocated is at = record {
    within = lt;
    allocated = allocated;
    is_fixed = is;
    early = λ e. takes_early (op_at ops k) (ap (λ (q : Positions). q.early) (sym at) ∙ e);
    late = λ e. takes_late inst k (op_at ops k) (ap (λ (q : Positions). q.late) (sym at) ∙ e);
  }

  -- a reuse claims the register of the use that it names at the late position
  named_at : (k n : ℕ) (r : Register) (p : Positions) → k < length ops → (op_at ops k).constraint ≡ Reuse n → n < length ops →
      (op_at ops n).constraint ≡ FixedReg r → p ≡ record { early = false; late = true } → ClaimAt n r p
  named_at k n r p lt reuses within is at = record {
    within = within;
    allocated = reads_allocated (op_at ops n) (sound_ops.named k n lt reuses).2;
    is_fixed = is;
    early = λ e. (let x : false ≡ true = ap (λ (q : Positions). q.early) (sym at) ∙ e in absurd cc);
    late = λ e x. (k, lt, reuses);
  }

  -- each claimed register is the machine's
  claim_known : (m : ℕ) (r : Register) (p : Positions) → ClaimAt m r p → (is_allocatable env r.class r ≡ true) ⊎ IsFixedStackSlot env r
  claim_known m r p c = fits.fixed m c.within c.allocated r c.is_fixed

  known : (k : ℕ) (r : Register) (p : Positions) → k < length ops → NeedsFixedReg ops k r p → (is_allocatable env r.class r ≡ true) ⊎ IsFixedStackSlot env r
  known k r p lt (own allocated is at) = claim_known k r p (own_at k r p lt allocated is at)
  known k r p lt (named n reuses within is at) = claim_known n r p (named_at k n r p lt reuses within is at)

  -- no two claims share a register at a position
  apart_in_order : (m n : ℕ) (r : Register) (p q : Positions) → m < n → ClaimAt m r p → ClaimAt n r q → ((p.early ≡ true) × (q.early ≡ true))
      ⊎ ((p.late ≡ true) × (q.late ≡ true)) → ⊥
  apart_in_order m n r p q less a b both = (let x = fits.apart m n r less b.within a.allocated b.allocated a.is_fixed b.is_fixed in
      elim both [
        | inl e ↦ x.0 (a.early e.0, b.early e.1)
        | inr l ↦ x.1 (a.late l.0, b.late l.1)
      ])

  swapped : (p q : Positions) → ((p.early ≡ true) × (q.early ≡ true)) ⊎ ((p.late ≡ true) × (q.late ≡ true)) → ((q.early ≡ true) × (p.early ≡ true))
      ⊎ ((q.late ≡ true) × (p.late ≡ true))
  swapped p q (inl e) = inl (e.1, e.0)
  swapped p q (inr l) = inr (l.1, l.0)

  apart_claims : (m n : ℕ) (r : Register) (p q : Positions) → m ≢ n → ClaimAt m r p → ClaimAt n r q → ((p.early ≡ true) × (q.early ≡ true))
      ⊎ ((p.late ≡ true) × (q.late ≡ true)) → ⊥
  apart_claims m n r p q ne a b both = elim (cases_lt m n) [
    | inl less ↦ apart_in_order m n r p q less a b both
    | inr le ↦ apart_in_order n m r q p (omega (arith, le, ne)) b a (swapped p q both)
  ]

  -- an early use holds no register at the late position
  early_use : (k n : ℕ) → k < length ops → (op_at ops k).constraint ≡ Reuse n → (positions_of (op_at ops n)).late ≡ true → ⊥
  early_use k n lt reuses h = both_ways (positions_of (op_at ops n)).late (or_from (is_def (op_at ops n).kind) (is_late (op_at ops n).position)
      (reads_use (op_at ops n) (sound_ops.named k n lt reuses).2) (sound_ops.named k n lt reuses).1) h

  -- a reuse shares the late position alone
  late_of_shared : (p q : Positions) → q ≡ record { early = false; late = true } → ((p.early ≡ true) × (q.early ≡ true)) ⊎ ((p.late ≡ true) × (q.late ≡ true)) →
      p.late ≡ true
  late_of_shared p q e (inl x) = (let y : false ≡ true = ap (λ (z : Positions). z.early) (sym e) ∙ x.1 in absurd cc)
  late_of_shared p q e (inr x) = x.0

  never_shared : (j k : ℕ) (r : Register) (p q : Positions) → j < k → k < length ops → NeedsFixedReg ops j r p → NeedsFixedReg ops k r q →
      ((p.early ≡ true) × (q.early ≡ true)) ⊎ ((p.late ≡ true) × (q.late ≡ true)) → ⊥
  never_shared j k r p q less lt (own a is at) (own b it there) both = apart_claims j k r p q (λ e. omega (arith, e, less))
      (own_at j r p (omega (arith, less, lt)) a is at) (own_at k r q lt b it there) both
  never_shared j k r p q less lt (own a is at) (named n reuses within it there) both = elim (cases_eq j n) [
    | inl e ↦ early_use k n lt reuses (ap (λ (m : ℕ). (positions_of (op_at ops m)).late) (sym e) ∙ ap (λ (z : Positions). z.late) (sym at)
        ∙ late_of_shared p q there both)
    | inr ne ↦ apart_claims j n r p q ne (own_at j r p (omega (arith, less, lt)) a is at) (named_at k n r q lt reuses within it there) both
  ]
  never_shared j k r p q less lt (named m reuses within is at) (own b it there) both = elim (cases_eq k m) [
    | inl e ↦ early_use j m (omega (arith, less, lt)) reuses (ap (λ (x : ℕ). (positions_of (op_at ops x)).late) (sym e)
        ∙ ap (λ (z : Positions). z.late) (sym there) ∙ late_of_shared q p at (swapped p q both))
    | inr ne ↦ apart_claims m k r p q (λ e. ne (sym e)) (named_at j m r p (omega (arith, less, lt)) reuses within is at) (own_at k r q lt b it there) both
  ]
  never_shared j k r p q less lt (named m reuses within is at) (named n too inside it there) both = elim (cases_eq m n) [
    | inl e ↦ (let same : j ≡ k = sound_ops.apart j k n (omega (arith, less, lt)) lt (reuses ∙ ap Reuse e) too in omega (arith, same, less))
    | inr ne ↦ apart_claims m n r p q ne (named_at j m r p (omega (arith, less, lt)) reuses within is at) (named_at k n r q lt too inside it there) both
  ]

  -- an instruction that fits the machine reserves its registers: each is the machine's, and none is shared at a
  -- position
  pub never_reserve_regs : (old : StateValue) → HasAll env old → RegsAreNotReserved ops old → ⊥
  never_reserve_regs old all (unknown k r p lt claims none) = either_false (has_register old.allocatable r) (has_register old.fixed_stack r)
      (elim (known k r p lt claims) [
        | inl a ↦ inl (all.allocatable r a)
        | inr s ↦ inr (all.machine.memory r s)
      ]) none
  never_reserve_regs old all (shared j k r p q less lt a b both) = never_shared j k r p q less lt a b (overlap_cases p q both)

-- Either the registers to which definitions are fixed are the machine's, for all instructions, or some instruction
-- doesn't fit.
use Rattle.std.proofs.Common.{ℕ, zero, suc, ◌≡◌, ◌<◌, ◌⊎◌, Bool, true, false, length, refl, sym, ◌∙◌, subst, inl, inr, arith}
use Rattle.std.specs.Prelude.{Option, None, Some}
use Rattle.std.proofs.lemmas.Bool.{cases_Bool}
use Rattle.regalloc2_names.specs.Register.{Register, VirtualRegister, has_register}
use Rattle.regalloc2_names.specs.Operand.{is_def}
use Rattle.regalloc2_function.specs.FunctionValue.{FunctionValue, inst_at, op_at}
use Rattle.regalloc2_function.specs.Machine.{MachineValue, is_allocatable}
use Rattle.regalloc2_semantics.specs.Fits.{Fits}
use Rattle.regalloc2_analysis.specs.BranchDefs.BranchDefs.{fixed_definition}
use Rattle.regalloc2_fastalloc_proofs.specs.InstSteps.{StateValue}
use Rattle.regalloc2_fastalloc_proofs.specs.Safety.{HasMachine, IsOfMachine}
use Rattle.regalloc2_fastalloc_proofs.proofs.Operands.AllocsSoFar.{AreSoundOperands}
use Rattle.regalloc2_fastalloc_proofs.proofs.Safety.WalkKeepsMachine.{constraint_fixed}

-- either all numbers below a bound satisfy P, or one satisfies Q
all_or_one : (P Q : ℕ → Type 0) (n : ℕ) → ((i : ℕ) → i < n → P i ⊎ Q i) → ((i : ℕ) → i < n → P i) ⊎ ((i : ℕ) × (i < n) × Q i)
all_or_one P Q zero each = inl (λ i lt. absurd (omega (arith, lt)))
all_or_one P Q (suc n) each = elim (all_or_one P Q n (λ i lt. each i (omega (arith, lt)))) [
  | inr one ↦ inr (one.0, (let lt = one.1 in omega (arith, lt)), one.2)
  | inl all ↦ elim (each n (omega arith)) [
    | inr q ↦ inr (n, omega arith, q)
    | inl p ↦ inl (λ i lt. elim (cases_last i n lt) [ inl less ↦ all i less | inr same ↦ subst P (sym same) p ])
  ]
]
  where
    cases_last : (i n : ℕ) → i < suc n → (i < n) ⊎ (i ≡ n)
    cases_last i n h = grind (arith, h)

-- the registers to which an instruction's definitions are fixed are the machine's
abbrev pub FixedKnown : MachineValue → FunctionValue → ℕ → Type 0
FixedKnown env f i = (j : ℕ) → j < length (inst_at f i).operands → is_def (op_at (inst_at f i).operands j).kind ≡ true → (r : Register) →
    fixed_definition (op_at (inst_at f i).operands j) ≡ Some r → IsOfMachine env r

module _ (env : MachineValue) (f : FunctionValue) (Known : VirtualRegister → Type 0) (old : StateValue) (machine : HasMachine env old) where
  one_known : (i : ℕ) → AreSoundOperands Known (inst_at f i).operands → (j : ℕ) → j < length (inst_at f i).operands → (d : Bool) →
      is_def (op_at (inst_at f i).operands j).kind ≡ d → (g : Option Register) → fixed_definition (op_at (inst_at f i).operands j) ≡ g →
      (is_def (op_at (inst_at f i).operands j).kind ≡ true → (r : Register) → fixed_definition (op_at (inst_at f i).operands j) ≡ Some r → IsOfMachine env r)
      ⊎ (Fits f env (inst_at f i) → ⊥)
  one_known i sound_ops j lt false def g is = inl (λ e r h. absurd (let z : true ≡ false = sym e ∙ def in cc))
  one_known i sound_ops j lt true def None is = inl (λ e r h. absurd (let z : None ≡ Some r = sym is ∙ h in cc))
  one_known i sound_ops j lt true def (Some g) is = elim (cases_Bool (is_allocatable env g.class g)) [
    | inl regs ↦ inl (λ e r h. (let same : g ≡ r = some_same g r (sym is ∙ h) in subst (IsOfMachine env) same (inl regs)))
    | inr no_reg ↦ elim (cases_Bool (has_register old.fixed_stack g)) [
      | inl stack ↦ inl (λ e r h. (let same : g ≡ r = some_same g r (sym is ∙ h) in subst (IsOfMachine env) same (inr (machine.fixed_stack g stack))))
      | inr no_stack ↦ inr (λ fits. elim (fits.fixed j lt (sound_ops.allocated j lt def) g (constraint_fixed (op_at (inst_at f i).operands j) def g is)) [
        | inl there ↦ (let z : true ≡ false = sym there ∙ no_reg in cc)
        | inr slot ↦ (let z : true ≡ false = sym (machine.memory g slot) ∙ no_stack in cc)
      ])
    ]
  ]
    where
      some_same : (a b : Register) → Some a ≡ Some b → a ≡ b
      some_same a b e = cc

  inst_known : (i : ℕ) → AreSoundOperands Known (inst_at f i).operands → FixedKnown env f i ⊎ (Fits f env (inst_at f i) → ⊥)
  inst_known i sound_ops = elim (all_or_one (λ j. is_def (op_at (inst_at f i).operands j).kind ≡ true → (r : Register) →
      fixed_definition (op_at (inst_at f i).operands j) ≡ Some r → IsOfMachine env r) (λ j. Fits f env (inst_at f i) → ⊥) (length (inst_at f i).operands)
      (λ j lt. one_known i sound_ops j lt (is_def (op_at (inst_at f i).operands j).kind) refl (fixed_definition (op_at (inst_at f i).operands j)) refl)) [
        | inl all ↦ inl all
        | inr one ↦ inr one.2
      ]

  -- the fixed registers of all instructions are the machine's, or one instruction doesn't fit
  pub all_known_or : ((i : ℕ) → i < length f.insts → AreSoundOperands Known (inst_at f i).operands) → ((i : ℕ) → i < length f.insts → FixedKnown env f i)
      ⊎ ((i : ℕ) × (i < length f.insts) × (Fits f env (inst_at f i) → ⊥))
  all_known_or sound_ops = all_or_one (FixedKnown env f) (λ i. Fits f env (inst_at f i) → ⊥) (length f.insts) (λ i lt. inst_known i (sound_ops i lt))

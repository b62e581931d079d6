-- Machines that fit a function (`MachineFits`).
-- What upstream's `MachineEnv` and allocators take for granted of machines.
use Rattle.std.specs.Prelude.{ℕ, ◌≡◌, ◌≢◌, ◌<◌, ◌≤◌, ◌⊎◌, true, false, [], All, Any as SomeIn, length, slice_index_or, Some}
use Rattle.regalloc2_names.specs.declared.RegClass.{RegClass}
use Rattle.regalloc2_names.specs.Register.{Register, has_register, invalid_register}
use Rattle.regalloc2_names.specs.Operand.{is_fixed_nonallocatable}
use Rattle.regalloc2_function.specs.FunctionValue.{FunctionValue, block_at, inst_at}
use Rattle.regalloc2_function.specs.Machine.{MachineValue, is_allocatable, set_of, scratch_of}

-- an operand names a vreg of the class, or a parameter does, or an argument of a block that is nonempty and within the
-- instructions
abbrev pub NamesClass : FunctionValue → RegClass → Type 0
NamesClass f class =
    ((i : ℕ) × (i < length f.insts) × SomeIn (λ o. (is_fixed_nonallocatable o ≡ false) × (o.vreg.class ≡ class)) (inst_at f i).operands)
    ⊎ ((b : ℕ) × (b < length f.blocks) × (SomeIn (λ v. v.class ≡ class) (block_at f b).params
    ⊎ ((k : ℕ) × ((block_at f b).range.first < (block_at f b).range.end) × ((block_at f b).range.end ≤ length f.insts)
    × (k < length (block_at f b).succs) × SomeIn (λ v. v.class ≡ class) (slice_index_or (block_at f b).arguments k []))))

-- the registers that are listed for a class are of that class, and none is both preferred and non-preferred
abbrev pub AreOfClass : MachineValue → RegClass → Type 0
AreOfClass env class = (r : Register) → is_allocatable env class r ≡ true → r.class ≡ class

abbrev pub AreListedOnce : MachineValue → RegClass → Type 0
AreListedOnce env class = (r : Register) → has_register (set_of env.preferred class) r ≡ true → has_register (set_of env.non_preferred class) r ≡ false

-- the scratch register of a class, if there is one, is of that class, not allocatable, and valid
abbrev pub IsScratchSound : MachineValue → RegClass → Type 0
IsScratchSound env class = (r : Register) → scratch_of env class ≡ Some r → (r.class ≡ class) × (is_allocatable env class r ≡ false) × (r ≢ invalid_register)

-- For a class: its registers, preferred, non-preferred and scratch, are of that class, apart and valid; no fixed stack slot is one of them
-- or invalid; and there is a register to allocate if the function names a vreg of the class.
pub record ClassFits (f : FunctionValue) (env : MachineValue) (class : RegClass) : Type 0 where
  pub of_class : AreOfClass env class
  pub listed_once : AreListedOnce env class
  pub valid : is_allocatable env class invalid_register ≡ false
  pub scratch : IsScratchSound env class
  pub slots_apart : All (λ r. (is_allocatable env class r ≡ false) × (scratch_of env class ≢ Some r) × (r ≢ invalid_register)) env.fixed_stack_slots
  pub has_a_register : NamesClass f class → (r : Register) × (is_allocatable env class r ≡ true)

-- the machine fits the function
abbrev pub MachineFits : FunctionValue → MachineValue → Type 0
MachineFits f env = (class : RegClass) → ClassFits f env class

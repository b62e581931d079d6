-- The machine's registers, as the allocator's `MachineEnv`.
use Rattle.std.specs.Prelude.{ℕ, ◌≡◌, true, [], None}
use Rattle.regalloc2_names.specs.Register.{Register}
use Rattle.regalloc2_names.specs.declared.RegClass.{RegClass}
use Rattle.regalloc2_names.specs.declared.RegClass.TheVariants.{Int}
use Rattle.regalloc2_function.specs.Machine.{MachineValue, is_allocatable, scratch_of}
use Rattle.codegen_emit.specs.Pinned.{is_allocated}

-- a machine whose registers are exactly the caller-saved ones that hold numbers, none of them one that a slot is kept in, without a dedicated scratch register or fixed stack slots
pub record IsTarget (env : MachineValue) : Type 0 where
  pub all : (n : ℕ) → is_allocated n ≡ true → is_allocatable env Int (record { number = n; class = Int }) ≡ true
  pub allocatable : (class : RegClass) (r : Register) → is_allocatable env class r ≡ true → (r.class ≡ Int) × (is_allocated r.number ≡ true)
  pub no_scratch : (class : RegClass) → scratch_of env class ≡ None
  pub no_fixed_slots : env.fixed_stack_slots ≡ []

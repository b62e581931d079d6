-- The registers of a machine, as contracts see them.
-- Its parts are the fields of upstream's `MachineEnv`.
use Rattle.std.specs.Prelude.{Bool, ◌||◌, List, Contains, Option, None, slice_index_or, ℕ, zero, suc, ◌+◌, if◌then◌else◌}
use Rattle.regalloc2_names.specs.declared.RegClass.{RegClass}
use Rattle.regalloc2_names.specs.declared.sets.PRegSet.{PRegSet}
use Rattle.regalloc2_names.specs.Register.{Register, class_code, empty_set, has_register}
use Rattle.regalloc2_names.specs.Place.{Place, NoPlace, InRegister, InSlot}

-- a machine; the lists by class have three members
pub record MachineValue : Type 0 where
  pub preferred : List PRegSet
  pub non_preferred : List PRegSet
  pub scratch : List (Option Register)
  pub fixed_stack_slots : List Register

-- the set of a class
abbrev pub set_of : List PRegSet → RegClass → PRegSet
set_of sets class = slice_index_or sets (class_code class) empty_set

-- whether a register may be allocated to vregs of a class
abbrev pub is_allocatable : MachineValue → RegClass → Register → Bool
is_allocatable env class r =
    has_register (slice_index_or env.preferred (class_code class) empty_set) r || has_register (slice_index_or env.non_preferred (class_code class) empty_set) r

-- the dedicated scratch register of a class
abbrev pub scratch_of : MachineValue → RegClass → Option Register
scratch_of env class = slice_index_or env.scratch (class_code class) None

-- whether a register names a fixed stack slot
abbrev pub IsFixedStackSlot : MachineValue → Register → Type 0
IsFixedStackSlot env r = Contains env.fixed_stack_slots r

-- a stack place
abbrev pub IsStackPlace : MachineValue → Place → Type 0
IsStackPlace env NoPlace = ⊥
IsStackPlace env (InRegister r) = IsFixedStackSlot env r
IsStackPlace env (InSlot n) = Unit {0}

-- a register that is no stack place
abbrev pub IsPlainRegister : MachineValue → Place → Type 0
IsPlainRegister env NoPlace = ⊥
IsPlainRegister env (InRegister r) = IsFixedStackSlot env r → ⊥
IsPlainRegister env (InSlot n) = ⊥

-- how many numbers below a count pass
unfoldable pub count_below : (ℕ → Bool) → ℕ → ℕ
count_below p zero = 0
count_below p (suc n) = (if p n then 1 else 0) + count_below p n

-- how many registers may be allocated to vregs of a class
unfoldable pub allocatable_count : MachineValue → RegClass → ℕ
allocatable_count env class = count_below (λ n. is_allocatable env class (record { number = n; class = class })) 64

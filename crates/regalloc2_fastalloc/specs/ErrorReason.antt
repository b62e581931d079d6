-- Why `run` returns an error: the first test that fails, and the first place where it does. The tests are in
-- regalloc2_function/specs: `WellFormed`, and `Reasons` for the first failure.
use Rattle.std.specs.Prelude.{ℕ, ◌≡◌, ◌<◌, ◌≤◌, ◌^◌, ◌⊎◌, Bool, true, length}
use Rattle.regalloc2_names.specs.declared.RegAllocError.{RegAllocError}
use Rattle.regalloc2_names.specs.declared.RegAllocError.TheVariants.{CritEdge, SSA, BB, Branch, EntryLivein, DisallowedBranchArg, TooManyLiveRegs}
use Rattle.regalloc2_names.specs.declared.RegAllocError.TheVariants.{TooManyOperands, Unsupported, TooManySpillSlots, Memory}
use Rattle.regalloc2_function.specs.FunctionValue.{FunctionValue, inst_at, operand_count}
use Rattle.regalloc2_semantics.specs.Fits.{Fits}
use Rattle.regalloc2_function.specs.Machine.{MachineValue}
use Rattle.regalloc2_function.specs.WellFormed.{IsWellFormed, AreUnlimited, BranchDefinesInPlace}
use Rattle.regalloc2_function.specs.Reasons.{IsFirst, IsFunctionFault}
use Rattle.regalloc2_semantics.specs.Places.{units_at_most}

-- The tests that `run` makes, in this order. The first needs no memory; the second is made if `validate_ssa` is true.
pub record PassesAllChecks (f : FunctionValue) (env : MachineValue) (validate_ssa : Bool) : Type 0 where
  pub first : operand_count f < 2 ^ 32
  pub well_formed : validate_ssa ≡ true → IsWellFormed env f
  pub unlimited : (i : ℕ) → i < length f.insts → AreUnlimited (inst_at f i)
  pub branches : (i : ℕ) → i < length f.insts → BranchDefinesInPlace (inst_at f i)

-- the function is tested and isn't well-formed: the first test that fails, and where it fails first
abbrev pub FailsValidation : FunctionValue → MachineValue → Bool → RegAllocError → Type 0
FailsValidation f env validate_ssa e = (operand_count f < 2 ^ 32) × (validate_ssa ≡ true) × (IsWellFormed env f → ⊥) × IsFunctionFault f env e

-- The reason that an error gives. A well-formed function is refused only for too many operands, an operand or a branch
-- that the allocator rejects, a lack of registers or slots, or of memory. Not guaranteed: that `Memory` is returned
-- only if memory ran out (it says which tests pass); nor that `TooManyLiveRegs` is returned wherever an instruction
-- doesn't fit.
abbrev pub IsReason : FunctionValue → MachineValue → Bool → RegAllocError → Type 0
IsReason f env validate_ssa (CritEdge p b) = FailsValidation f env validate_ssa (CritEdge p b)
IsReason f env validate_ssa (SSA v i) = FailsValidation f env validate_ssa (SSA v i)
IsReason f env validate_ssa (BB b) = FailsValidation f env validate_ssa (BB b)
IsReason f env validate_ssa (Branch i) = FailsValidation f env validate_ssa (Branch i)
IsReason f env validate_ssa EntryLivein = FailsValidation f env validate_ssa EntryLivein
IsReason f env validate_ssa (DisallowedBranchArg i) = FailsValidation f env validate_ssa (DisallowedBranchArg i)
IsReason f env validate_ssa TooManyLiveRegs =
    PassesAllChecks f env validate_ssa × ((i : ℕ) × (i < length f.insts) × (Fits f env (inst_at f i) → ⊥))
IsReason f env validate_ssa TooManyOperands = 2 ^ 32 ≤ operand_count f
IsReason f env validate_ssa (Unsupported i) =
    FailsValidation f env validate_ssa (Unsupported i)
    ⊎ ((operand_count f < 2 ^ 32) × (validate_ssa ≡ true → IsWellFormed env f) × (IsFirst (length f.insts) (λ j. AreUnlimited (inst_at f j)) i
    ⊎ (((j : ℕ) → j < length f.insts → AreUnlimited (inst_at f j)) × IsFirst (length f.insts) (λ j. BranchDefinesInPlace (inst_at f j)) i)))
IsReason f env validate_ssa TooManySpillSlots = PassesAllChecks f env validate_ssa × (2 ^ 24 < units_at_most f)
IsReason f env validate_ssa Memory = operand_count f < 2 ^ 32

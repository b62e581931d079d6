-- What the tests of operands' constraints say, one instruction at a time.
use Rattle.std.specs.Prelude.{ℕ, ◌≡◌, ◌<◌, ◌⊎◌, true, length}
use Rattle.regalloc2_names.specs.declared.OperandConstraint.TheVariants.{Limit, Reuse}
use Rattle.regalloc2_names.specs.declared.RegAllocError.{RegAllocError}
use Rattle.regalloc2_names.specs.declared.RegAllocError.TheVariants.{Unsupported}
use Rattle.regalloc2_names.specs.Operand.{OperandValue, is_def}
use Rattle.regalloc2_function.specs.FunctionValue.{FunctionValue, inst_at}
use Rattle.regalloc2_function.specs.Machine.{MachineValue}
use Rattle.regalloc2_function.specs.WellFormed.{FixedAvoidClobbers, IsInPlace, ReusesAreSound, AreUnlimited, BranchDefinesInPlace}
use Rattle.regalloc2_function.specs.Reasons.{IsFirst}

-- an operand that isn't a reuse
abbrev pub IsNoReuse : OperandValue → Type 0
IsNoReuse o = (n : ℕ) → o.constraint ≡ Reuse n → ⊥

-- an operand without a limit
abbrev pub IsUnlimited : OperandValue → Type 0
IsUnlimited o = (n : ℕ) → o.constraint ≡ Limit n → ⊥

-- an operand that, if it is a definition, is under a constraint whose place is known before registers are chosen
abbrev pub DefinesInPlace : OperandValue → Type 0
DefinesInPlace o = is_def o.kind ≡ true → IsInPlace o.constraint

-- where the tests of reuses, and then of fixed registers, fail first
abbrev pub IsFixedFault : FunctionValue → MachineValue → RegAllocError → Type 0
IsFixedFault f env e = (i : ℕ) × (e ≡ Unsupported i) × (IsFirst (length f.insts) (λ j. ReusesAreSound env (inst_at f j)) i
    ⊎ (((j : ℕ) → j < length f.insts → ReusesAreSound env (inst_at f j))
    × IsFirst (length f.insts) (λ j. FixedAvoidClobbers (inst_at f j)) i))

-- an instruction that the allocator rejects: the first that has a `Limit`, or if none has one, the first branch that
-- defines in any register or by a reuse
abbrev pub IsUnsupported : FunctionValue → ℕ → Type 0
IsUnsupported f i =
    IsFirst (length f.insts) (λ j. AreUnlimited (inst_at f j)) i
    ⊎ (((j : ℕ) → j < length f.insts → AreUnlimited (inst_at f j)) × IsFirst (length f.insts) (λ j. BranchDefinesInPlace (inst_at f j)) i)

-- What one pass over all instructions finds, before the walk.
use Rattle.std.specs.Prelude.{ℕ, ◌≡◌, ◌<◌, ◌≤◌, ◌^◌, Bool, List, length, slice_index}
use Rattle.regalloc2_names.specs.declared.RegAllocError.{RegAllocError}
use Rattle.regalloc2_names.specs.declared.RegAllocError.TheVariants.{TooManyOperands, Memory, Unsupported}
use Rattle.regalloc2_function.specs.FunctionValue.{FunctionValue, inst_at, operand_count}
use Rattle.regalloc2_function.specs.Machine.{MachineValue}
use Rattle.regalloc2_semantics.specs.Places.{units_at_most}
use Rattle.regalloc2_analysis.specs.LiveRanges.LiveRanges.{AreLabelsMarked}
use Rattle.regalloc2_fastalloc_state.specs.OutOfResources.{Lacks}
use Rattle.regalloc2_fastalloc_proofs.specs.BlockSteps.{offset_of}
use Rattle.regalloc2_fastalloc_walk.specs.Findings.{AllPassTests}
use Rattle.regalloc2_semantics.specs.Fits.{Fits}
use Rattle.regalloc2_fastalloc_state.specs.Validate.Constraints.{IsUnsupported}

-- where each instruction's places begin, the number of operands, and the labelled vregs
pub record IsSurvey (f : FunctionValue) (offsets : List ℕ) (total : ℕ) (wanted : List Bool) : Type 0 where
  pub offsets_long : length offsets ≡ length f.insts
  pub offsets_each : (i : ℕ) → i < length f.insts → slice_index offsets i ≡ offset_of f i
  pub counted : total ≡ operand_count f
  pub few : operand_count f < 2 ^ 32
  pub marked : AreLabelsMarked f wanted

-- why the pass fails: too many operands come before memory
pub data IsSurveyError (f : FunctionValue) : RegAllocError → Type 0 where
  out_of_memory : operand_count f < 2 ^ 32 → IsSurveyError f Memory
  uncounted : 2 ^ 32 ≤ operand_count f → IsSurveyError f TooManyOperands

-- an operand test fails, at the first instruction where one does
abbrev pub IsRefusal : FunctionValue → RegAllocError → Type 0
IsRefusal f e = (i : ℕ) × (e ≡ Unsupported i) × IsUnsupported f i

-- an instruction has too few registers
abbrev pub SomeDoesNotFit : FunctionValue → MachineValue → Type 0
SomeDoesNotFit f env = (i : ℕ) × (i < length f.insts) × (Fits f env (inst_at f i) → ⊥)

-- what an allocation lacks, if all instructions pass their tests
abbrev pub LacksIfPassed : FunctionValue → MachineValue → RegAllocError → Type 0
LacksIfPassed f env e = AllPassTests f → Lacks (SomeDoesNotFit f env) (2 ^ 24 < units_at_most f) e

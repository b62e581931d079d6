-- What the program's status and its text say of the input.
use Rattle.std.specs.Prelude.{ℕ, ◌≡◌, Bool, true, false, List, ◌++◌, Option}
use Rattle.regalloc2_names.specs.declared.RegAllocError.{RegAllocError}
use Rattle.regalloc2_function.specs.FunctionValue.{FunctionValue}
use Rattle.regalloc2_function.specs.Machine.{MachineValue}
use Rattle.regalloc2_function.specs.OutputValue.{OutputValue}
use Rattle.regalloc2_semantics.specs.Faithful.{IsFaithful}
use Rattle.regalloc2_function.specs.WellFormed.{IsWellFormed}
use Rattle.regalloc2_fastalloc.specs.Guarantee.{IsAllocation}
use Rattle.regalloc2_fastalloc.specs.ErrorReason.{IsReason}
use Rattle.regalloc2_tool.specs.Listing.{listing_text}
use Rattle.regalloc2_tool.specs.Ra2.Findings.{IsOutputJudged, IsUnaccepted}
use Rattle.regalloc2_tool.specs.Ra2.Input.{AreGiven, TextNamesFitting}
use Rattle.regalloc2_tool.specs.Ra2.Text.{refusal_line, checked_line}
use Rattle.regalloc2_tool.specs.declared.ra2.task.Command.{Command}
use Rattle.regalloc2_tool.specs.declared.ra2.task.Command.TheVariants.{Allocate, Replay}
use Rattle.regalloc2_tool.specs.declared.ra2.task.Task.{Task}
use Rattle.regalloc2_tool.specs.declared.ra2.task.Task.TheVariants.{Run, Check}

-- an output for a well-formed function, with all that `run` guarantees
pub record IsWellFormedAllocation (f : FunctionValue) (env : MachineValue) (out : OutputValue) : Type 0 where
  pub well_formed : IsWellFormed env f
  pub allocation : IsAllocation f env out

-- the text written for the output: the listing; and for `Check` the output is faithful, and a line says so
abbrev pub IsAnswerWritten : Task → FunctionValue → MachineValue → OutputValue → (List ℕ → Type 0) → Type 0
IsAnswerWritten Run f env out IsWritten = IsWritten (listing_text f out)
IsAnswerWritten Check f env out IsWritten = IsFaithful f env out × IsWritten (listing_text f out ++ checked_line)

-- the task succeeds: there is an allocation, and its text is written
abbrev pub IsDone : Task → FunctionValue → MachineValue → (List ℕ → Type 0) → Type 0
IsDone task f env IsWritten = (out : OutputValue) × IsWellFormedAllocation f env out × IsAnswerWritten task f env out IsWritten

-- the task fails: the function is rejected, for a reason, and the reason's line is written; or there is an allocation
-- that the checker doesn't accept, and the listing and the checker's findings are written
pub data IsTurnedDown (A : Type 0) (task : Task) (f : FunctionValue) (env : MachineValue) (IsWritten : List ℕ → Type 0) : Type 0 where
  refused : (e : RegAllocError) → IsReason f env true e → IsWritten (refusal_line e) → IsTurnedDown A task f env IsWritten
  unaccepted : (out : OutputValue) → IsWellFormedAllocation f env out → task ≡ Check →
      IsUnaccepted A f env out (λ text. IsWritten (listing_text f out ++ text)) →
      IsTurnedDown A task f env IsWritten

-- success if accepted, else failure
abbrev pub IsOutcome : (A : Type 0) → Task → FunctionValue → MachineValue → (List ℕ → Type 0) → Bool → Type 0
IsOutcome A task f env IsWritten true = IsDone task f env IsWritten
IsOutcome A task f env IsWritten false = IsTurnedDown A task f env IsWritten

-- the outcome of a command for the function and the machine that the bytes name, and for the output if one is to be
-- checked
abbrev pub HasOutcome : (A : Type 0) → Option (List ℕ) → Command → (List ℕ → Type 0) → Bool → Type 0
HasOutcome A bytes (Allocate task) IsWritten accepted = (f : FunctionValue) × (env : MachineValue) × TextNamesFitting A bytes f env
    × IsOutcome A task f env IsWritten accepted
HasOutcome A bytes Replay IsWritten accepted = (f : FunctionValue) × (env : MachineValue) × (out : OutputValue) × AreGiven A bytes f env out
    × IsOutputJudged A f env out IsWritten accepted

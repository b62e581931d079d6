-- The checker's findings in an output that it doesn't accept, and their text.
use Rattle.std.specs.Prelude.{ℕ, Bool, true, false, codes, List, [], ◌∷◌, ◌++◌, flat_map}
use Rattle.regalloc2_function.specs.FunctionValue.{FunctionValue}
use Rattle.regalloc2_function.specs.Machine.{MachineValue}
use Rattle.regalloc2_function.specs.OutputValue.{OutputValue, IsInOrder}
use Rattle.regalloc2_semantics.specs.Faithful.{IsFaithful}
use Rattle.regalloc2_checker.specs.Report.{IsReport}
use Rattle.regalloc2_checker.specs.Text.{fault_text}
use Rattle.regalloc2_checker.specs.declared.errors.CheckerError.{CheckerError}
use Rattle.regalloc2_checker.specs.declared.errors.CheckerError.TheVariants.{MalformedOutput, Memory}
use Rattle.regalloc2_tool.specs.Ra2.Text.{checked_line}

-- the output isn't well-ordered, or these are the errors of one that isn't faithful, or memory ran out
pub data AreFindings {A : Type 0} (f : FunctionValue) (env : MachineValue) (out : OutputValue) : List (CheckerError A) → Type 0 where
  malformed : (IsInOrder f out → ⊥) → AreFindings f env out (MalformedOutput ∷ [])
  faults : (es : List (CheckerError A)) → (IsFaithful f env out → ⊥) → IsReport f env out es → AreFindings f env out es
  memory : AreFindings f env out (Memory ∷ [])

-- each on a line of its own
abbrev pub findings_text : {A : Type 0} → List (CheckerError A) → List ℕ
findings_text es = flat_map (λ e. fault_text e ++ codes "\n") es

-- the findings are written; the checker's allocator is an A
abbrev pub IsUnaccepted : (A : Type 0) → FunctionValue → MachineValue → OutputValue → (List ℕ → Type 0) → Type 0
IsUnaccepted A f env out IsWritten = (es : List (CheckerError A)) × AreFindings f env out es × IsWritten (findings_text es)

-- the result of checking an output: it is well-ordered and faithful, and a line says so, or it isn't accepted
unfoldable pub IsOutputJudged : (A : Type 0) → FunctionValue → MachineValue → OutputValue → (List ℕ → Type 0) → Bool → Type 0
IsOutputJudged A f env out IsWritten true = IsInOrder f out × IsFaithful f env out × IsWritten checked_line
IsOutputJudged A f env out IsWritten false = IsUnaccepted A f env out IsWritten

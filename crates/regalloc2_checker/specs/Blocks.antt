-- What the check of a block returns.
use Rattle.std.specs.Prelude.{ℕ, ◌≡◌, ◌+◌, ◌-◌, ◌<◌, ◌++◌, List}
use Rattle.regalloc2_function.specs.FunctionValue.{FunctionValue, block_at}
use Rattle.regalloc2_function.specs.Machine.{MachineValue}
use Rattle.regalloc2_function.specs.OutputValue.{OutputValue}
use Rattle.regalloc2_checker.specs.declared.errors.CheckerError.{CheckerError}
use Rattle.regalloc2_checker.specs.Facts.{Facts}
use Rattle.regalloc2_checker.specs.Fixpoint.{nth_of, facts_within}
use Rattle.regalloc2_checker.specs.CheckInputs.{AreFactsKnown}
use Rattle.regalloc2_checker.specs.Report.{InstReports}

-- the facts at a block's beginning lead, at each of its instructions, to the facts that hold on every path
abbrev pub IsKnownWithin : FunctionValue → OutputValue → ℕ → Facts → Type 0
IsKnownWithin f o b F = (n : ℕ) → (block_at f b).range.first + n < (block_at f b).range.end → AreFactsKnown f o (nth_of f b n) (facts_within f o b F n)

-- from such facts, the errors of a block's instructions are added to a list
abbrev pub IsBlockJudged : {A : Type 0} → FunctionValue → MachineValue → OutputValue → ℕ → Facts → List (CheckerError A) → List (CheckerError A) → Type 0
IsBlockJudged f env o b F old new = IsKnownWithin f o b F → (es : List (CheckerError _)) × (new ≡ old ++ es)
    × InstReports f env o b ((block_at f b).range.end - (block_at f b).range.first) es

-- The values that uses read, for any interpretation (`Meaning`) of the instructions.
-- This project's own: what the instructions compute is left open.
use Rattle.std.specs.Prelude.{ℕ, ◌≡◌, ◌+◌, nat_eq, if◌then◌else◌, List, [], ◌∷◌, map, length, Option}
use Rattle.std.specs.Option.{option_map}
use Rattle.regalloc2_names.specs.Operand.{OperandValue, is_reading}
use Rattle.regalloc2_function.specs.FunctionValue.{FunctionValue}
use Rattle.regalloc2_function.specs.OutputValue.{OutputValue}
use Rattle.regalloc2_semantics.specs.Runs.{Way, IsPath, end_of, last_inst, Stamp, source_read, allocated_read}

-- An interpretation gives the number that an instruction writes: from the instruction, its step, what was read at each step so far, the last step first, and
-- the index of the operand that is written.
abbrev pub Meaning : Type 0
Meaning = ℕ → ℕ → List (List (Option ℕ)) → ℕ → ℕ

-- what the reading uses of a list of operands read, from index k on
unfoldable pub reads_from : (ℕ → OperandValue → Option Stamp) → ℕ → List OperandValue → List (Option Stamp)
reads_from read k [] = []
reads_from read k (o ∷ os) = if is_reading o then read k o ∷ reads_from read (k + 1) os else reads_from read (k + 1) os

-- the numbers that were read at each step of a path, the last step first, and the number of each write of an earlier step
pub record Numbers : Type 0 where
  pub history : List (List (Option ℕ))
  pub written : Stamp → ℕ

-- the numbers of a path on which the operand of an index reads the given write
unfoldable pub numbers : FunctionValue → Meaning → (List Way → ℕ → OperandValue → Option Stamp) → List Way → Numbers
numbers f meaning read [] = record { history = map (option_map (λ s. 0)) (reads_from (read []) 0 (last_inst f []).operands) ∷ []; written = λ s. 0 }
numbers f meaning read (w ∷ ws) =
    let before : Numbers = numbers f meaning read ws in
    let written : Stamp → ℕ = λ s. if nat_eq s.step (length ws) then meaning (end_of f ws).inst (length ws) before.history s.operand else before.written s in
    record { history = map (option_map written) (reads_from (read (w ∷ ws)) 0 (last_inst f (w ∷ ws)).operands) ∷ before.history; written = written }

-- on every path, both runs read the same numbers at each step
abbrev pub SameNumbers : FunctionValue → OutputValue → Type 0
SameNumbers f out = (meaning : Meaning) (ws : List Way) → IsPath f ws →
    (numbers f meaning (allocated_read f out) ws).history ≡ (numbers f meaning (λ vs k o. source_read f vs o) ws).history

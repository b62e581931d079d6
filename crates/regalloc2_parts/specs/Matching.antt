-- A walk over the operands that a closure accepts, as contracts see it.
use Rattle.std.specs.Prelude.{ℕ, ◌≡◌, ◌+◌, ◌<◌, ◌≤◌, Bool, true, false, List, Option, MatchOption, length, slice_index_or}
use Rattle.std.specs.List.{AllWithin}
use Rattle.regalloc2_names.specs.Operand.{OperandValue}
use Rattle.regalloc2_parts.specs.declared.iter.Matches.{Matches}

-- the operands that the walk goes over
abbrev pub walked_operands : {F : Type 0} → Matches F → List OperandValue
walked_operands it = it.operands.now

-- the index of the first operand that the closure has not been called for
abbrev pub next_index : {F : Type 0} → Matches F → ℕ
next_index it = it.from

-- the closure
abbrev pub predicate_of : {F : Type 0} → Matches F → F
predicate_of it = it.predicate

-- the closure was called for each operand from the next one on until it returned true: that operand with its index, or none; answers f o b: the
-- closure f can return b for o
abbrev pub GivesNextMatch : {F : Type 0} → (F → OperandValue → Bool → Type 0) → Matches F → Option (ℕ × OperandValue) → Matches F → Type 0
GivesNextMatch answers it result after =
    (walked_operands after ≡ walked_operands it) × (predicate_of after ≡ predicate_of it)
    × MatchOption result
    (AllWithin (λ o. answers (predicate_of it) o false) (walked_operands it) (next_index it) (length (walked_operands it))
    × (length (walked_operands it) ≤ next_index after))
    (λ x. (next_index it ≤ x.0) × (x.0 < length (walked_operands it)) × (slice_index_or (walked_operands it) x.0 x.1 ≡ x.1) × answers (predicate_of it) x.1 true
    × AllWithin (λ o. answers (predicate_of it) o false) (walked_operands it) (next_index it) x.0 × (next_index after ≡ x.0 + 1))

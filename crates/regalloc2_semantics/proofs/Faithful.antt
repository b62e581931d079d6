-- From reads that agree to a faithful output.
use Rattle.std.proofs.Common.{ℕ, ◌≡◌, ◌<◌, ◌≤◌, length, arith, ap, inl, inr}
use Rattle.std.specs.Prelude.{All, filter}
use Rattle.std.proofs.lemmas.List.{get_or_past}
use Rattle.std.proofs.lemmas.List.Elements.{All-filter, All-map}
use Rattle.std.proofs.lemmas.Bool.{cases_lt}
use Rattle.regalloc2_function.specs.FunctionValue.{FunctionValue, InstValue, block_at, inst_at, no_inst}
use Rattle.regalloc2_function.specs.Machine.{MachineValue}
use Rattle.regalloc2_function.specs.Listing.{moves_before}
use Rattle.regalloc2_function.specs.OutputValue.{OutputValue, MoveValue, is_listed_at}
use Rattle.regalloc2_semantics.specs.Runs.{end_of}
use Rattle.regalloc2_semantics.specs.Faithful.{ConstraintsMet, IsStackToStack}
use Rattle.regalloc2_semantics.specs.Laws.{FaithfulWhereReadsAgree}

-- past the last instruction there are no operands
none_past : (f : FunctionValue) (i : ℕ) → length f.insts ≤ i → length (inst_at f i).operands ≡ 0
none_past f i le = ap (λ (x : InstValue). length x.operands) (get_or_past f.insts i no_inst le)

constraints_met : (f : FunctionValue) (env : MachineValue) (out : OutputValue) → ((i : ℕ) → i < length f.insts → ConstraintsMet f env out i) → (i : ℕ) →
    ConstraintsMet f env out i
constraints_met f env out h i = elim (cases_lt i (length f.insts)) [
  | inl lt ↦ h i lt
  | inr le ↦ λ k less. let n : length (inst_at f i).operands ≡ 0 = none_past f i le in absurd (omega arith)
]

moves_before-All : (P : MoveValue → Type 0) (out : OutputValue) (first i : ℕ) → All (λ e. P e.1) out.edits → All P (moves_before out first i)
moves_before-All P out first i h =
    All-map P (λ (e : ℕ × MoveValue). e.1) (filter (λ e. is_listed_at first i e.0) out.edits)
    (All-filter (λ (e : ℕ × MoveValue). is_listed_at first i e.0) (λ e. P e.1) out.edits h)

-- an output is faithful if constraints are met everywhere, no move is from stack to stack, and reads agree on every path
pub faithful : FaithfulWhereReadsAgree
faithful f env out constraints moves reads = record {
  reads = reads;
  constraints = λ ws p. constraints_met f env out constraints (end_of f ws).inst;
  moves = λ ws p. moves_before-All (λ m. IsStackToStack env m → ⊥) out (block_at f (end_of f ws).block).range.first (end_of f ws).inst moves;
}

-- The last instructions of blocks, and how a well-formed function's branches define.
use Rattle.std.proofs.Common.{ℕ, zero, suc, ◌≡◌, ◌-◌, ◌<◌, ◌≤◌, inl, inr, Bool, true, false, List, length, refl, sym, ap, ◌∙◌, subst, arith}
use Rattle.std.specs.Prelude.{slice_index_or, IsTrue, ◌↔◌}
use Rattle.std.proofs.lemmas.Bool.{cases_lt, false≢true}
use Rattle.regalloc2_function.specs.FunctionValue.{FunctionValue, block_at, inst_at, no_operand, last_of, op_at}
use Rattle.regalloc2_function.specs.WellFormed.{BlocksFollow}
use Rattle.std.proofs.lemmas.List.{get_or_read}
use Rattle.regalloc2_names.specs.Operand.{OperandValue}
use Rattle.regalloc2_carry.proofs.SingleDef.{IsDefOperand}
use Rattle.regalloc2_carry.proofs.Order.{ends_within}
use Rattle.regalloc2_analysis.specs.BranchDefs.BranchDefs.{DefinesNumber, EndsInDefinitions, HasDefinitions, IsSite, MayHaveTables}

-- what is read at an index is the operand of that index
pub read_operand : (ops : List OperandValue) (k : ℕ) (o : OperandValue) → k < length ops → o ≡ slice_index_or ops k o → o ≡ op_at ops k
read_operand ops k o lt e = get_or_read ops k o lt e no_operand

-- a block isn't empty, and its instructions are the function's
pub within_function : (f : FunctionValue) → MayHaveTables f → (b : ℕ) → b < length f.blocks →
    ((block_at f b).range.first < (block_at f b).range.end) × ((block_at f b).range.end ≤ length f.insts)
within_function f w b lt = ((w.1.follow b lt).0, ends_within f w.1.follow b lt)

-- a block's last instruction is within the function
pub last_within : (f : FunctionValue) → MayHaveTables f → (b : ℕ) → b < length f.blocks → last_of (block_at f b) < length f.insts
last_within f w b lt = let h = within_function f w b lt in omega (arith, h.0, h.1)

-- a block that doesn't end in a branch doesn't end in definitions
pub ends_otherwise : (f : FunctionValue) (b i : ℕ) (branches : Bool) → i ≡ last_of (block_at f b) → branches ≡ (inst_at f i).is_branch → branches ≡ false →
    IsTrue branches ↔ EndsInDefinitions f b
ends_otherwise f b i branches last is none = (
  λ t. absurd (false≢true (sym none ∙ t)),
  λ e. absurd (false≢true (sym none ∙ is ∙ ap (λ (j : ℕ). (inst_at f j).is_branch) last ∙ e.0)),
)

-- each instruction is in a block
block_of : (f : FunctionValue) → BlocksFollow f → (b i : ℕ) → b < length f.blocks → i < (block_at f b).range.end → (c : ℕ) × (c < length f.blocks)
    × ((block_at f c).range.first ≤ i) × (i < (block_at f c).range.end)
block_of f follow zero i lt less = let h = (follow 0 lt).1 refl in (0, lt, omega (arith, h), less)
block_of f follow (suc b) i lt less = elim (cases_lt i (block_at f (suc b)).range.first) [
  | inl earlier ↦ (let before : suc b - 1 ≡ b = omega arith in let h : (block_at f (suc b)).range.first ≡ (block_at f b).range.end = (follow (suc b) lt).2
      (omega arith) ∙ ap (λ (m : ℕ). (block_at f m).range.end) before in block_of f follow b i (omega arith) (omega (arith, h, earlier)))
  | inr le ↦ (suc b, lt, le, less)
]

-- a branch is the last instruction of a block
pub branch_ends_block : (f : FunctionValue) → MayHaveTables f → (i : ℕ) → i < length f.insts → (inst_at f i).is_branch ≡ true → (b : ℕ)
    × (b < length f.blocks) × (i ≡ last_of (block_at f b))
branch_ends_block f w i lt is =
    let first : 0 < length f.blocks = let e = w.1.successors.0 in omega (arith, e) in
    let last : ℕ = length f.blocks - 1 in
    let end : (block_at f last).range.end ≡ length f.insts = (w.1.follow last (omega (arith, first))).3 (omega (arith, first)) in
    let b = block_of f w.1.follow last i (omega (arith, first)) (omega (arith, end, lt)) in
    let inside = b.3 in
    elim (cases_lt i (last_of (block_at f b.0))) [
      | inl less ↦ absurd (let no = ((w.1.end b.0 b.1).1 i b.2 b.3 less).0 in let e : true ≡ false = sym is ∙ no in cc)
      | inr late ↦ (b.0, b.1, omega (arith, late, inside))
    ]

-- a block with a successor ends in a branch
pub goes_on_by_branch : (f : FunctionValue) → MayHaveTables f → (b k : ℕ) → b < length f.blocks → k < length (block_at f b).succs →
    (inst_at f (last_of (block_at f b))).is_branch ≡ true
goes_on_by_branch f w b k lt edge = elim (w.1.end b lt).0
    [ inl x ↦ x.0 | inr r ↦ (let none : length (block_at f b).succs ≡ 0 = r.2 in absurd (omega (arith, none, edge))) ]

-- the operand of a branch, as one that defines a number
pub site_defines : (f : FunctionValue) (n i k : ℕ) → IsSite f n i k → IsDefOperand f n i k
site_defines f n i k s = record { inst = s.inst; operand = s.defines.operand; definition = s.defines.definition; number = s.defines.number }

-- where no block ends in definitions no branch defines
pub no_site_without : (f : FunctionValue) → MayHaveTables f → (HasDefinitions f → ⊥) → (n i k : ℕ) → IsSite f n i k → ⊥
no_site_without f w none n i k s =
    let b = branch_ends_block f w i s.inst s.is_branch in
    none (
      b.0,
      b.1,
      (
        subst (λ (m : ℕ). (inst_at f m).is_branch ≡ true) b.2 s.is_branch,
        (n, k, subst (λ (m : ℕ). DefinesNumber (inst_at f m).operands n k) b.2 s.defines),
      ),
    )

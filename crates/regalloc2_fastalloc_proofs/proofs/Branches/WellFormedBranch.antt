-- A branch of a well-formed function: what it carries, and what it keeps of the tables.
use Rattle.std.proofs.Common.{ℕ, zero, suc, ◌≡◌, ◌+◌, ◌<◌, ◌≤◌, ◌⊎◌, inl, inr, true, List, [], length, sym, ap, ◌∙◌, subst, arith}
use Rattle.std.specs.Prelude.{slice_index_or}
use Rattle.std.proofs.lemmas.List.{get_or-map}
use Rattle.regalloc2_names.specs.declared.RegClass.TheVariants.{Int}
use Rattle.regalloc2_names.specs.Register.{VirtualRegister, no_vreg}
use Rattle.regalloc2_names.specs.Operand.{OperandValue}
use Rattle.regalloc2_function.specs.FunctionValue.{FunctionValue, block_at, inst_at, last_of, EachBlock}
use Rattle.regalloc2_function.specs.WellFormed.{ways_into, ArgumentsFitAt, CountedAt, NoOperandsAt, PredecessorsAt}
use Rattle.regalloc2_semantics.specs.Runs.{arguments_at}
use Rattle.regalloc2_semantics.specs.Sound.{names, HasEdge, target_at}
use Rattle.regalloc2_carry.specs.Blocks.{ExcusedAreSilent}
use Rattle.regalloc2_carry.proofs.NotRead.{ReadsOthersOnly}
use Rattle.regalloc2_semantics.proofs.Soundness.{entered_once}
use Rattle.regalloc2_fastalloc_proofs.proofs.Branches.EdgeArgsGathered.{argument_at, params_on}

pub few_or_more : (n : ℕ) → (n ≤ 1) ⊎ (1 < n)
few_or_more zero = inl (omega arith)
few_or_more (suc zero) = inl (omega arith)
few_or_more (suc (suc n)) = inr (omega arith)

unread_none : (ops : List OperandValue) (v : VirtualRegister) → ops ≡ [] → ReadsOthersOnly ops v
unread_none ops v none j lt reads is = (let n : length ops ≡ 0 = ap length none in omega (arith, lt, n))

-- the last instruction of a block doesn't read the parameters of its successors: the branches into a block with several
-- edges have no operands and the parameters of other successors are silent in the block
pub unread_parameters : (f : FunctionValue) (b last : ℕ) → EachBlock f (PredecessorsAt f) → EachBlock f (NoOperandsAt f) → ExcusedAreSilent f b → b < length f.blocks →
    ((e : ℕ) → HasEdge f b e → target_at f b e < length f.blocks)
    → (block_at f b).range.first ≤ last → last + 1 ≡ (block_at f b).range.end → (e : ℕ) (w : VirtualRegister) → HasEdge f b e →
    names w (params_on f b e) ≡ true → ReadsOthersOnly (inst_at f last).operands w
unread_parameters f b last agree joins silent within targets first end e w edge named = elim (few_or_more (ways_into f (target_at f b e))) [
  | inl few ↦ (λ j lt reads is. (silent w (e, edge, entered_once f agree b e edge (targets e edge) few, named)).0
      (last, j, first, omega (arith, end), lt, reads, is))
  | inr more ↦ unread_none (inst_at f last).operands w
      (let same : last_of (block_at f b) ≡ last = omega (arith, end) in subst (λ i. (inst_at f i).operands ≡ []) same (joins b within e 0 edge more))
]

-- an argument has its parameter's class
pub argument_classes : (f : FunctionValue) (b : ℕ) → EachBlock f (CountedAt f) → EachBlock f (ArgumentsFitAt f) → b < length f.blocks → (e j : ℕ) → HasEdge f b e →
    j < length (params_on f b e) →
    (argument_at (arguments_at f b e) j).class ≡ (argument_at (params_on f b e) j).class
argument_classes f b counted fits within e j edge lt =
    let long : length (arguments_at f b e) ≡ length (params_on f b e) = counted b within e edge in
    sym (get_or-map (λ (v : VirtualRegister). v.class) (arguments_at f b e) j no_vreg Int (omega (arith, lt, long)))
    ∙ ap (λ l. slice_index_or l j Int) (fits b within e edge)
    ∙ get_or-map (λ (v : VirtualRegister). v.class) (params_on f b e) j no_vreg Int lt

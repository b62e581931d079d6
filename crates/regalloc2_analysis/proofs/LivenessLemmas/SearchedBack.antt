-- A block that reads a vreg too early, and the path from the entry to it, followed backward.
use Rattle.std.proofs.Common.{ℕ, ◌≡◌, ◌+◌, ◌-◌, ◌<◌, ◌≤◌, ◌∙◌, ap, true, false, List, length, subst, sym, arith, inl, inr}
use Rattle.std.specs.Prelude.{Any, Contains, slice_index, slice_index_or}
use Rattle.std.proofs.lemmas.Bool.{cases_Bool, and_parts}
use Rattle.std.proofs.lemmas.List.{get_or_default}
use Rattle.regalloc2_names.specs.declared.OperandPos.{OperandPos}
use Rattle.regalloc2_names.specs.declared.OperandPos.TheVariants.{Early, Late}
use Rattle.regalloc2_names.specs.Register.{VirtualRegister}
use Rattle.regalloc2_names.specs.Operand.{OperandValue, is_def, is_position, is_reading, reads_at}
use Rattle.regalloc2_names.proofs.EqualNames.{is_position-true}
use Rattle.regalloc2_function.specs.FunctionValue.{FunctionValue, block_at, inst_at, no_operand, op_at}
use Rattle.regalloc2_semantics.specs.Runs.{Location, first_of, arguments_at}
use Rattle.regalloc2_function.specs.WellFormed.{IsFramed}
use Rattle.regalloc2_carry.specs.Blocks.{IsUnwritten}
use Rattle.regalloc2_semantics.specs.Sound.{names, target_at, Undefined}
use Rattle.regalloc2_analysis.specs.Liveness.LiveIn.{IsReadAt, IsNeeded, read, passed_on, IsUnwrittenTo}
use Rattle.regalloc2_analysis.specs.Liveness.Search.{LeadsBack}
use Rattle.regalloc2_analysis.proofs.LivenessLemmas.LiveAtBlockBegin.{needed_first, unwritten_more}
use Rattle.regalloc2_analysis.proofs.LivenessLemmas.PropagatedToFixpoint.{needed_over}
use Rattle.regalloc2_analysis.proofs.LivenessLemmas.WalkSteps.{names_found}

-- an operand that reads v, from an operand that passes the test
read_at : (pos : OperandPos) (v : VirtualRegister) (ops : List OperandValue) → Any (λ o. (reads_at pos o ≡ true) × (o.vreg ≡ v)) ops → IsReadAt pos v ops
read_at pos v ops (k, o, less, is, (reads, same)) =
    let e : op_at ops k ≡ o = get_or_default ops k no_operand o less ∙ is in
    let t = and_parts (is_reading o) (is_position pos o.position) reads in
    let r = subst (λ (x : OperandValue). (is_reading x ≡ true) × (x.position ≡ pos) × (x.vreg ≡ v)) (sym e)
    (t.0, sym (is_position-true pos o.position t.1), same) in
    (k, less, r.0, r.1, r.2)

-- no operand defines v, if none passes the test
undefined_by : (ops : List OperandValue) (v : VirtualRegister) → (Any (λ o. (is_def o.kind ≡ true) × (o.vreg ≡ v)) ops → ⊥) → Undefined ops v
undefined_by ops v none j less def is = none (j, op_at ops j, less, get_or_default ops j (op_at ops j) no_operand less, (def, is))

-- a vreg that a list doesn't contain isn't named by it
names_not : (v : VirtualRegister) (xs : List VirtualRegister) → (Contains xs v → ⊥) → names v xs ≡ false
names_not v xs none = elim (cases_Bool (names v xs)) [
  | inl named ↦ absurd (none (names_found v xs named))
  | inr other ↦ other
]

-- some operand of an instruction reads v at a position, or defines v
abbrev pub Reads : FunctionValue → ℕ → OperandPos → VirtualRegister → Type 0
Reads f i pos v = Any (λ o. (reads_at pos o ≡ true) × (o.vreg ≡ v)) (inst_at f i).operands

abbrev pub Defines : FunctionValue → ℕ → VirtualRegister → Type 0
Defines f i v = Any (λ o. (is_def o.kind ≡ true) × (o.vreg ≡ v)) (inst_at f i).operands

module _ (f : FunctionValue) (b : ℕ) (v : VirtualRegister) where
  -- one instruction more without a definition of v
  pub unwritten_next : (i : ℕ) → IsUnwrittenTo f b i v → (Defines f i v → ⊥) → IsUnwrittenTo f b (i + 1) v
  unwritten_next i free none = unwritten_more f b v i free (undefined_by (inst_at f i).operands v none)

  -- a vreg that is read early, and not written before, is needed at the block's beginning
  pub asked_early : (i : ℕ) → (block_at f b).range.first ≤ i → i < (block_at f b).range.end → IsUnwrittenTo f b i v → Reads f i Early v →
      IsNeeded f v (first_of f b)
  asked_early i low high free here =
      let l : Location = record { block = b; inst = i } in
      needed_first f b v i low high (read l (inl (read_at Early v (inst_at f i).operands here))) free

  -- a vreg is needed at a block's beginning if an instruction reads it late and doesn't define it
  pub asked_late : (i : ℕ) → (block_at f b).range.first ≤ i → i < (block_at f b).range.end → IsUnwrittenTo f b i v → (Defines f i v → ⊥) →
      Reads f i Late v → IsNeeded f v (first_of f b)
  asked_late i low high free none here =
      let l : Location = record { block = b; inst = i } in
      needed_first f b v i low high
      (read l (inr (undefined_by (inst_at f i).operands v none, read_at Late v (inst_at f i).operands here))) free

  -- a vreg is needed at a block's beginning if the block passes it and doesn't write it
  pub asked_passed : (block_at f b).range.first < (block_at f b).range.end → IsUnwritten f b v →
      ((k : ℕ) × (k < length (block_at f b).succs) × Contains (arguments_at f b k) v) → IsNeeded f v (first_of f b)
  asked_passed some free (k, less, listed) =
      let i : ℕ = (block_at f b).range.end - 1 in
      let l : Location = record { block = b; inst = i } in
      needed_first f b v i (omega arith) (omega arith)
      (passed_on l (free i (omega arith) (omega arith)) (k, (omega arith, less), listed))
      (λ j low high. free j low (omega arith))

  -- what leads back from a block that doesn't write v leads back from a successor that doesn't have v as a parameter
  pub leads_over : (k : ℕ) → IsFramed f → IsUnwritten f b v → LeadsBack f v b → k < length (block_at f b).succs →
      names v (block_at f (target_at f b k)).params ≡ false → LeadsBack f v (target_at f b k)
  leads_over k framed free (less, back) lk aside =
      (framed.successors.1 b less k 0 lk, λ n. back (needed_over f b k v (framed.follow b less).0 lk aside free n))

  -- a successor that is read off the list leads back
  pub leads_item : (k s : ℕ) (succs : List ℕ) → IsFramed f → IsUnwritten f b v → LeadsBack f v b → succs ≡ (block_at f b).succs → k < length succs →
      s ≡ slice_index_or succs k s → (Contains (block_at f s).params v → ⊥) → LeadsBack f v s
  leads_item k s succs framed free back listed less is aside =
      let same : s ≡ target_at f b k = is ∙ get_or_default succs k s 0 less ∙ ap (λ (xs : List ℕ). slice_index xs k) listed in
      subst (λ (m : ℕ). LeadsBack f v m) (sym same)
      (leads_over k framed free back (subst (λ (xs : List ℕ). k < length xs) listed less)
      (subst (λ (m : ℕ). names v (block_at f m).params ≡ false) same (names_not v (block_at f s).params aside)))

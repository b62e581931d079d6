-- What the pass before the walk finds grows with each instruction.
use Rattle.std.proofs.Common.{ℕ, ◌≡◌, ◌+◌, ◌<◌, ◌≤◌, ◌^◌, Bool, List, [], ◌∷◌, ◌++◌, length, Err, sym, ap, ◌∙◌, below_more, arith}
use Rattle.std.proofs.lemmas.List.{get_or_append_left, take_all}
use Rattle.std.proofs.lemmas.List.Sums.{sum_by_more}
use Rattle.std.proofs.Math.Seq.{get_or-append_seam}
use Rattle.std.specs.Prelude.{Result, ◌↔◌, slice_index, sum_by}
use Rattle.regalloc2_names.specs.declared.RegAllocError.{RegAllocError}
use Rattle.regalloc2_names.specs.declared.RegAllocError.TheVariants.{TooManyOperands}
use Rattle.regalloc2_function.specs.FunctionValue.{FunctionValue, InstValue, inst_at, no_inst, operand_count}
use Rattle.regalloc2_function.specs.Machine.{MachineValue}
use Rattle.regalloc2_fastalloc_proofs.specs.BlockSteps.{offset_of}
use Rattle.regalloc2_fastalloc.specs.ErrorReason.{IsReason}
use Rattle.regalloc2_fastalloc.specs.Survey.{IsSurveyError}
use Rattle.regalloc2_fastalloc.specs.Survey.IsSurveyError.{out_of_memory, uncounted}

-- the places of an instruction begin where the places of the instruction before it end
pub offset_more : (f : FunctionValue) (i total n : ℕ) → i < length f.insts → total ≡ offset_of f i → n ≡ length (inst_at f i).operands →
    total + n ≡ offset_of f (i + 1)
offset_more f i total n lt so here =
    let more = sum_by_more (λ (m : InstValue). length m.operands) f.insts i no_inst lt in omega (arith, more, so, here)

-- all offsets so far, and one more
pub offsets_more : (f : FunctionValue) (offsets : List ℕ) (i total : ℕ) → length offsets ≡ i → total ≡ offset_of f i →
    ((k : ℕ) → k < i → slice_index offsets k ≡ offset_of f k) → (k : ℕ) → k < i + 1 → slice_index (offsets ++ total ∷ []) k ≡ offset_of f k
offsets_more f offsets i total long so each = below_more (λ k. slice_index (offsets ++ total ∷ []) k ≡ offset_of f k) i
    (λ k l. get_or_append_left offsets (total ∷ []) 0 k (omega (arith, l, long)) ∙ each k l)
    (ap (λ (m : ℕ). slice_index (offsets ++ total ∷ []) m) (sym long) ∙ get_or-append_seam offsets total [] 0 ∙ so)

-- past the last instruction all operands are counted
pub offset_last : (f : FunctionValue) (i : ℕ) → i ≡ length f.insts → offset_of f i ≡ operand_count f
offset_last f i end = ap (sum_by (λ (m : InstValue). length m.operands)) (take_all i f.insts (omega (arith, end)))

-- why the pass fails is why `run` does
pub survey_reason : (f : FunctionValue) (env : MachineValue) (asked : Bool) {e : RegAllocError} → IsSurveyError f e → IsReason f env asked e
survey_reason f env asked (out_of_memory few) = few
survey_reason f env asked (uncounted many) = many

-- the error is `TooManyOperands` where there are too many operands
pub survey_counted : {T : Type 0} (f : FunctionValue) (r : Result T RegAllocError) (e : RegAllocError) → r ≡ Err e → IsSurveyError f e →
    (r ≡ Err TooManyOperands) ↔ (2 ^ 32 ≤ operand_count f)
survey_counted f r e is (out_of_memory few) = (λ h. absurd (let x = sym is ∙ h in cc), λ many. absurd (omega (arith, few, many)))
survey_counted f r e is (uncounted many) = (λ h. many, λ m. is)

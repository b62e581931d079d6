-- How often a number is defined, by the listing and by the function's sums.
use Rattle.std.proofs.Common.{ℕ, zero, suc, ◌≡◌, ◌+◌, ◌-◌, ◌<◌, ◌≤◌, Some, None, List, [], ◌∷◌, ◌++◌, length, take, refl, sym, ap, ◌∙◌, zero-add, inl, inr}
use Rattle.std.proofs.Common.{arith}
use Rattle.std.specs.Prelude.{Bool, count_by, filter_map, flat_map, map, nat_eq, sum_by, cond, ◌&&◌}
use Rattle.std.specs.List.{cons_option}
use Rattle.std.proofs.lemmas.Bool.{cases_Bool}
use Rattle.std.proofs.lemmas.List.Sums.{sum_by-append, sum_by-cons, sum_by_more}
use Rattle.regalloc2_index.specs.Range.{numbers_from, numbers_of}
use Rattle.regalloc2_names.specs.Register.{VirtualRegister}
use Rattle.regalloc2_names.specs.Operand.{OperandValue, is_def}
use Rattle.regalloc2_names.specs.Place.{after}
use Rattle.regalloc2_function.specs.FunctionValue.{FunctionValue, BlockValue, InstValue, block_at, inst_at, no_block, no_inst}
use Rattle.regalloc2_function.specs.WellFormed.{BlocksFollow}
use Rattle.regalloc2_function.specs.Reasons.{Site}
use Rattle.regalloc2_function.proofs.ListsInParts.{numbers_more, flat_more}
use Rattle.regalloc2_function.proofs.Following.{end_within}
use Rattle.regalloc2_function.proofs.BlockRanges.{first_after, block_is}
use Rattle.regalloc2_function.specs.Inside.Definitions.{param_definition, operand_definition, inst_definitions, block_definitions, definitions_among}

-- an operand that defines a number
abbrev pub defines_number : ℕ → OperandValue → Bool
defines_number n o = is_def o.kind && nat_eq o.vreg.number n

-- among two lists of definitions
pub among_append : (n : ℕ) (xs ys : List Site) → definitions_among (xs ++ ys) n ≡ definitions_among xs n + definitions_among ys n
among_append n xs ys = sum_by-append (λ d. cond (nat_eq d.vreg.number n) 1 0) xs ys

-- among parameters
among_params : (n first : ℕ) (vs : List VirtualRegister) → definitions_among (map (param_definition first) vs) n ≡ count_by (λ v. nat_eq v.number n) vs
among_params n first [] = refl
among_params n first (v ∷ vs) =
    sum_by-cons (λ (d : Site). cond (nat_eq d.vreg.number n) 1 0) (param_definition first v) (map (param_definition first) vs)
    ∙ ap (λ m. cond (nat_eq v.number n) 1 0 + m) (among_params n first vs)
    ∙ sym (sum_by-cons (λ (v : VirtualRegister). cond (nat_eq v.number n) 1 0) v vs)

abbrev definition : ℕ → OperandValue → Site
definition i o = record { vreg = o.vreg; inst = i; point = after i }

-- among an instruction's operands
among_operands : (n i : ℕ) (os : List OperandValue) → definitions_among (filter_map (operand_definition i) os) n ≡ count_by (defines_number n) os
among_operands n i [] = refl
among_operands n i (o ∷ os) =
    elim (cases_Bool (is_def o.kind)) [
      | inl e ↦ ap (λ b. definitions_among (cons_option (cond b (Some (definition i o)) None) (filter_map (operand_definition i) os)) n) e
          ∙ sum_by-cons (λ (d : Site). cond (nat_eq d.vreg.number n) 1 0) (definition i o) (filter_map (operand_definition i) os)
          ∙ ap (λ m. cond (nat_eq o.vreg.number n) 1 0 + m) (among_operands n i os)
          ∙ sym (sum_by-cons (λ (o : OperandValue). cond (defines_number n o) 1 0) o os
          ∙ ap (λ b. cond (b && nat_eq o.vreg.number n) 1 0 + count_by (defines_number n) os) e)
      | inr e ↦ ap (λ b. definitions_among (cons_option (cond b (Some (definition i o)) None) (filter_map (operand_definition i) os)) n) e
          ∙ among_operands n i os
          ∙ sym (zero-add (count_by (defines_number n) os))
          ∙ sym (sum_by-cons (λ (o : OperandValue). cond (defines_number n o) 1 0) o os
          ∙ ap (λ b. cond (b && nat_eq o.vreg.number n) 1 0 + count_by (defines_number n) os) e)
    ]

-- how many of the first instructions' operands define a number
abbrev pub insts_to : FunctionValue → ℕ → ℕ → ℕ
insts_to f n i = sum_by (λ inst. count_by (defines_number n) inst.operands) (take i f.insts)

-- how many parameters of the first b blocks have the number n
abbrev pub params_to : FunctionValue → ℕ → ℕ → ℕ
params_to f n b = sum_by (λ b. count_by (λ v. nat_eq v.number n) b.params) (take b f.blocks)

-- among the instructions of a range
among_insts : (f : FunctionValue) (n first k : ℕ) → first + k ≤ length f.insts →
    insts_to f n first + definitions_among (flat_map (inst_definitions f) (numbers_from first k)) n ≡ insts_to f n (first + k)
among_insts f n first zero less = let e : first + 0 ≡ first = omega arith in rw e (omega arith)
among_insts f n first (suc k) less =
    let add : k + 1 ≡ suc k = omega arith in
    let before = among_insts f n first k (omega arith) in
    let more : flat_map (inst_definitions f) (numbers_from first (suc k)) ≡ flat_map (inst_definitions f) (numbers_from first k)
    ++ inst_definitions f (first + k) = rw add at (numbers_more (inst_definitions f) first k) in
    let here = among_operands n (first + k) (inst_at f (first + k)).operands in
    let both = among_append n (flat_map (inst_definitions f) (numbers_from first k)) (inst_definitions f (first + k)) in
    let next : insts_to f n (first + k + 1) ≡ insts_to f n (first + k) + count_by (defines_number n) (inst_at f (first + k)).operands = sum_by_more
    (λ (inst : InstValue). count_by (defines_number n) inst.operands) f.insts (first + k) no_inst (omega arith) in
    let at : first + suc k ≡ first + k + 1 = omega arith in
    rw (more, at, next, both) (omega (arith, before, here))

-- where the block of that number begins, and after the last where the instructions end
abbrev pub start_of : FunctionValue → ℕ → ℕ
start_of f zero = 0
start_of f (suc b) = (block_at f b).range.end

-- where blocks follow one another, each begins where the one before it ends, and the first at 0
pub first_is_start : (f : FunctionValue) → BlocksFollow f → (b : ℕ) → b < length f.blocks → (block_at f b).range.first ≡ start_of f b
first_is_start f follow zero less = (follow 0 less).1 refl
first_is_start f follow (suc b) less = let e : b + 1 ≡ suc b = omega arith in rw e at (first_after f follow b (omega arith))

-- among the first blocks
pub among_blocks : (f : FunctionValue) → BlocksFollow f → (n b : ℕ) → b ≤ length f.blocks →
    definitions_among (flat_map (block_definitions f) (take b f.blocks)) n ≡ params_to f n b + insts_to f n (start_of f b)
among_blocks f follow n zero less = refl
among_blocks f follow n (suc b) less =
    let here : BlockValue = block_at f b in
    let in_range : b < length f.blocks = omega arith in
    let add : b + 1 ≡ suc b = omega arith in
    let more : flat_map (block_definitions f) (take (suc b) f.blocks) ≡ flat_map (block_definitions f) (take b f.blocks)
    ++ block_definitions f here = rw add at (flat_more (block_definitions f) f.blocks b here in_range (block_is f b in_range)) in
    let before = among_blocks f follow n b (omega arith) in
    let first : here.range.first ≡ start_of f b = first_is_start f follow b in_range in
    let some : here.range.first < here.range.end = (follow b in_range).0 in
    let whole : here.range.first + (here.range.end - here.range.first) ≡ here.range.end = omega arith in
    let insts : insts_to f n here.range.first + definitions_among (flat_map (inst_definitions f) (numbers_of here.range)) n ≡ insts_to f n
    here.range.end = among_insts f n here.range.first (here.range.end - here.range.first) (rw whole (end_within f follow b in_range))
    ∙ ap (insts_to f n) whole in
    let params = among_params n here.range.first here.params in
    let both = among_append n (flat_map (block_definitions f) (take b f.blocks)) (block_definitions f here) in
    let two = among_append n (map (param_definition here.range.first) here.params) (flat_map (inst_definitions f) (numbers_of here.range)) in
    let next : params_to f n (b + 1) ≡ params_to f n b + count_by (λ v. nat_eq v.number n) here.params = sum_by_more
    (λ (b : BlockValue). count_by (λ v. nat_eq v.number n) b.params) f.blocks b no_block in_range in
    let from : insts_to f n here.range.first ≡ insts_to f n (start_of f b) = ap (insts_to f n) first in
    rw more (both ∙ ap (λ m. definitions_among (flat_map (block_definitions f) (take b f.blocks)) n + m) two
    ∙ omega (arith, before, params, insts, from, rw add at next))

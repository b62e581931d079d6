-- The listings, as the function's own tests see them.
use Rattle.std.proofs.Common.{ℕ, zero, suc, ◌≡◌, ◌+◌, ◌-◌, ◌<◌, ◌≤◌, ◌⊎◌, Some, None, List, [], ◌∷◌, length, get_or, take, refl, sym, ap, ◌∙◌, subst}
use Rattle.std.proofs.Common.{inl, inr, arith}
use Rattle.std.specs.Prelude.{All, Contains, cond, count_by, flat_map, map, nat_eq, sum_by}
use Rattle.std.proofs.lemmas.Bool.{cases_Bool}
use Rattle.std.proofs.lemmas.List.{get_or_default, get_or_past, take_all}
use Rattle.std.proofs.lemmas.List.Elements.{All-contains, Contains-append_left, Contains-append_right, Contains-append_cases, Contains-get_or}
use Rattle.std.proofs.lemmas.List.Sums.{sum_by-cons}
use Rattle.regalloc2_index.specs.Range.{numbers_from, numbers_of}
use Rattle.regalloc2_names.specs.Register.{VirtualRegister}
use Rattle.regalloc2_names.specs.Operand.{OperandValue, is_def, is_reading}
use Rattle.regalloc2_names.specs.Place.{before, after}
use Rattle.regalloc2_function.specs.FunctionValue.{FunctionValue, BlockValue, InstValue, block_at, inst_at, no_block, no_inst, last_of, no_operand, op_at}
use Rattle.regalloc2_function.specs.WellFormed.{BlocksFollow, DefinedOnce, IsDefinedUpTo, UsesAreDefined, definitions_of}
use Rattle.regalloc2_function.specs.Reasons.{AreSingle, Site}
use Rattle.regalloc2_function.specs.Reasons.{definitions_in}
use Rattle.regalloc2_function.specs.Reasons.{uses_in}
use Rattle.regalloc2_function.proofs.DefsCounted.{among_blocks, first_is_start, insts_to, start_of, defines_number}
use Rattle.regalloc2_function.proofs.ListMembers.{all_members, from_filter, from_flat, from_map, from_numbers, in_filter, in_flat, in_map, in_numbers}
use Rattle.regalloc2_function.proofs.BlockRanges.{block_is}
use Rattle.regalloc2_function.specs.Inside.Definitions.{argument_use, block_definitions, block_uses, definitions_among, inst_definitions}
use Rattle.regalloc2_function.specs.Inside.Definitions.{inst_reads, operand_definition, operand_read, param_definition, passed_at}

abbrev param_count : ℕ → BlockValue → ℕ
param_count n b = count_by (λ v. nat_eq v.number n) b.params

abbrev definition_count : ℕ → InstValue → ℕ
definition_count n i = count_by (defines_number n) i.operands

-- a function with other blocks and instructions
abbrev made_of : FunctionValue → List BlockValue → List InstValue → FunctionValue
made_of f bs is = record f { blocks = bs; insts = is }

sums_of : (f : FunctionValue) (n : ℕ) (bs : List BlockValue) (is : List InstValue) →
    definitions_of (made_of f bs is) n ≡ sum_by (param_count n) bs + sum_by (definition_count n) is
sums_of f n [] [] = refl
sums_of f n [] (i ∷ is) = let h = sums_of f n [] is in let c = sum_by-cons (definition_count n) i is in omega (arith, h, c)
sums_of f n (b ∷ bs) is = let h = sums_of f n bs is in let c = sum_by-cons (param_count n) b bs in omega (arith, h, c)

-- the last block ends at the last instruction
pub start_at_end : (f : FunctionValue) → BlocksFollow f → (n : ℕ) → n ≡ length f.blocks → 0 < n → start_of f n ≡ length f.insts
start_at_end f follow zero e some = absurd (omega arith)
start_at_end f follow (suc b) e some = (follow b (omega arith)).3 (omega arith)

-- a number is as often defined in the listing as the function's sums say
pub among_all : (f : FunctionValue) → BlocksFollow f → 0 < length f.blocks → (n : ℕ) → definitions_among (definitions_in f) n ≡ definitions_of f n
among_all f follow some n =
    let all : take (length f.blocks) f.blocks ≡ f.blocks = take_all (length f.blocks) f.blocks (omega arith) in
    let every : take (start_of f (length f.blocks)) f.insts ≡ f.insts = take_all (start_of f (length f.blocks)) f.insts
    (let e = start_at_end f follow (length f.blocks) refl some in omega (arith, e)) in
    let h = among_blocks f follow n (length f.blocks) (omega arith) in
    ap (λ bs. definitions_among (flat_map (block_definitions f) bs) n) (sym all)
    ∙ h
    ∙ ap (λ bs. sum_by (param_count n) bs + insts_to f n (start_of f (length f.blocks))) all
    ∙ ap (λ is. sum_by (param_count n) f.blocks + sum_by (definition_count n) is) every
    ∙ sym (sums_of f n f.blocks f.insts)

-- where blocks follow one another, the function defines each number at most once and below a bound if the listed definitions do
pub single_once : (f : FunctionValue) → BlocksFollow f → 0 < length f.blocks → AreSingle f.num_vregs (definitions_in f) → DefinedOnce f
single_once f follow some single n = let e = among_all f follow some n in let s = single n in (omega (arith, e, s.0), λ h. s.1 (omega (arith, e)))

-- where blocks follow one another, the listed definitions define each number at most once and below a bound if the function does
pub once_single : (f : FunctionValue) → BlocksFollow f → 0 < length f.blocks → DefinedOnce f → AreSingle f.num_vregs (definitions_in f)
once_single f follow some once n = let e = among_all f follow some n in let s = once n in (omega (arith, e, s.0), λ h. s.1 (omega (arith, e)))

-- the block of an instruction
block_of : (f : FunctionValue) → BlocksFollow f → (n j : ℕ) → n ≤ length f.blocks → j < start_of f n → (b : ℕ) × (b < n) × ((block_at f b).range.first ≤ j)
    × (j < (block_at f b).range.end)
block_of f follow zero j within less = absurd (omega arith)
block_of f follow (suc b) j within less =
    elim (le_or_lt (block_at f b).range.first j) [
      | inl low ↦ (b, omega arith, low, less)
      | inr before ↦ (let e = first_is_start f follow b (omega arith) in let r = block_of f follow b j (omega arith) (omega (arith, e)) in
          (r.0, omega (arith, r.1), r.2, r.3))
    ]
  where
    le_or_lt : (m n : ℕ) → (m ≤ n) ⊎ (n < m)
    le_or_lt m n = grind arith

-- a block of the list, by its number
pub numbered : (f : FunctionValue) (b : BlockValue) → Contains f.blocks b → (k : ℕ) × (k < length f.blocks) × (block_at f k ≡ b)
numbered f b m = (m.0, m.1, get_or_default f.blocks m.0 no_block b m.1 ∙ m.2)

-- an instruction with an operand is one of the function's
pub has_operands : (f : FunctionValue) (j k : ℕ) → k < length (inst_at f j).operands → j < length f.insts
has_operands f j k less =
    elim (lt_or_le j (length f.insts)) [
      | inl l ↦ l
      | inr past ↦ absurd (let e : inst_at f j ≡ no_inst = get_or_past f.insts j no_inst past in
          let z : length (inst_at f j).operands ≡ 0 = ap (λ i. length i.operands) e in omega (arith, z))
    ]
  where
    lt_or_le : (m n : ℕ) → (m < n) ⊎ (n ≤ m)
    lt_or_le m n = grind arith

abbrev definition_of : ℕ → OperandValue → Site
definition_of j o = record { vreg = o.vreg; inst = j; point = after j }

-- an operand that is read at an index, whatever is read past the end
pub read_op : (operands : List OperandValue) (k : ℕ) (o : OperandValue) → k < length operands → get_or operands k o ≡ o → op_at operands k ≡ o
read_op operands k o less is = get_or_default operands k no_operand o less ∙ is

-- what a listed definition says
pub listed_defines : (f : FunctionValue) (d : Site) (v : VirtualRegister) (i : ℕ) → Contains (definitions_in f) d → d.vreg ≡ v → d.point ≤ i →
    IsDefinedUpTo f v i
listed_defines f d v i m is usable =
    let in_block = from_flat (block_definitions f) f.blocks d m in
    let at = numbered f in_block.0 in_block.1 in
    elim (Contains-append_cases (map (param_definition in_block.0.range.first) in_block.0.params) (flat_map (inst_definitions f) (numbers_of in_block.0.range))
    d in_block.2) [
      | inl param ↦ (let p = from_map (param_definition in_block.0.range.first) in_block.0.params d param in
          let vreg : p.0 ≡ v = ap (λ d. d.vreg) p.2 ∙ is in
          let from : before in_block.0.range.first ≡ d.point = ap (λ d. d.point) p.2 in
          let first : before (block_at f at.0).range.first ≤ i =
          subst (λ (b : BlockValue). before b.range.first ≤ i) (sym at.2) (omega (arith, from, usable)) in
          inl (
            at.0,
            at.1,
            first,
            subst (λ (b : BlockValue). Contains b.params v) (sym at.2)
                (subst (λ (w : VirtualRegister). Contains in_block.0.params w) vreg p.1),
          ))
      | inr inst ↦ (let j = from_numbers (inst_definitions f) in_block.0.range.first (in_block.0.range.end - in_block.0.range.first) d inst in
          let o = from_filter (operand_definition j.0) (inst_at f j.0).operands d j.3 in
          elim (cases_Bool (is_def o.0.kind)) [
            | inl def ↦ (let made : Some (definition_of j.0 o.0) ≡ Some d = sym (ap (λ b. cond b (Some (definition_of j.0 o.0)) None) def) ∙ o.2 in
                let same : definition_of j.0 o.0 ≡ d = cc in
                let from : after j.0 ≡ d.point = ap (λ d. d.point) same in
                inr (
                  j.0,
                  o.1.0,
                  omega (arith, from, usable),
                  o.1.1,
                  ap (λ o. is_def o.kind) (read_op (inst_at f j.0).operands o.1.0 o.0 o.1.1 o.1.2) ∙ def,
                  ap (λ o. o.vreg) (read_op (inst_at f j.0).operands o.1.0 o.0 o.1.1 o.1.2)
                      ∙ ap (λ d. d.vreg) same ∙ is,
                ))
            | inr other ↦ absurd (let made : None ≡ Some d = sym (ap (λ b. cond b (Some (definition_of j.0 o.0)) None) other) ∙ o.2 in cc)
          ])
    ]

-- each definition that the function has is listed
pub defined_listed : (f : FunctionValue) → BlocksFollow f → 0 < length f.blocks → (v : VirtualRegister) (i : ℕ) → IsDefinedUpTo f v i → (d : Site)
    × Contains (definitions_in f) d × (d.vreg ≡ v) × (d.point ≤ i)
defined_listed f follow some v i before =
    elim before [
      | inl param ↦ (let b : BlockValue = block_at f param.0 in
          let d : Site = param_definition b.range.first v in (
            d,
            in_flat (block_definitions f) f.blocks param.0 b d param.1 (block_is f param.0 param.1)
                (Contains-append_left (map (param_definition b.range.first) b.params) (flat_map (inst_definitions f) (numbers_of b.range)) d
                (in_map (param_definition b.range.first) b.params v param.3)),
            refl,
            param.2,
          ))
      | inr inst ↦ (let j : ℕ = inst.0 in
          let in_range : j < length f.insts = has_operands f j inst.1 inst.3 in
          let o : OperandValue = op_at (inst_at f j).operands inst.1 in
          let at = block_of f follow (length f.blocks) j (omega arith) (let e = start_at_end f follow (length f.blocks) refl some in omega (arith, e)) in
          let b : BlockValue = block_at f at.0 in
          let made : operand_definition j o ≡ Some (definition_of j o) = ap (λ t. cond t (Some (definition_of j o)) None) inst.4 in (
            definition_of j o,
            in_flat (block_definitions f) f.blocks at.0 b (definition_of j o) at.1 (block_is f at.0 at.1)
                (Contains-append_right (map (param_definition b.range.first) b.params) (flat_map (inst_definitions f) (numbers_of b.range)) (definition_of j o)
                (in_numbers (inst_definitions f) b.range.first (b.range.end - b.range.first) j (definition_of j o) at.2 (omega (arith, at.2, at.3))
                (in_filter (operand_definition j) (inst_at f j).operands o (definition_of j o) made
                (Contains-get_or (inst_at f j).operands inst.1 no_operand inst.3)))),
            inst.5,
            inst.2,
          ))
    ]

abbrev read_use : ℕ → VirtualRegister → Site
read_use i v = record { vreg = v; inst = i; point = before i }

-- a fact of each listed use is one of each that the function makes
pub listed_uses : (f : FunctionValue) → All (λ u. IsDefinedUpTo f u.vreg u.point) (uses_in f) → UsesAreDefined f
listed_uses f all n less =
    let b : BlockValue = block_at f n in
    let in_block : (u : Site) → Contains (block_uses f b) u → IsDefinedUpTo f u.vreg u.point = λ u m. All-contains (λ u. IsDefinedUpTo f u.vreg u.point)
    (uses_in f) u all (in_flat (block_uses f) f.blocks n b u less (block_is f n less) m) in (
      λ i low high k short reading.
          (let o : OperandValue = op_at (inst_at f i).operands k in
          in_block (read_use i o.vreg) (Contains-append_left (flat_map (inst_reads f) (numbers_of b.range))
          (flat_map (passed_at b) (numbers_from 0 (length b.succs))) (read_use i o.vreg)
          (in_numbers (inst_reads f) b.range.first (b.range.end - b.range.first) i (read_use i o.vreg) low (omega (arith, low, high))
          (in_filter (operand_read i) (inst_at f i).operands o (read_use i o.vreg) (ap (λ t. cond t (Some (read_use i o.vreg)) None) reading)
          (Contains-get_or (inst_at f i).operands k no_operand short))))),
      λ k short j d within.
          (let v : VirtualRegister = get_or (get_or b.arguments k []) j d in
          in_block (argument_use (last_of b) v) (Contains-append_right (flat_map (inst_reads f) (numbers_of b.range))
          (flat_map (passed_at b) (numbers_from 0 (length b.succs))) (argument_use (last_of b) v)
          (in_numbers (passed_at b) 0 (length b.succs) k (argument_use (last_of b) v) (omega arith) (omega (arith, short))
          (in_map (argument_use (last_of b)) (get_or b.arguments k []) v (Contains-get_or (get_or b.arguments k []) j d within))))),
    )

-- where uses are defined, each use of the list of all uses is
pub uses_listed : (f : FunctionValue) → UsesAreDefined f → All (λ u. IsDefinedUpTo f u.vreg u.point) (uses_in f)
uses_listed f uses = all_members (λ u. IsDefinedUpTo f u.vreg u.point) (uses_in f) (λ u m.
    let in_block = from_flat (block_uses f) f.blocks u m in
    let at = numbered f in_block.0 in_block.1 in
    let b : BlockValue = block_at f at.0 in
    let there : Contains (block_uses f b) u = subst (λ (b : BlockValue). Contains (block_uses f b) u) (sym at.2) in_block.2 in
    elim (Contains-append_cases (flat_map (inst_reads f) (numbers_of b.range)) (flat_map (passed_at b) (numbers_from 0 (length b.succs))) u there) [
      | inl read ↦ (let i = from_numbers (inst_reads f) b.range.first (b.range.end - b.range.first) u read in
          let o = from_filter (operand_read i.0) (inst_at f i.0).operands u i.3 in
          elim (cases_Bool (is_reading o.0)) [
            | inl reading ↦ (let made : Some (read_use i.0 o.0.vreg) ≡ Some u = sym (ap (λ t. cond t (Some (read_use i.0 o.0.vreg)) None) reading)
                ∙ o.2 in
                let same : read_use i.0 o.0.vreg ≡ u = cc in
                let is : op_at (inst_at f i.0).operands o.1.0 ≡ o.0 = read_op (inst_at f i.0).operands o.1.0 o.0 o.1.1 o.1.2 in
                subst (λ (u : Site). IsDefinedUpTo f u.vreg u.point) same
                (subst (λ (o : OperandValue). IsDefinedUpTo f o.vreg (before i.0)) is
                ((uses at.0 at.1).0 i.0 i.1 (omega (arith, i.1, i.2)) o.1.0 o.1.1 (ap is_reading is ∙ reading))))
            | inr other ↦ absurd (let made : None ≡ Some u = sym (ap (λ t. cond t (Some (read_use i.0 o.0.vreg)) None) other) ∙ o.2 in cc)
          ])
      | inr passed ↦ (let k = from_numbers (passed_at b) 0 (length b.succs) u passed in
          let v = from_map (argument_use (last_of b)) (get_or b.arguments k.0 []) u k.3 in
          subst (λ (u : Site). IsDefinedUpTo f u.vreg u.point) v.2 (All-contains (λ v. IsDefinedUpTo f v (after (last_of b))) (get_or b.arguments k.0 []) v.0
          ((uses at.0 at.1).1 k.0 (omega (arith, k.2))) v.1))
    ])

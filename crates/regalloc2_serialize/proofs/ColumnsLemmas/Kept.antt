-- The blocks and the instructions of columns, by number.
use Rattle.std.proofs.Common.{◌≡◌, ◌∙◌, ℕ, ◌+◌, ◌-◌, ◌<◌, ◌≤◌, List, length, get_or, sym, ap, arith, refl}
use Rattle.std.specs.Prelude.{nat_eq, ◌%◌, ◌/◌, slice_index, slice_index_or, []}
use Rattle.std.proofs.lemmas.List.Edits.{length-between}
use Rattle.std.proofs.lemmas.List.{get_or_read}
use Rattle.std.proofs.lemmas.List.FromFn.{get_or-map-range_with_len, length-map-range_with_len}
use Rattle.regalloc2_index.specs.Range.{Span}
use Rattle.regalloc2_names.specs.Register.{VirtualRegister, empty_set}
use Rattle.regalloc2_names.specs.Operand.{OperandValue}
use Rattle.regalloc2_names.specs.declared.sets.PRegSet.{PRegSet}
use Rattle.regalloc2_function.specs.FunctionValue.{no_block, no_inst}
use Rattle.regalloc2_serialize.specs.Flat.Columns.Value.{Columns, part, column_block, column_blocks, column_inst, column_insts}

-- a block of columns has bounds
pub block-within : (c : Columns) (b : ℕ) → b < length (column_blocks c) → b + 1 < length c.inst_bounds
block-within c b less = omega (arith, less, length-map-range_with_len (column_block c) 0 (length c.inst_bounds - 1))

-- an instruction of columns has a kind
pub inst-within : (c : Columns) (i : ℕ) → i < length (column_insts c) → i < length c.kinds
inst-within c i less = omega (arith, less, length-map-range_with_len (column_inst c) 0 (length c.kinds))

pub block-of : (c : Columns) (b : ℕ) → b < length (column_blocks c) → slice_index_or (column_blocks c) b no_block ≡ column_block c b
block-of c b less =
    let short : b < length c.inst_bounds - 1 = omega (arith, block-within c b less) in
    get_or-map-range_with_len (column_block c) 0 (length c.inst_bounds - 1) b b no_block short (omega arith)

pub inst-of : (c : Columns) (i : ℕ) → i < length (column_insts c) → slice_index_or (column_insts c) i no_inst ≡ column_inst c i
inst-of c i less = get_or-map-range_with_len (column_inst c) 0 (length c.kinds) i i no_inst (inst-within c i less) (omega arith)

-- what is read between bounds is a block's
pub succs-of : (c : Columns) (b i : ℕ) (xs : List ℕ) → b < length (column_blocks c) → i ≡ b → xs ≡ part c.succs c.succ_bounds i →
    xs ≡ (slice_index_or (column_blocks c) b no_block).succs
succs-of c b i xs less is e = e ∙ ap (part c.succs c.succ_bounds) is ∙ sym (ap (λ v. v.succs) (block-of c b less))

pub preds-of : (c : Columns) (b i : ℕ) (xs : List ℕ) → b < length (column_blocks c) → i ≡ b → xs ≡ part c.preds c.pred_bounds i →
    xs ≡ (slice_index_or (column_blocks c) b no_block).preds
preds-of c b i xs less is e = e ∙ ap (part c.preds c.pred_bounds) is ∙ sym (ap (λ v. v.preds) (block-of c b less))

pub params-of : (c : Columns) (b i : ℕ) (xs : List VirtualRegister) → b < length (column_blocks c) → i ≡ b → xs ≡ part c.params c.param_bounds i →
    xs ≡ (slice_index_or (column_blocks c) b no_block).params
params-of c b i xs less is e = e ∙ ap (part c.params c.param_bounds) is ∙ sym (ap (λ v. v.params) (block-of c b less))

-- the operands of an instruction are the part that has the instruction's number
pub operands-of : (c : Columns) (n i : ℕ) (xs : List OperandValue) → n < length (column_insts c) → i ≡ n → xs ≡ part c.operands c.operand_bounds i →
    xs ≡ (slice_index_or (column_insts c) n no_inst).operands
operands-of c n i xs less is e = e ∙ ap (part c.operands c.operand_bounds) is ∙ sym (ap (λ v. v.operands) (inst-of c n less))

-- the arguments of an edge are the part that has the edge's number
pub arguments-of : (c : Columns) (b first k : ℕ) (xs : List VirtualRegister) → b < length (column_blocks c) → first ≡ slice_index c.succ_bounds b →
    k < slice_index c.succ_bounds (b + 1) - slice_index c.succ_bounds b → xs ≡ part c.arguments c.argument_bounds (first + k) →
    xs ≡ slice_index_or (slice_index_or (column_blocks c) b no_block).arguments k []
arguments-of c b first k xs less is within e =
    let start : ℕ = slice_index c.succ_bounds b in
    let count : ℕ = slice_index c.succ_bounds (b + 1) - start in
    e ∙ ap (λ n. part c.arguments c.argument_bounds (n + k)) is
    ∙ sym (get_or-map-range_with_len (part c.arguments c.argument_bounds) start count k (start + k) [] within refl)
    ∙ sym (ap (λ v. slice_index_or v.arguments k []) (block-of c b less))

-- an edge of a block is numbered between the block's bounds
pub edge-within : (c : Columns) (b k : ℕ) → b < length (column_blocks c) → slice_index c.succ_bounds (b + 1) ≤ length c.succs →
    k < length (slice_index_or (column_blocks c) b no_block).succs → k < slice_index c.succ_bounds (b + 1) - slice_index c.succ_bounds b
edge-within c b k less within h =
    let long : length (slice_index_or (column_blocks c) b no_block).succs ≡ slice_index c.succ_bounds (b + 1) - slice_index c.succ_bounds b =
    ap (λ v. length v.succs) (block-of c b less) ∙ length-between c.succs (slice_index c.succ_bounds b) (slice_index c.succ_bounds (b + 1)) within in
    omega (arith, long, h)

-- the kind that is read is the instruction's
pub kind-of : (c : Columns) (n i x : ℕ) → n < length (column_insts c) → i ≡ n → x ≡ get_or c.kinds i x → x ≡ slice_index c.kinds n
kind-of c n i x less is e =
    let here : i < length c.kinds = omega (arith, is, inst-within c n less) in
    get_or_read c.kinds i x here e 0 ∙ ap (λ j. slice_index c.kinds j) is

pub ret-of : (c : Columns) (n x : ℕ) → n < length (column_insts c) → x ≡ slice_index c.kinds n →
    nat_eq (x % 4) 1 ≡ (slice_index_or (column_insts c) n no_inst).is_ret
ret-of c n x less e = ap (λ k. nat_eq (k % 4) 1) e ∙ sym (ap (λ v. v.is_ret) (inst-of c n less))

pub branch-of : (c : Columns) (n x : ℕ) → n < length (column_insts c) → x ≡ slice_index c.kinds n →
    nat_eq (x % 4) 2 ≡ (slice_index_or (column_insts c) n no_inst).is_branch
branch-of c n x less e = ap (λ k. nat_eq (k % 4) 2) e ∙ sym (ap (λ v. v.is_branch) (inst-of c n less))

-- the set that is read is the instruction's
pub clobbers-of : (c : Columns) (n x i : ℕ) (s : PRegSet) → n < length (column_insts c) → x ≡ slice_index c.kinds n → i ≡ x / 4 → i < length c.sets →
    s ≡ get_or c.sets i s → s ≡ (slice_index_or (column_insts c) n no_inst).clobbers
clobbers-of c n x i s less e is inside read =
    get_or_read c.sets i s inside read empty_set ∙ ap (λ j. slice_index_or c.sets j empty_set) (is ∙ ap (λ k. k / 4) e)
    ∙ sym (ap (λ v. v.clobbers) (inst-of c n less))

-- what is read among bounds
pub bound-read : (bs : List ℕ) (i b x : ℕ) → i ≡ b → i < length bs → x ≡ get_or bs i x → x ≡ slice_index bs b
bound-read bs i b x is less e = get_or_read bs i x less e 0 ∙ ap (λ j. slice_index bs j) is

-- an edge of a block, whose edges begin at `first`
pub record IsEdge (c : Columns) (b first k : ℕ) : Type 0 where
  pub start : first ≡ slice_index c.succ_bounds b
  pub within : k < slice_index c.succ_bounds (b + 1) - slice_index c.succ_bounds b
  pub inside : first + k < length c.succs

pub is-edge : (c : Columns) (b first k : ℕ) → b < length (column_blocks c) → first ≡ slice_index c.succ_bounds b →
    slice_index c.succ_bounds (b + 1) ≤ length c.succs → k < length (slice_index_or (column_blocks c) b no_block).succs → IsEdge c b first k
is-edge c b first k less is end h =
    let within : k < slice_index c.succ_bounds (b + 1) - slice_index c.succ_bounds b = edge-within c b k less end h in
    record { start = is; within = within; inside = omega (arith, is, within, end) }

-- the range between two bounds is a block's
pub range-of : (c : Columns) (b first end : ℕ) (s : Span) → b < length (column_blocks c) → s ≡ record { first = first; end = end } →
    first ≡ slice_index c.inst_bounds b → end ≡ slice_index c.inst_bounds (b + 1) → s ≡ (slice_index_or (column_blocks c) b no_block).range
range-of c b first end s less is hf he =
    is ∙ ap (λ f. span f end) hf ∙ ap (span (slice_index c.inst_bounds b)) he ∙ sym (ap (λ v. v.range) (block-of c b less))
  where
    span : ℕ → ℕ → Span
    span f e = record { first = f; end = e }

-- What a number's uses say of the vreg that has it, in a function in SSA form.
use Rattle.std.proofs.Common.{ℕ, ◌≡◌, ◌+◌, ◌<◌, ◌≤◌, inl, inr, true, List, [], length, refl, sym, ap, ◌∙◌, subst, arith}
use Rattle.std.specs.Prelude.{Contains, slice_index_or}
use Rattle.std.proofs.lemmas.Bool.{cases_lt}
use Rattle.std.proofs.lemmas.List.{get_or_default}
use Rattle.regalloc2_names.specs.declared.OperandPos.{OperandPos}
use Rattle.regalloc2_names.specs.Register.{VirtualRegister, no_vreg}
use Rattle.regalloc2_names.specs.Operand.{OperandValue, is_def}
use Rattle.regalloc2_names.specs.Place.{before, after}
use Rattle.regalloc2_function.specs.FunctionValue.{FunctionValue, block_at, inst_at, last_of, op_at}
use Rattle.regalloc2_function.specs.Machine.{MachineValue}
use Rattle.regalloc2_function.specs.WellFormed.{IsDefinedUpTo, IsWellFormed}
use Rattle.regalloc2_semantics.specs.Debug.{UsesAt}
use Rattle.regalloc2_semantics.specs.Live.{DefinesAt, ReadsAt, PassesAt}
use Rattle.regalloc2_semantics.proofs.Soundness.{edge_within}
use Rattle.regalloc2_function.specs.Inside.TableLength.{CoversDefinitions}
use Rattle.regalloc2_carry.proofs.SingleDef.{IsDefOperand, Made, TakesAt, is_made, made_before, made_behind, made_small, not_both, one_made, one_param}
use Rattle.regalloc2_carry.proofs.SingleDef.{reads_defined}
use Rattle.regalloc2_carry.proofs.SingleDef.Made.{by_operand, by_param}
use Rattle.regalloc2_carry.proofs.Order.{ends_within, passes_later, reads_later}
use Rattle.regalloc2_analysis.specs.declared.live_ranges.InstOperand.{InstOperand}
use Rattle.regalloc2_analysis.specs.LiveRanges.LiveRanges.{IsDefiner, IsReader, IsSSA}
use Rattle.regalloc2_analysis.specs.LiveRanges.LastUses.{HasNumber, PassesNumber, ReadsNumber, UsesNumber}
use Rattle.regalloc2_analysis.specs.LiveRanges.LastUses.UsesNumber.{reads, passes}
use Rattle.regalloc2_analysis.proofs.LiveRangesLemmas.ItemsPastEnd.{op_is}

-- a well-formed function is in SSA form
pub well_formed_ssa : (env : MachineValue) (f : FunctionValue) → IsWellFormed env f → IsSSA f
well_formed_ssa env f w = record { some = let first = w.successors.0 in omega (arith, first); follow = w.follow; once = w.defined_once; uses = w.uses_defined }

-- a definition, as an operand of that number
pub IsDefOperand-from_DefinesAt : (f : FunctionValue) (v : VirtualRegister) (i : ℕ) (d : DefinesAt f v i) → IsDefOperand f v.number i d.0
IsDefOperand-from_DefinesAt f v i d =
    record { inst = d.1.0; operand = d.1.1; definition = d.2; number = ap (λ (w : VirtualRegister). w.number) d.1.2 }

-- a vreg that an instruction defines is defined in the function
pub made_by_definition : (f : FunctionValue) (v : VirtualRegister) (i : ℕ) → DefinesAt f v i → Made f v
made_by_definition f v i d = by_operand i d.0 (IsDefOperand-from_DefinesAt f v i d) d.1.2

-- a parameter, by its number
pub takes_number : (f : FunctionValue) (v : VirtualRegister) (b : ℕ) → b < length f.blocks → (h : Contains (block_at f b).params v) → TakesAt f v.number b h.0
takes_number f v b lt h = record {
  block = lt;
  param = h.1;
  number = ap (λ (w : VirtualRegister). w.number) (get_or_default (block_at f b).params h.0 no_vreg v h.1 ∙ h.2);
}

-- a vreg that is a block's parameter is defined in the function
pub made_by_parameter : (f : FunctionValue) (v : VirtualRegister) (b : ℕ) → b < length f.blocks → Contains (block_at f b).params v → Made f v
made_by_parameter f v b lt h = by_param b h.0 (takes_number f v b lt h) (get_or_default (block_at f b).params h.0 no_vreg v h.1 ∙ h.2)

-- what is read is read by its number
pub read_number : (f : FunctionValue) (v : VirtualRegister) (at : OperandPos) (i : ℕ) (r : ReadsAt f v at i) →
    ReadsNumber (inst_at f i).operands v.number at r.0
read_number f v at i r = record { within = r.1.1; reading = r.2; position = r.3; number = ap (λ (w : VirtualRegister). w.number) r.1.2 }

HasNumber-from_Contains : (vs : List VirtualRegister) (v : VirtualRegister) → Contains vs v → HasNumber vs (length vs) v.number
HasNumber-from_Contains vs v h = (h.0, h.1, h.1, ap (λ (w : VirtualRegister). w.number) (get_or_default vs h.0 no_vreg v h.1 ∙ h.2))

-- an instruction that uses a vreg uses its number
pub used_number : (f : FunctionValue) (v : VirtualRegister) (i : ℕ) → UsesAt f v i → UsesNumber f v.number i
used_number f v i (inl r) = reads OperandPos.Early r.0 r.1.0 (read_number f v OperandPos.Early i r)
used_number f v i (inr (inl r)) = reads OperandPos.Late r.0 r.1.0 (read_number f v OperandPos.Late i r)
used_number f v i (inr (inr (b, (k, (end, edge), has, other)))) =
    passes (b, edge_within f b k edge, omega (arith, end), (k, edge, HasNumber-from_Contains (slice_index_or (block_at f b).arguments k []) v has))

-- a reader reads
pub reader_reads : (f : FunctionValue) (v : VirtualRegister) (at : OperandPos) (o : InstOperand) → IsReader f v at o → ReadsAt f v at o.inst
reader_reads f v at o r = (o.index, (r.inst, r.index, r.vreg), r.reading, r.position)

-- a definer defines its vreg
pub definer_defines : (f : FunctionValue) (v : VirtualRegister) (o : InstOperand) → IsDefiner f v o → DefinesAt f v o.inst
definer_defines f v o d = (o.index, (d.inst, d.index, d.vreg), d.definition)

-- an operand that is read in turn, and defines
pub item_defines : (f : FunctionValue) (i k : ℕ) (ops : List OperandValue) (o : OperandValue) → i < length f.insts → ops ≡ (inst_at f i).operands →
    k < length ops → o ≡ slice_index_or ops k o → is_def o.kind ≡ true → IsDefiner f o.vreg (record { inst = i; index = k })
item_defines f i k ops o lt same less is def =
    let at : op_at (inst_at f i).operands k ≡ o = subst (λ (os : List OperandValue). op_at os k ≡ o) same (op_is ops k o less (sym is)) in
    record {
      inst = lt;
      index = subst (λ (os : List OperandValue). k < length os) same less;
      definition = ap (λ (p : OperandValue). is_def p.kind) at ∙ def;
      vreg = ap (λ (p : OperandValue). p.vreg) at;
    }

module _ (f : FunctionValue) (ssa : IsSSA f) where
  -- what is defined has an entry in a table with room
  pub definer_small : (n : ℕ) → CoversDefinitions f n → (v : VirtualRegister) (o : InstOperand) → IsDefiner f v o → v.number < n
  definer_small n room v o d = room v (after o.inst) (inr (o.inst, o.index, omega arith, d.index, d.definition, d.vreg))
      (made_small f ssa.once v (made_by_definition f v o.inst (definer_defines f v o d)))

  -- as an operand of an instruction
  pub defined_small : (n : ℕ) → CoversDefinitions f n → (v : VirtualRegister) (i : ℕ) → DefinesAt f v i → v.number < n
  defined_small n room v i d = definer_small n room v (record { inst = i; index = d.0 })
      (record { inst = d.1.0; index = d.1.1; definition = d.2; vreg = d.1.2 })

  -- a block's parameter has a number within the room
  pub parameter_small : (n : ℕ) → CoversDefinitions f n → (v : VirtualRegister) (b : ℕ) → b < length f.blocks → Contains (block_at f b).params v → v.number < n
  parameter_small n room v b lt h = room v (before (block_at f b).range.first) (inl (b, lt, omega arith, h))
      (made_small f ssa.once v (made_by_parameter f v b lt h))

  -- an operand that reads a number that is made reads its vreg
  pub is_reader : (v : VirtualRegister) → Made f v → (at : OperandPos) (i k : ℕ) → i < length f.insts → ReadsNumber (inst_at f i).operands v.number at k →
      IsReader f v at (record { inst = i; index = k })
  is_reader v made at i k lt r =
      let before = reads_defined f ssa.some ssa.follow ssa.uses i lt k r.within r.reading in
      let here = is_made f (op_at (inst_at f i).operands k).vreg i (made_before f (op_at (inst_at f i).operands k).vreg i lt before) in
      record {
        inst = lt;
        index = r.within;
        reading = r.reading;
        position = r.position;
        vreg = one_made f ssa.once (op_at (inst_at f i).operands k).vreg v here made r.number;
      }

  -- what is used is defined before
  argument_defined : (b s k : ℕ) → b < length f.blocks → s < length (block_at f b).succs → k < length (slice_index_or (block_at f b).arguments s []) →
      IsDefinedUpTo f (slice_index_or (slice_index_or (block_at f b).arguments s []) k no_vreg) (after (last_of (block_at f b)))
  argument_defined b s k lt edge less = (ssa.uses b lt).1 s edge k no_vreg less

  -- an instruction that passes the number passes the vreg, unless it defines the vreg
  pub passes_it : (v : VirtualRegister) → Made f v → (i : ℕ) → (DefinesAt f v i → ⊥) → PassesNumber f v.number i →
      (b : ℕ) × PassesAt f v (record { block = b; inst = i })
  passes_it v made i other p =
      let vs : List VirtualRegister = slice_index_or (block_at f p.0).arguments p.3.0 [] in
      let k : ℕ = p.3.2.0 in
      let w : VirtualRegister = slice_index_or vs k no_vreg in
      let within = ends_within f ssa.follow p.0 p.1 in
      let some = (ssa.follow p.0 p.1).0 in
      let last : ℕ = last_of (block_at f p.0) in
      let here = is_made f w (last + 1) (made_behind f w last (omega (arith, within, some)) (argument_defined p.0 p.3.0 k p.1 p.3.1 p.3.2.2)) in
      let same : w ≡ v = one_made f ssa.once w v here made p.3.2.3 in
      (p.0, (p.3.0, (omega (arith, some, p.2), p.3.1), (k, p.3.2.2, get_or_default vs k v no_vreg p.3.2.2 ∙ same), other))

  -- a use comes after the definition
  pub use_after : (v : VirtualRegister) (i j : ℕ) → DefinesAt f v i → UsesAt f v j → i < j
  use_after v i j d (inl r) = let n = read_number f v OperandPos.Early j r in
      reads_later f ssa.once v.number i d.0 j r.0 (IsDefOperand-from_DefinesAt f v i d) r.1.0 (reads_defined f ssa.some ssa.follow ssa.uses j r.1.0) n.within n.reading
      n.number
  use_after v i j d (inr (inl r)) = let n = read_number f v OperandPos.Late j r in
      reads_later f ssa.once v.number i d.0 j r.0 (IsDefOperand-from_DefinesAt f v i d) r.1.0 (reads_defined f ssa.some ssa.follow ssa.uses j r.1.0) n.within n.reading
      n.number
  use_after v i j d (inr (inr (b, (k, (end, edge), has, other)))) =
      let h = passes_later f ssa.once v.number i d.0 b k v (IsDefOperand-from_DefinesAt f v i d) ssa.follow ssa.uses (edge_within f b k edge) edge has refl in
      elim (cases_lt i j) [ inl less ↦ less | inr late ↦ absurd (other (subst (DefinesAt f v) (omega (arith, h, late, end)) d)) ]

  -- what is defined by a point is so by a later one
  later_point : (v : VirtualRegister) (p q : ℕ) → p ≤ q → IsDefinedUpTo f v p → IsDefinedUpTo f v q
  later_point v p q le (inl h) = inl (h.0, h.1, omega (arith, le, h.2), h.3)
  later_point v p q le (inr h) = inr (h.0, h.1, omega (arith, le, h.2), h.3, h.4, h.5)

  -- a vreg that is used is defined by the point after the use
  used_defined : (v : VirtualRegister) (j : ℕ) → UsesAt f v j → IsDefinedUpTo f v (after j)
  used_defined v j (inl r) = read_defined OperandPos.Early r
    where
      read_defined : (at : OperandPos) (r : ReadsAt f v at j) → IsDefinedUpTo f v (after j)
      read_defined at r = later_point v (before j) (after j) (omega arith) (subst (λ (w : VirtualRegister). IsDefinedUpTo f w (before j)) r.1.2
          (reads_defined f ssa.some ssa.follow ssa.uses j r.1.0 r.0 r.1.1 r.2))
  used_defined v j (inr (inl r)) = read_defined OperandPos.Late r
    where
      read_defined : (at : OperandPos) (r : ReadsAt f v at j) → IsDefinedUpTo f v (after j)
      read_defined at r = later_point v (before j) (after j) (omega arith) (subst (λ (w : VirtualRegister). IsDefinedUpTo f w (before j)) r.1.2
          (reads_defined f ssa.some ssa.follow ssa.uses j r.1.0 r.0 r.1.1 r.2))
  used_defined v j (inr (inr (b, (k, (end, edge), has, other)))) =
      let vs : List VirtualRegister = slice_index_or (block_at f b).arguments k [] in
      let at : slice_index_or vs has.0 no_vreg ≡ v = get_or_default vs has.0 no_vreg v has.1 ∙ has.2 in
      let last : j ≡ last_of (block_at f b) = omega (arith, end) in
      subst (λ (w : VirtualRegister). IsDefinedUpTo f w (after j)) at (subst (λ (n : ℕ). IsDefinedUpTo f (slice_index_or vs has.0 no_vreg) (after n)) (sym last)
      (argument_defined b k has.0 (edge_within f b k edge) edge has.1))

  -- a block's parameter is used in that block or behind it
  pub use_within : (v : VirtualRegister) (b j : ℕ) → b < length f.blocks → Contains (block_at f b).params v → UsesAt f v j → (block_at f b).range.first ≤ j
  use_within v b j lt h u = by_case (used_defined v j u)
    where
      by_case : IsDefinedUpTo f v (after j) → (block_at f b).range.first ≤ j
      by_case (inl p) =
          let same = one_param f ssa.once v.number b p.0 h.0 p.3.0 (takes_number f v b lt h) (takes_number f v p.0 p.1 p.3) in
          subst (λ (c : ℕ). (block_at f c).range.first ≤ j) (sym same.0) (let first = p.2 in omega (arith, first))
      by_case (inr o) =
          let used : j < length f.insts = inside v j u in
          let d : DefinesAt f v o.0 = (o.1, (omega (arith, o.2, used), o.3, o.5), o.4) in
          absurd (not_both f ssa.once v.number o.0 o.1 b h.0 (IsDefOperand-from_DefinesAt f v o.0 d) (takes_number f v b lt h))
        where
          inside : (v : VirtualRegister) (j : ℕ) → UsesAt f v j → j < length f.insts
          inside v j (inl r) = r.1.0
          inside v j (inr (inl r)) = r.1.0
          inside v j (inr (inr (b, (k, (end, edge), has, other)))) = let within = ends_within f ssa.follow b (edge_within f b k edge) in
              omega (arith, within, end)

use Rattle.std.proofs.Common.{arith, ℕ, List, true, ◌-◌, ◌^◌, ◌≡◌, ◌∙◌, ◌∷◌, ◌+◌, ◌*◌, ◌/◌, ◌%◌, ◌<◌, ◌≤◌, refl, ap, sym, subst, length, map, vec_len}
use Rattle.std.specs.Prelude.{All, nat_eq, nat_lt, slice_index}
use Rattle.std.specs.List.{range_with_len}
use Rattle.std.proofs.lemmas.List.Elements.{All-weaker}
use Rattle.std.proofs.lemmas.Bool.{ltb-true}
use Rattle.regalloc2_function.specs.FunctionValue.{label_of}
use Rattle.regalloc2_serialize.specs.Flat.Columns.Layout.{AreInColumns, column, header_of, kind_words, inst_ends, widths}
use Rattle.regalloc2_serialize.specs.Flat.Columns.Layout.{label_words}
use Rattle.regalloc2_serialize.specs.Flat.Columns.Value.{label_at, column_sizes}
use Rattle.regalloc2_serialize.proofs.Lists.{all-under}
use Rattle.regalloc2_serialize.proofs.ColumnsLemmas.Made.{same-columns, same-functions, count-of, all-below}
use Rattle.regalloc2_serialize.proofs.flat.columns.read.function_from.Goals as goal

pub labels_of-requires : goal.labels_of-requires
labels_of-requires g c = record {
  count = c.column-2.ensures.count ∙ ap (λ h. 4 * h.labels) (sym c.header-header.ensures);
  labels = rw (c.column-2.ensures.column, c.header-header.ensures) c.requires.names.vregs.labels;
}

pub sizes_of-requires : goal.sizes_of-requires
sizes_of-requires g c = record {
  int = rw c.header-header.ensures c.requires.limits.int;
  float = rw c.header-header.ensures c.requires.limits.float;
  vector = rw c.header-header.ensures c.requires.limits.vector;
}

-- how long a column is
count : (words : List ℕ) (k : ℕ) → AreInColumns words → nat_lt k 19 ≡ true → length (column words k) ≡ slice_index (widths (header_of words)) k
count words k laid less = count-of words k laid (ltb-true k 19 less)

-- how long a list of bounds is
one-longer : (bounds ends : List ℕ) (n m : ℕ) → n ≡ length bounds → bounds ≡ 0 ∷ ends → length ends ≡ m → n ≡ m + 1
one-longer bounds ends n m is items ends_are = omega (arith, ap length items)

both : (n m k : ℕ) → n ≡ k → m ≡ k → n ≡ m
both n m k is_n is_m = is_n ∙ sym is_m

one-for-each : (n m k : ℕ) → n ≡ k + 1 → m ≡ k → n ≡ m + 1
one-for-each n m k is_n is_m = omega arith

few : (n m : ℕ) → n ≡ m + 1 → m < 2 ^ 32 - 1 → n < 2 ^ 32
few n m is less = omega arith

some : (n m : ℕ) → n ≡ m + 1 → 1 ≤ n
some n m is = omega arith

among : (k n m : ℕ) → k ≤ m → n ≡ m + 1 → k < n
among k n m small is = omega arith

inside : (k n m e : ℕ) → k + 1 < n → n ≡ m + 1 → e ≡ m → k < e
inside k n m e less is ends_are = omega arith

pub invariant_of-result : goal.invariant_of-result
invariant_of-result g c =
    let words = c.args.cut.now.words.now in
    let laid = c.requires.laid_out in
    let tables = c.in_ok-insts.ensures in
    let edges = c.in_ok-edges.ensures in
    let kinds = c.in_ok-insts.insts.kinds in
    let sets = c.in_ok-insts.insts.sets in
    let bounds = c.in_ok-inst_bounds.inst_bounds in
    let is : bounds.items ≡ 0 ∷ inst_ends words = c.in_ok-inst_bounds.ensures ∙ ap (λ l. 0 ∷ l) c.column.ensures.column in
    let blocks : vec_len bounds ≡ (header_of words).blocks + 1 = one-longer _ _ _ _ bounds.ok.0 c.in_ok-inst_bounds.ensures c.column.ensures.count in
    let insts : vec_len kinds ≡ (header_of words).insts = kinds.ok.0 ∙ ap length tables.kinds ∙ count words 6 laid refl in
    let numbers : vec_len sets ≡ (header_of words).sets + 1 = sets.ok.0 ∙ tables.sets.count_is in
    let succs = c.in_ok-edges.edges.succs.items.ok.0 ∙ ap length edges.succs ∙ count words 14 laid refl in
    record {
      few_insts = rw insts c.requires.limits.insts;
      few_blocks = few _ _ blocks c.requires.limits.blocks;
      few_vregs = rw c.header-header.ensures c.requires.limits.vregs;
      labels_below = all-under (λ l. l.vreg.number < c.header-header.result.vregs) label_of (label_at c.column-2.result.now) c.in_ok-labels.labels.items
          (range_with_len 0 c.header-header.result.labels) c.in_ok-labels.ensures
          (all-below (λ k. slice_index c.column-2.result.now (4 * k) / 4 < c.header-header.result.vregs) c.header-header.result.labels
          (rw (c.column-2.ensures.column, c.header-header.ensures) c.requires.within.labels));
      set_of_each = subst (All (λ k. k / 4 < vec_len sets)) (sym tables.kinds)
          (All-weaker (λ k. k / 4 ≤ (header_of words).sets) (λ k. k / 4 < vec_len sets) (λ k small. among (k / 4) _ _ small numbers) (kind_words words)
          c.requires.within.sets);
      operands_of_each = one-for-each _ _ _
          (one-longer _ _ _ _ c.in_ok-insts.insts.operands.bounds.ok.0 tables.operand_bounds (count words 7 laid refl)) insts;
      insts_rise = λ k less. subst (λ bs. slice_index bs k ≤ slice_index bs (k + 1)) (sym is)
          (c.requires.covered.insts.rises k (inside k _ _ _ less blocks (count words 9 laid refl)));
      bounded = some _ _ blocks;
      preds_of_each = both _ _ _ (one-longer _ _ _ _ c.in_ok-edges.edges.preds.bounds.ok.0 edges.pred_bounds (count words 10 laid refl)) blocks;
      succs_of_each = both _ _ _ (one-longer _ _ _ _ c.in_ok-edges.edges.succs.bounds.ok.0 edges.succ_bounds (count words 11 laid refl)) blocks;
      params_of_each = both _ _ _ (one-longer _ _ _ _ c.in_ok-edges.edges.params.bounds.ok.0 edges.param_bounds (count words 12 laid refl)) blocks;
      arguments_of_each = one-for-each _ _ _
          (one-longer _ _ _ _ c.in_ok-edges.edges.arguments.bounds.ok.0 edges.argument_bounds (count words 16 laid refl)) succs;
    }

pub machine_from-requires : goal.machine_from-requires
machine_from-requires g c = c.requires

pub returns-clause-machine : goal.returns-clause-machine
returns-clause-machine g c = c.in_ok-machine.ensures

pub insts_from-requires : goal.insts_from-requires
insts_from-requires g c = c.requires

pub edges_from-requires : goal.edges_from-requires
edges_from-requires g c = c.requires

pub returns-clause-function : goal.returns-clause-function
returns-clause-function g c =
    let words = c.args.cut.now.words.now in
    let head = c.header-header.ensures in
    let tables = c.in_ok-insts.ensures in
    let edges = c.in_ok-edges.ensures in
    record {
      sets = c.in_ok-insts.insts.sets.items;
      numbered = tables.sets;
      is = same-functions
          (same-columns tables.kinds refl tables.operands tables.operand_bounds
          (c.in_ok-inst_bounds.ensures ∙ ap (λ l. 0 ∷ l) c.column.ensures.column) edges.preds edges.pred_bounds
          edges.succs edges.succ_bounds edges.params edges.param_bounds edges.arguments edges.argument_bounds)
          (c.new.ensures ∙ ap (λ h. h.entry) head) (ap (λ h. h.vregs) head) (c.sizes_of.ensures ∙ ap (λ h. column_sizes h.sizes) head)
          (c.is_named_by_last_slot.ensures ∙ ap (λ h. nat_eq (h.flags % 2) 1) head)
          (c.in_ok-labels.ensures ∙ ap (λ ws. map (label_at ws) (range_with_len 0 c.header-header.result.labels)) c.column-2.ensures.column
          ∙ ap (λ h. map (label_at (label_words words)) (range_with_len 0 h.labels)) head)
          (c.allows_multiple_defs.ensures ∙ ap (λ h. nat_eq (h.flags / 2) 1) head);
    }

pub returns-clause-memory : goal.returns-clause-memory
returns-clause-memory g c = tt

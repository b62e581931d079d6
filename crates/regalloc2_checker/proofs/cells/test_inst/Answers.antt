use Rattle.std.proofs.Common.{◌≡◌, ◌∙◌, ap, refl, subst, arith, below_more, get_or, length, sym}
use Rattle.std.proofs.lemmas.List.{get_or_default}
use Rattle.regalloc2_names.specs.Operand.{OperandValue}
use Rattle.regalloc2_names.specs.Place.{Place}
use Rattle.regalloc2_function.specs.FunctionValue.{slot_size, no_operand}
use Rattle.regalloc2_function.specs.OutputValue.{place_at, allocs_of}
use Rattle.regalloc2_function.specs.Views.{machine_of, output_of}
use Rattle.regalloc2_checker.specs.Cells.{operand_of, IsOperandCell, IsTakenByOperand}
use Rattle.regalloc2_checker.proofs.AddedSlots.{adds_none, adds_more, adds_at, adds_all}
use Rattle.std.proofs.lemmas.Bool.{false≢true}
use Rattle.regalloc2_checker.proofs.cells.test_inst.Goals as goal

pub loop-k-preserved : goal.loop-k-preserved
loop-k-preserved g c =
    let f = g.F.Function.function c.args.f.now in
    let out = output_of c.args.output.now in
    let env = machine_of c.args.env.now in
    let operands = c.inst_operands-operands.result.now in
    let op : c.index-operands-k.result ≡ operand_of f c.args.inst c.loop-k.k =
    c.index-operands-k.is ∙ get_or_default operands c.loop-k.k c.index-operands-k.result no_operand c.loop-k-test.true
    ∙ ap (λ os. get_or os c.loop-k.k no_operand) c.loop-k.invariant.operands in
    let place : c.place_at-place.result ≡ place_at (allocs_of out c.args.inst) c.loop-k.k =
    c.place_at-place.ensures ∙ ap (λ ps. place_at ps c.loop-k.k) c.loop-k.invariant.places in
    let units : c.spillslot_size.result ≡ slot_size f.slot_sizes (operand_of f c.args.inst c.loop-k.k).vreg.class =
    c.spillslot_size.ensures.size ∙ ap (λ class. slot_size f.slot_sizes class) (c.class.ensures ∙ ap (λ (o : OperandValue). o.vreg.class) op) in
    record {
      operands = c.loop-k.invariant.operands;
      places = c.loop-k.invariant.places;
      whole = refl;
      within = omega (arith, c.loop-k-test.true);
      cells = below_more _ _ c.loop-k.invariant.cells
          (subst (λ (o : OperandValue). IsOperandCell env out o (place_at (allocs_of out c.args.inst) c.loop-k.k)) op
          (subst (λ (p : Place). IsOperandCell env out c.index-operands-k.result p) place (c.is_operand_cell.ensures.0 c.if-not-is_operand_cell.false)));
      named = adds_more (λ j n u. IsTakenByOperand f out c.args.inst j n u) c.loop-k.k c.args.named.now c.loop-k.named c.add_slot.new.named
          c.loop-k.invariant.named
          (adds_at c.place_at-place.result (place_at (allocs_of out c.args.inst) c.loop-k.k) c.spillslot_size.result _ c.loop-k.named
          c.add_slot.new.named place units c.in_ok-add_slot.ensures);
    }

pub returns-clause-named : goal.returns-clause-named
returns-clause-named g c =
    let f = g.F.Function.function c.args.f.now in
    let out = output_of c.args.output.now in
    let count = ap length c.loop-k.invariant.operands in
    adds_all (λ j n u. IsTakenByOperand f out c.args.inst j n u) c.loop-k.k _ c.args.named.now c.loop-k.named
    (omega (arith, c.loop-k.invariant.within, count)) (omega (arith, c.loop-k-test.false, count)) c.loop-k.invariant.named

pub inst_operands-operands-requires : goal.inst_operands-operands-requires
inst_operands-operands-requires g c = c.requires.inst

pub loop-k-init : goal.loop-k-init
loop-k-init g c = record {
  operands = c.inst_operands-operands.ensures;
  places = c.inst_allocs-places.ensures;
  whole = refl;
  within = omega arith;
  cells = λ j less. absurd (omega (arith, less));
  named = adds_none (λ j n u. IsTakenByOperand (g.F.Function.function c.args.f.now) (output_of c.args.output.now) c.args.inst j n u) c.args.named.now;
}

pub returns-then-not-is_operand_cell-clause-fault : goal.returns-then-not-is_operand_cell-clause-fault
returns-then-not-is_operand_cell-clause-fault g c =
    let f = g.F.Function.function c.args.f.now in
    let out = output_of c.args.output.now in
    let env = machine_of c.args.env.now in
    let operands = c.inst_operands-operands.result.now in
    let op : c.index-operands-k.result ≡ operand_of f c.args.inst c.loop-k.k =
    c.index-operands-k.is ∙ get_or_default operands c.loop-k.k c.index-operands-k.result no_operand c.loop-k-test.true
    ∙ ap (λ os. get_or os c.loop-k.k no_operand) c.loop-k.invariant.operands in
    let place : c.place_at-place.result ≡ place_at (allocs_of out c.args.inst) c.loop-k.k =
    c.place_at-place.ensures ∙ ap (λ ps. place_at ps c.loop-k.k) c.loop-k.invariant.places in
    let count = ap length c.loop-k.invariant.operands in (
      c.requires.inst,
      omega (arith, count, c.loop-k-test.true),
      λ cell. absurd (false≢true (sym c.if-not-is_operand_cell.true ∙ c.is_operand_cell.ensures.1
          (subst (λ (o : OperandValue). IsOperandCell env out o c.place_at-place.result) (sym op)
          (subst (λ (p : Place). IsOperandCell env out (operand_of f c.args.inst c.loop-k.k) p) (sym place) cell)))),
    )

pub returns-clause-cells : goal.returns-clause-cells
returns-clause-cells g c =
    let count = ap length c.loop-k.invariant.operands in
    λ j less. c.loop-k.invariant.cells j (omega (arith, less, count, c.loop-k-test.false))

pub returns-then-not-is_operand_cell-clause-cells : goal.returns-then-not-is_operand_cell-clause-cells
returns-then-not-is_operand_cell-clause-cells g c = tt

pub returns-then-not-is_operand_cell-clause-named : goal.returns-then-not-is_operand_cell-clause-named
returns-then-not-is_operand_cell-clause-named g c = tt

pub returns-clause-fault : goal.returns-clause-fault
returns-clause-fault g c = tt

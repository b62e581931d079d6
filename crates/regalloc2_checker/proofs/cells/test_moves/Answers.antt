use Rattle.std.proofs.Common.{◌≡◌, ◌<◌, ◌∙◌, sym, ap, subst, arith, below_more, length}
use Rattle.std.proofs.lemmas.List.{length-map}
use Rattle.regalloc2_index.proofs.Bools.{false_refutes}
use Rattle.regalloc2_names.specs.Place.{Place, InSlot}
use Rattle.regalloc2_function.specs.OutputValue.{MoveValue}
use Rattle.regalloc2_semantics.specs.Places.{IsMoveEnd}
use Rattle.regalloc2_function.specs.Views.{edit_of, machine_of, output_of}
use Rattle.regalloc2_checker.specs.Cells.{move_of_index, units_beside, IsTakenByMove}
use Rattle.regalloc2_checker.proofs.AddedSlots.{adds_more, adds_both, adds_at, adds_all}
use Rattle.regalloc2_checker.proofs.OutputItems.{move_is}
use Rattle.regalloc2_checker.proofs.cells.test_moves.Goals as goal

pub returns-then-not-are_move_ends-clause-fault : goal.returns-then-not-are_move_ends-clause-fault
returns-then-not-are_move_ends-clause-fault g c =
    let out = output_of c.args.output.now in
    let env = machine_of c.args.env.now in
    let less : c.loop-k.k < length out.edits = omega (arith, c.loop-k-test.true, c.loop-k.invariant.whole) in
    let within : c.loop-k.k < length c.args.output.now.edits.items = omega (arith, less, length-map c.args.output.now.edits.items edit_of) in
    let move = move_is c.args.output.now c.loop-k.k c.index-edit.result.now _ within c.index-edit.ensures in
    let from : c.places-from.result.0 ≡ (move_of_index out c.loop-k.k).from = c.places-from.ensures.from ∙ ap (λ (m : MoveValue). m.from) move in
    let to : c.places-from.result.1 ≡ (move_of_index out c.loop-k.k).to = c.places-from.ensures.to ∙ ap (λ (m : MoveValue). m.to) move in (
      less,
      λ h. false_refutes c.are_move_ends.result c.if-not-are_move_ends.true c.are_move_ends.ensures.1
          (subst (λ (p : Place). IsMoveEnd env out p) (sym from) h.0, subst (λ (p : Place). IsMoveEnd env out p) (sym to) h.1),
    )

pub returns-then-not-is_within_class-clause-fault : goal.returns-then-not-is_within_class-clause-fault
returns-then-not-is_within_class-clause-fault g c =
    let out = output_of c.args.output.now in
    let less : c.loop-k.k < length out.edits = omega (arith, c.loop-k-test.true, c.loop-k.invariant.whole) in
    let within : c.loop-k.k < length c.args.output.now.edits.items = omega (arith, less, length-map c.args.output.now.edits.items edit_of) in
    let move = move_is c.args.output.now c.loop-k.k c.index-edit.result.now _ within c.index-edit.ensures in
    let from : c.places-from.result.0 ≡ (move_of_index out c.loop-k.k).from = c.places-from.ensures.from ∙ ap (λ (m : MoveValue). m.from) move in
    let to : c.places-from.result.1 ≡ (move_of_index out c.loop-k.k).to = c.places-from.ensures.to ∙ ap (λ (m : MoveValue). m.to) move in (
      less,
      λ h.
          false_refutes c.is_within_class.result c.if-not-is_within_class.true c.is_within_class.ensures.1 (λ r s e d. h r s (sym from ∙ e) (sym to ∙ d)),
    )

pub loop-k-preserved : goal.loop-k-preserved
loop-k-preserved g c =
    let f = g.F.Function.function c.args.f.now in
    let out = output_of c.args.output.now in
    let env = machine_of c.args.env.now in
    let less : c.loop-k.k < length out.edits = omega (arith, c.loop-k-test.true, c.loop-k.invariant.whole) in
    let within : c.loop-k.k < length c.args.output.now.edits.items = omega (arith, less, length-map c.args.output.now.edits.items edit_of) in
    let move = move_is c.args.output.now c.loop-k.k c.index-edit.result.now _ within c.index-edit.ensures in
    let m : MoveValue = move_of_index out c.loop-k.k in
    let from : c.places-from.result.0 ≡ m.from = c.places-from.ensures.from ∙ ap (λ (m : MoveValue). m.from) move in
    let to : c.places-from.result.1 ≡ m.to = c.places-from.ensures.to ∙ ap (λ (m : MoveValue). m.to) move in
    let ends = c.are_move_ends.ensures.0 c.if-not-are_move_ends.false in
    let class = c.is_within_class.ensures.0 c.if-not-is_within_class.false in
    let first = adds_at c.places-from.result.0 m.from (units_beside f c.places-from.result.1) (units_beside f m.to) c.loop-k.named
    c.add_end.new.named from (ap (λ (p : Place). units_beside f p) to) c.in_ok-add_end.ensures in
    let second = adds_at c.places-from.result.1 m.to (units_beside f c.places-from.result.0) (units_beside f m.from) c.add_end.new.named
    c.add_end-in-loop-k.new.named to (ap (λ (p : Place). units_beside f p) from) c.in_ok-add_end-2.ensures in
    record {
      whole = c.loop-k.invariant.whole;
      within = omega (arith, c.loop-k-test.true);
      ends = below_more _ _ c.loop-k.invariant.ends
          (subst (λ (p : Place). IsMoveEnd env out p) from ends.0, subst (λ (p : Place). IsMoveEnd env out p) to ends.1);
      classes = below_more _ _ c.loop-k.invariant.classes (λ r s e d. class r s (from ∙ e) (to ∙ d));
      named = adds_more (λ j n u. IsTakenByMove f (move_of_index out j) n u) c.loop-k.k c.args.named.now c.loop-k.named
          c.add_end-in-loop-k.new.named c.loop-k.invariant.named
          (adds_both (λ n u. (m.from ≡ InSlot n) × (u ≡ units_beside f m.to)) (λ n u. (m.to ≡ InSlot n) × (u ≡ units_beside f m.from)) c.loop-k.named
          c.add_end.new.named c.add_end-in-loop-k.new.named first second);
    }

pub returns-clause-ends : goal.returns-clause-ends
returns-clause-ends g c = λ k less. c.loop-k.invariant.ends k (omega (arith, less, c.loop-k-test.false, c.loop-k.invariant.whole))

pub returns-clause-classes : goal.returns-clause-classes
returns-clause-classes g c = λ k less. c.loop-k.invariant.classes k (omega (arith, less, c.loop-k-test.false, c.loop-k.invariant.whole))

pub returns-clause-named : goal.returns-clause-named
returns-clause-named g c =
    let out = output_of c.args.output.now in
    adds_all (λ j n u. IsTakenByMove (g.F.Function.function c.args.f.now) (move_of_index out j) n u) c.loop-k.k (length out.edits) c.args.named.now
    c.loop-k.named (omega (arith, c.loop-k.invariant.within, c.loop-k.invariant.whole)) (omega (arith, c.loop-k-test.false, c.loop-k.invariant.whole))
    c.loop-k.invariant.named

pub returns-then-not-are_move_ends-clause-ends : goal.returns-then-not-are_move_ends-clause-ends
returns-then-not-are_move_ends-clause-ends g c = tt

pub returns-then-not-are_move_ends-clause-classes : goal.returns-then-not-are_move_ends-clause-classes
returns-then-not-are_move_ends-clause-classes g c = tt

pub returns-then-not-are_move_ends-clause-named : goal.returns-then-not-are_move_ends-clause-named
returns-then-not-are_move_ends-clause-named g c = tt

pub returns-then-not-is_within_class-clause-ends : goal.returns-then-not-is_within_class-clause-ends
returns-then-not-is_within_class-clause-ends g c = tt

pub returns-then-not-is_within_class-clause-classes : goal.returns-then-not-is_within_class-clause-classes
returns-then-not-is_within_class-clause-classes g c = tt

pub returns-then-not-is_within_class-clause-named : goal.returns-then-not-is_within_class-clause-named
returns-then-not-is_within_class-clause-named g c = tt

pub returns-clause-fault : goal.returns-clause-fault
returns-clause-fault g c = tt

use Rattle.std.proofs.lemmas.Result.{IfErr-weaker}
use Rattle.regalloc2_function.specs.Views.{machine_of, output_of}
use Rattle.regalloc2_checker.proofs.JudgedCells.{both_ok, named_same, cells_of, fault_of}
use Rattle.regalloc2_checker.proofs.cells.test_cells.Goals as goal

pub returns-clause-cells : goal.returns-clause-cells
returns-clause-cells g c =
    let f = g.F.Function.function c.args.f.now in
    let out = output_of c.args.output.now in
    let slots = c.as_mut_slice.result.now in
    both_ok c.test_slots.result
    (cells_of f (machine_of c.args.env.now) out c.multi_spillslot_named_by_last_slot-by_last.result slots c.multi_spillslot_named_by_last_slot-by_last.ensures
    (named_same f out slots c.in_ok-named.named.items c.as_mut_slice.ensures.value c.in_ok-named.ensures.named) c.in_ok-named.ensures.places)
    c.test_slots.ensures.frame c.test_slots.ensures.apart

pub returns-clause-fault : goal.returns-clause-fault
returns-clause-fault g c =
    let f = g.F.Function.function c.args.f.now in
    let out = output_of c.args.output.now in
    let slots = c.as_mut_slice.result.now in
    IfErr-weaker c.test_slots.result _ _
    (fault_of f (machine_of c.args.env.now) out c.multi_spillslot_named_by_last_slot-by_last.result slots c.multi_spillslot_named_by_last_slot-by_last.ensures
    (named_same f out slots c.in_ok-named.named.items c.as_mut_slice.ensures.value c.in_ok-named.ensures.named)) c.test_slots.ensures.fault

use Rattle.std.proofs.Common.{◌∙◌, sym}
use Rattle.std.proofs.lemmas.List.{take_all}
use Rattle.std.proofs.lemmas.List.Elements.{All-more, All-same}
use Rattle.regalloc2_index.proofs.Bools.{false_refutes, not_both}
use Rattle.regalloc2_function.specs.Misfit.{IsSlotApart}
use Rattle.regalloc2_function.specs.Views.{machine_of}
use Rattle.regalloc2_function.proofs.ListsInParts.{first_here}
use Rattle.regalloc2_function.proofs.machine.MachineEnv.test_slots.Goals as goal

pub loop-slot-preserved : goal.loop-slot-preserved
loop-slot-preserved g c =
    let free = sym (c.allocatable.ensures c.slot-item.result) ∙ sym c.contains.ensures.member ∙ c.if-contains.false in
    record {
      slots = c.loop-slot.invariant.slots;
      apart = All-more (IsSlotApart (machine_of c.args.self.now) c.args.class) c.as_slice-slot-items.result.now c.loop-slot.slot-index c.slot-item.result
          c.loop-slot-test.true c.loop-slot.invariant.apart
          (rw (← c.slot-item.is) (free, false_refutes _ c.if-is_scratch.false c.is_scratch.ensures.1));
    }

pub returns-clause-ok : goal.returns-clause-ok
returns-clause-ok g c =
    let items = c.args.self.now.fixed_stack_slots.items in
    let P = IsSlotApart (machine_of c.args.self.now) c.args.class in
    All-same P items c.as_slice-slot-items.result.now (sym c.loop-slot.invariant.slots)
    (All-same P c.as_slice-slot-items.result.now _ (sym (take_all c.loop-slot.slot-index c.as_slice-slot-items.result.now c.loop-slot-test.false))
    c.loop-slot.invariant.apart)

pub returns-then-contains-clause-ok : goal.returns-then-contains-clause-ok
returns-then-contains-clause-ok g c = tt

pub returns-then-contains-clause-misfit : goal.returns-then-contains-clause-misfit
returns-then-contains-clause-misfit g c = λ f passes. (
  passes,
  first_here (IsSlotApart (machine_of c.args.self.now) c.args.class) c.args.self.now.fixed_stack_slots.items c.loop-slot.slot-index c.slot-item.result
      (rw c.loop-slot.invariant.slots at c.loop-slot-test.true) (rw c.loop-slot.invariant.slots at c.slot-item.is)
      (rw c.loop-slot.invariant.slots at c.loop-slot.invariant.apart) (λ apart. not_both _ (sym (c.allocatable.ensures c.slot-item.result) ∙ sym c.contains.ensures.member ∙ c.if-contains.true) apart.0),
  sym (c.allocatable.ensures c.slot-item.result) ∙ sym c.contains.ensures.member ∙ c.if-contains.true,
)

pub returns-then-is_scratch-clause-ok : goal.returns-then-is_scratch-clause-ok
returns-then-is_scratch-clause-ok g c = tt

pub returns-then-is_scratch-clause-misfit : goal.returns-then-is_scratch-clause-misfit
returns-then-is_scratch-clause-misfit g c = λ f passes. (
  passes,
  first_here (IsSlotApart (machine_of c.args.self.now) c.args.class) c.args.self.now.fixed_stack_slots.items c.loop-slot.slot-index c.slot-item.result
      (rw c.loop-slot.invariant.slots at c.loop-slot-test.true) (rw c.loop-slot.invariant.slots at c.slot-item.is)
      (rw c.loop-slot.invariant.slots at c.loop-slot.invariant.apart) (λ apart. apart.1 (c.is_scratch.ensures.0 c.if-is_scratch.true)),
  sym (c.allocatable.ensures c.slot-item.result) ∙ sym c.contains.ensures.member ∙ c.if-contains.false,
  c.is_scratch.ensures.0 c.if-is_scratch.true,
)

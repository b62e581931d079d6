use Rattle.regalloc2_checker.proofs.Members.{slots_more, slots_done}
use Rattle.regalloc2_checker.proofs.constraints.stack_slots.Goals as goal

pub loop-reg-preserved : goal.loop-reg-preserved
loop-reg-preserved g c =
    slots_more c.as_slice-reg-items.result.now c.loop-reg.reg-index c.reg-item.result c.loop-reg.slots c.add.new.self c.loop-reg-test.true c.reg-item.is
    c.add.ensures.members c.loop-reg.invariant

pub returns : goal.returns
returns g c = slots_done c.as_slice-reg-items.result.now c.args.env.now.fixed_stack_slots.items c.loop-reg.reg-index c.loop-reg.slots c.loop-reg-test.false
    c.as_slice-reg-items.ensures.value c.loop-reg.invariant

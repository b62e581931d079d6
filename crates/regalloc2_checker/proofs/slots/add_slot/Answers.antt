use Rattle.std.proofs.Common.{◌∙◌, sym}
use Rattle.regalloc2_checker.proofs.AddedSlots.{adds_own}
use Rattle.regalloc2_checker.proofs.slots.add_slot.Goals as goal

pub returns-in_ok-add : goal.returns-in_ok-add
returns-in_ok-add g c =
    adds_own c.args.place c.index.result c.args.units c.args.named.now c.add.new.self (sym c.is_stack.ensures ∙ c.if-is_stack.true) c.index.ensures
    c.in_ok-add.ensures

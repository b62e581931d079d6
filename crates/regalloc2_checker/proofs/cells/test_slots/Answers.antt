use Rattle.std.proofs.lemmas.Result.{on_ok_weaker, IfErr-weaker}
use Rattle.regalloc2_checker.proofs.SweptSlots.{apart_before, shared_before}
use Rattle.regalloc2_checker.proofs.cells.test_slots.Goals as goal

pub returns-clause-apart : goal.returns-clause-apart
returns-clause-apart c =
    on_ok_weaker c.test_apart.result (apart_before c.args.by_last c.args.named.now c.turn.new.named c.turn.ensures.members) c.test_apart.ensures.apart

pub returns-clause-fault : goal.returns-clause-fault
returns-clause-fault c =
    IfErr-weaker c.test_apart.result _ _ (shared_before c.args.by_last c.args.count c.args.named.now c.turn.new.named c.turn.ensures.members)
    c.test_apart.ensures.fault

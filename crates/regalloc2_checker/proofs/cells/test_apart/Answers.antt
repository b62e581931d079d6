use Rattle.std.proofs.Common.{refl}
use Rattle.regalloc2_index.proofs.Bools.{false_refutes}
use Rattle.regalloc2_checker.proofs.SweptSlots.{now_other, swept_more, swept_all, is_shared, reaches_none}
use Rattle.regalloc2_checker.specs.CellFaults.{slot_at}
use Rattle.regalloc2_checker.proofs.cells.test_apart.Goals as goal
use Rattle.regalloc2_checker.proofs.cells.test_apart.Goals.{in-Some+else-reaches, in_default}

pub returns-then-reaches-clause-fault : goal.returns-then-reaches-clause-fault
returns-then-reaches-clause-fault c =
    let r = now_other c.args.by_last c.args.named.now c.loop-k.k _ c.loop-k.slots c.go_on-slots.result c.loop-k.invariant.turned c.loop-k-test.true refl
    c.go_on-slots.ensures c.loop-k.invariant.swept c.in-Some.other c.in-Some.is in
    is_shared c.args.by_last c.args.named.now c.loop-k.k _ c.in-Some.other c.shared.result c.loop-k-test.true refl r.0 r.1 r.2
    (c.reaches.ensures.0 c.if-reaches.true) c.shared.ensures.rising c.shared.ensures.falling

pub loop-k-preserved : goal.loop-k-preserved
loop-k-preserved c = record {
  turned = c.loop-k.invariant.turned;
  swept = swept_more c.args.by_last c.args.named.now c.loop-k.k _ c.loop-k.slots c.go_on-slots.result c.loop-k.invariant.turned c.loop-k-test.true refl
      c.go_on-slots.ensures (λ o e h. elim c.match-slots.branch [
        | in-Some+else-reaches w ↦ reaches_none c.args.by_last (slot_at c.args.named.now c.loop-k.k) w.in-Some.other o c.go_on-slots.result.1 w.in-Some.is e
            (false_refutes w.reaches.result w.if-reaches.false w.reaches.ensures.1) h
        | in_default w ↦ w.in_default.not-Some o e
      ]) c.loop-k.invariant.swept;
}

pub returns-clause-apart : goal.returns-clause-apart
returns-clause-apart c = swept_all c.args.by_last c.args.named.now c.loop-k.k c.loop-k.slots c.loop-k-test.false c.loop-k.invariant.swept

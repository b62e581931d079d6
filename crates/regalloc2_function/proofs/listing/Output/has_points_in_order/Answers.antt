use Rattle.std.proofs.Common.{arith, refl}
use Rattle.regalloc2_index.proofs.Bools.{false_is_not_true}
use Rattle.regalloc2_function.proofs.OrderLaws.{points_fall, points_rise}
use Rattle.regalloc2_function.proofs.listing.Output.has_points_in_order.Goals as goal

pub returns-then-to_index : goal.returns-then-to_index
returns-then-to_index g c =
    let fall = points_fall c.as_slice-edits.result.now c.loop-i.i c.index-edits-i.result c.index-edits-i-in-loop-i.result (omega arith) (omega arith)
    (omega (arith, c.if-to_index.true, c.to_index.ensures.index, c.to_index-in-loop-i.ensures.index)) in
    (λ t. absurd (false_is_not_true t), λ h. absurd (fall (rw c.as_slice-edits.ensures.value h)))

pub returns : goal.returns
returns g c =
    let rise = points_rise c.as_slice-edits.result.now c.loop-i.i (omega arith) c.loop-i.invariant.so_far in
    (λ t. rw c.as_slice-edits.ensures.value at rise, λ h. refl)

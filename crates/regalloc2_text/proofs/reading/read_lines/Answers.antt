use Rattle.std.proofs.Common.{arith}
use Rattle.regalloc2_text.proofs.reading.read_lines.Goals as goal

pub returns-in-Err-clause-on_line : goal.returns-in-Err-clause-on_line
returns-in-Err-clause-on_line g c =
    let i = c.loop-error.invariant in
    c.on_line.ensures _ _ (omega (arith, i.1, i.2, i.3)) (omega (arith, i.1, i.2, i.3))

pub returns-then-begins_block-clause-on_line : goal.returns-then-begins_block-clause-on_line
returns-then-begins_block-clause-on_line g c =
    let i = c.loop-error.invariant in
    c.no_inst_after.ensures _ _ (omega (arith, i.1, i.2, i.3)) (omega (arith, i.1, i.2, i.3))

pub returns-in-Err-read_line-clause-on_line : goal.returns-in-Err-read_line-clause-on_line
returns-in-Err-read_line-clause-on_line g c =
    let i = c.loop-error.invariant in
    c.on_line-in-Err-read_line.ensures _ _ (omega (arith, i.1, i.2, i.3)) (omega (arith, i.1, i.2, i.3))

pub returns-then-waits-3-clause-on_line : goal.returns-then-waits-3-clause-on_line
returns-then-waits-3-clause-on_line g c =
    let i = c.loop-error.invariant in
    let low = c.last_move-move_line.ensures.low i.2 in
    let high = c.last_move-move_line.ensures.high i.2 in
    c.no_inst_after-then-waits-3.ensures _ _ (omega (arith, i.1, low)) (omega (arith, i.3, high))

use Rattle.std.proofs.Common.{arith}
use Rattle.regalloc2_function.specs.FunctionValue.{FunctionValue}
use Rattle.regalloc2_function.proofs.TableLengths.{room_above, short_above}
use Rattle.regalloc2_function.proofs.table_length.table_length.Goals as goal

pub returns-clause-room : goal.returns-clause-room
returns-clause-room g c =
    let f : FunctionValue = g.F.Function.function c.args.f.now in
    room_above f c.above_blocks-params.result c.above_insts-above.result c.min.result
    (λ k low less. omega (arith, low, less, c.min.ensures, c.num_vregs-all.ensures.count)) c.above_insts-above.ensures.rises
    c.above_blocks-params.ensures.above c.above_insts-above.ensures.above

pub returns-clause-short : goal.returns-clause-short
returns-clause-short g c =
    let f : FunctionValue = g.F.Function.function c.args.f.now in
    short_above f c.above_blocks-params.result c.above_insts-above.result c.min.result (omega (arith, c.min.ensures)) c.above_blocks-params.ensures.near
    c.above_insts-above.ensures.near

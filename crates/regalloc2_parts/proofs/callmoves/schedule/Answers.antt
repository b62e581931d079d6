use Rattle.regalloc2_parts.specs.Callmoves.CallMoves.{IsCallFault}
use Rattle.std.proofs.Common.{subst, sym}
use Rattle.regalloc2_parts.proofs.callmoves.schedule.Goals as goal

pub find_fault-requires : goal.find_fault-requires
find_fault-requires g c = c.requires.small

pub returns-in-Some : goal.returns-in-Some
returns-in-Some g c = c.in-Some.ensures

pub returns-in-Ok : goal.returns-in-Ok
returns-in-Ok g c = (c.in_default.ensures, c.in-Ok.ensures)

pub returns-in-Err : goal.returns-in-Err
returns-in-Err g c = subst (λ e. IsCallFault c.args.moves.now c.args.frame.now e) (sym c.from.ensures) c.in-Err.ensures

use Rattle.std.proofs.Common.{map, take}
use Rattle.regalloc2_function.specs.Machine.{MachineValue}
use Rattle.regalloc2_checker.specs.Listing.{listed_move}
use Rattle.regalloc2_checker.specs.CheckInputs.{AreStackSlots}
use Rattle.regalloc2_checker.proofs.OperandErrors.{AreAdded}
use Rattle.regalloc2_checker.proofs.check.check_moves.Given as goal

-- the errors of the moves before were added
abbrev pub invariant-loop-k : goal.invariant-loop-k
invariant-loop-k g l = (env : MachineValue) → AreStackSlots env l.slots → AreAdded env (map listed_move (take l.k l.moves)) l.initial.errors.items l.errors.items

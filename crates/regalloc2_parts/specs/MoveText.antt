-- The texts of the errors of parallel moves and of a call's moves.
use Rattle.std.specs.Prelude.{ℕ, codes, List, ◌++◌}
use Rattle.std.specs.Fmt.{decimal}
use Rattle.regalloc2_names.specs.Text.{place_text}
use Rattle.regalloc2_parts.specs.declared.callmoves.CallFault.{CallFault}
use Rattle.regalloc2_parts.specs.declared.callmoves.CallFault.TheVariants as call
use Rattle.regalloc2_parts.specs.declared.moves.MoveFault.{MoveFault}
use Rattle.regalloc2_parts.specs.declared.moves.MoveFault.TheVariants as move

-- as a move needs a spill slot, and there is none
abbrev pub move_fault_text : MoveFault → List ℕ
move_fault_text move.NoSlot = codes "a move needs a spill slot, and there is none"
move_fault_text move.Memory = codes "out of memory"

-- as move 2 names no place
abbrev pub call_fault_text : CallFault → List ℕ
call_fault_text (call.NoneNamed k) = codes "move " ++ decimal k ++ codes " names no place"
call_fault_text (call.TwoSources p) = codes "two moves to " ++ place_text p ++ codes " have different sources"
call_fault_text (call.InUse p) = place_text p ++ codes " is to be free, and is in use"
call_fault_text call.NoSlot = codes "a move needs a slot, and the frame has none left"
call_fault_text call.Memory = codes "out of memory"

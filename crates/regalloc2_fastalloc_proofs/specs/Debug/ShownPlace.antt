-- The place that debug locations name for a vreg.
use Rattle.std.specs.Prelude.{Option, None, Some}
use Rattle.regalloc2_names.specs.Place.{Place, NoPlace, InRegister, InSlot}
use Rattle.regalloc2_function.specs.OutputValue.{OutputValue, allocs_of, place_at}
use Rattle.regalloc2_analysis.specs.declared.live_ranges.InstOperand.{InstOperand}

-- the place of an operand; none where there is none
abbrev pub place_of_operand : OutputValue → Option InstOperand → Place
place_of_operand out None = NoPlace
place_of_operand out (Some o) = place_at (allocs_of out o.inst) o.index

-- a vreg's slot if it has one, else the place of the operand by which it is shown
abbrev pub shown_place : OutputValue → Place → Option InstOperand → Place
shown_place out NoPlace by = place_of_operand out by
shown_place out (InRegister r) by = InRegister r
shown_place out (InSlot n) by = InSlot n

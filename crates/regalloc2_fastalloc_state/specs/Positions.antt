-- The positions at which an operand holds its register.
use Rattle.std.specs.Prelude.{true, not, ◌||◌}
use Rattle.regalloc2_names.specs.Operand.{OperandValue, is_def, is_late}
use Rattle.regalloc2_fastalloc_state.specs.declared.positions.Positions.{Positions}

-- an early use holds its register at the early position, a late definition at the late position, every other operand at
-- both
abbrev pub positions_of : OperandValue → Positions
positions_of o = record { early = not (is_def o.kind) || not (is_late o.position); late = is_def o.kind || is_late o.position }

-- the early and the late position
abbrev pub both_positions : Positions
both_positions = record { early = true; late = true }

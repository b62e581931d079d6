-- A search from the entry for a block that needs a vreg at its beginning.
use Rattle.std.specs.Prelude.{ℕ, ◌<◌, length}
use Rattle.regalloc2_names.specs.Register.{VirtualRegister}
use Rattle.regalloc2_function.specs.FunctionValue.{FunctionValue}
use Rattle.regalloc2_semantics.specs.Runs.{first_of}
use Rattle.regalloc2_analysis.specs.Liveness.LiveIn.{IsNeeded}

-- a block; if it needs the vreg at its beginning, so does the entry
abbrev pub LeadsBack : FunctionValue → VirtualRegister → ℕ → Type 0
LeadsBack f v b = (b < length f.blocks) × (IsNeeded f v (first_of f b) → IsNeeded f v (first_of f f.entry))

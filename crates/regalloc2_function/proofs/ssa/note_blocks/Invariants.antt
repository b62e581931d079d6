use Rattle.std.proofs.Common.{take}
use Rattle.std.specs.Prelude.{flat_map}
use Rattle.regalloc2_function.specs.Inside.Definitions.{NotesDefinitions, block_definitions}
use Rattle.regalloc2_function.proofs.ssa.note_blocks.Given as goal

-- the blocks so far are noted
abbrev pub invariant-loop-b : goal.invariant-loop-b
invariant-loop-b g l = NotesDefinitions l.fn.defined (flat_map (block_definitions (g.F.Function.function l.f)) (take l.b (g.F.Function.function l.f).blocks))
    l.defined

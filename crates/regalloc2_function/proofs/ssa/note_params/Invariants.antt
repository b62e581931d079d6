use Rattle.std.proofs.Common.{take}
use Rattle.std.specs.Prelude.{map}
use Rattle.regalloc2_function.specs.Inside.Definitions.{NotesDefinitions, param_definition}
use Rattle.regalloc2_function.proofs.ssa.note_params.Given as goal

-- the parameters so far are noted
abbrev pub invariant-loop-param : goal.invariant-loop-param
invariant-loop-param l = NotesDefinitions l.fn.defined (map (param_definition l.fn.first) (take l.param-index l.params)) l.defined

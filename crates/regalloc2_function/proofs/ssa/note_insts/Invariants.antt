use Rattle.std.proofs.Common.{◌≡◌, ◌++◌}
use Rattle.std.specs.Prelude.{flat_map}
use Rattle.regalloc2_index.specs.Range.{numbers_of}
use Rattle.regalloc2_function.specs.Inside.Definitions.{NotesDefinitions, inst_definitions}
use Rattle.regalloc2_function.proofs.ssa.note_insts.Given as goal

-- the instructions so far are noted
abbrev pub invariant-loop-inst : goal.invariant-loop-inst
invariant-loop-inst g l = record {
  left : l.yielded ++ l.inst-iterator ≡ numbers_of l.fn.range;
  noted : NotesDefinitions l.fn.defined (flat_map (inst_definitions (g.F.Function.function l.f)) l.yielded) l.defined;
}

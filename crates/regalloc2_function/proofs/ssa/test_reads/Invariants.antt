use Rattle.std.proofs.Common.{◌≡◌, ◌++◌}
use Rattle.std.specs.Prelude.{All, flat_map}
use Rattle.regalloc2_index.specs.Range.{numbers_of}
use Rattle.regalloc2_function.specs.Inside.Definitions.{IsUsable, inst_reads}
use Rattle.regalloc2_function.proofs.ssa.test_reads.Given as goal

-- the instructions so far pass
abbrev pub invariant-loop-inst : goal.invariant-loop-inst
invariant-loop-inst g l = record {
  left : l.yielded ++ l.inst-iterator ≡ numbers_of l.fn.range;
  usable : All (IsUsable l.defined) (flat_map (inst_reads (g.F.Function.function l.f)) l.yielded);
}

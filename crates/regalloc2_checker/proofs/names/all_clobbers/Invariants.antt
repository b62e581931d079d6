use Rattle.std.proofs.Common.{◌≡◌, length}
use Rattle.regalloc2_checker.proofs.NamedPlaces.{AreClobbersBefore}
use Rattle.regalloc2_checker.proofs.names.all_clobbers.Given as goal

-- the clobbers of the first i instructions are in the set
abbrev pub invariant-loop-i : goal.invariant-loop-i
invariant-loop-i g l = record {
  end : l.i-end ≡ length (g.F.Function.function l.f).insts;
  members : AreClobbersBefore (g.F.Function.function l.f) l.i l.clobbers;
}

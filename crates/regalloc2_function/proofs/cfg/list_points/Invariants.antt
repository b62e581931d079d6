use Rattle.std.proofs.Common.{◌≡◌, length, take}
use Rattle.std.specs.Prelude.{map}
use Rattle.regalloc2_function.specs.Tables.{entry_point, exit_point}
use Rattle.regalloc2_function.proofs.cfg.list_points.Given as goal

-- the points of the blocks so far are listed
abbrev pub invariant-loop-b : goal.invariant-loop-b
invariant-loop-b g l = record {
  whole : l.b-end ≡ length (g.F.Function.function l.f).blocks;
  entries : l.block_entry.items ≡ map entry_point (take l.b (g.F.Function.function l.f).blocks);
  exits : l.block_exit.items ≡ map exit_point (take l.b (g.F.Function.function l.f).blocks);
}

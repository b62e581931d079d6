use Rattle.std.proofs.Common.{◌≡◌, length}
use Rattle.regalloc2_function.specs.Tables.{HaveBlocks}
use Rattle.regalloc2_function.proofs.DefsCounted.{start_of}
use Rattle.regalloc2_function.proofs.cfg.list_insts.Given as goal

-- the instructions of the blocks so far are listed
abbrev pub invariant-loop-b : goal.invariant-loop-b
invariant-loop-b g l = record {
  whole : l.b-end ≡ length (g.F.Function.function l.f).blocks;
  long : length l.insn_block.items ≡ start_of (g.F.Function.function l.f) l.b;
  so_far : HaveBlocks (g.F.Function.function l.f) l.b l.insn_block.items;
}

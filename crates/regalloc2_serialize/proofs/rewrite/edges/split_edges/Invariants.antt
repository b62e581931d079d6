use Rattle.std.proofs.Common.{◌≡◌, map}
use Rattle.std.specs.List.{range_with_len}
use Rattle.regalloc2_serialize.specs.TableFunction.Draft.{draft_of}
use Rattle.regalloc2_serialize.specs.Rewrite.SplitEdges.{AreJumps, split_arguments, split_succ}
use Rattle.regalloc2_serialize.proofs.rewrite.edges.split_edges.Given as goal

abbrev pub invariant-loop-k : goal.invariant-loop-k
invariant-loop-k g l = record {
  succs : l.succs.items ≡ map (split_succ (g.F.Function.function l.f) l.block) (range_with_len 0 l.k);
  lists : map (λ v. v.items) l.lists.items ≡ map (split_arguments (g.F.Function.function l.f) l.block) (range_with_len 0 l.k);
  jumps : AreJumps (g.F.Function.function l.f) l.block l.k (map draft_of l.jumps.items);
}

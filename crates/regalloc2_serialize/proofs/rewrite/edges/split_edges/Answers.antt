use Rattle.std.proofs.Common.{arith, ◌≡◌, ◌∙◌, ◌++◌, ◌∷◌, [], ℕ, length, map, ap}
use Rattle.std.specs.List.{range_with_len}
use Rattle.std.proofs.lemmas.List.{map-append}
use Rattle.regalloc2_function.specs.FunctionValue.{FunctionValue, block_at}
use Rattle.regalloc2_serialize.specs.TableFunction.Draft.{draft_of}
use Rattle.regalloc2_serialize.specs.Rewrite.SplitEdges.{split_arguments, split_succ}
use Rattle.regalloc2_serialize.proofs.RewriteLemmas.Lists.{filled-more}
use Rattle.regalloc2_serialize.proofs.RewriteLemmas.SplitSteps.{jumps-next}
use Rattle.std.proofs.lemmas.Result.{err_from_is_err_and}
use Rattle.regalloc2_serialize.proofs.rewrite.edges.split_edges.Goals as goal

pub split_edge-requires : goal.split_edge-requires
split_edge-requires g c = record {
  to_split = record { counted = c.requires.counted; before = c.loop-k.invariant.jumps };
  position = omega (arith, c.loop-k-test.true, ap length c.block_succs-k-end.ensures);
}

pub loop-k-preserved : goal.loop-k-preserved
loop-k-preserved g c =
    let f : FunctionValue = g.F.Function.function c.args.f.now in
    let e : c.push-in-loop-k.new.self.items ≡ c.loop-k.succs.items ++ c.in_ok-succ.succ ∷ [] = c.in_ok-push-2.ensures.items in
    let d : c.push.new.self.items ≡ c.loop-k.lists.items ++ c.in_ok-succ.arguments ∷ [] = c.in_ok-push.ensures.items in
    record {
      succs = e
          ∙ filled-more (split_succ f c.args.block) c.loop-k.succs.items c.in_ok-succ.succ c.loop-k.k c.loop-k.invariant.succs c.in_ok-succ.ensures.ends.0;
      lists = ap (map (λ v. v.items)) d ∙ map-append (λ v. v.items) c.loop-k.lists.items (c.in_ok-succ.arguments ∷ [])
          ∙ filled-more (split_arguments f c.args.block) (map (λ v. v.items) c.loop-k.lists.items) c.in_ok-succ.arguments.items c.loop-k.k
          c.loop-k.invariant.lists c.in_ok-succ.ensures.ends.1;
      jumps = c.in_ok-succ.ensures.jumps;
    }

pub returns-clause-ends : goal.returns-clause-ends
returns-clause-ends g c =
    let f : FunctionValue = g.F.Function.function c.args.f.now in
    let all : c.loop-k.k ≡ length (block_at f c.args.block).succs =
    omega (arith, c.loop-k-test.false, c.loop-k.auto.k-end, ap length c.block_succs-k-end.ensures) in (
      c.loop-k.invariant.succs ∙ ap (λ (n : ℕ). map (split_succ f c.args.block) (range_with_len 0 n)) all,
      c.loop-k.invariant.lists ∙ ap (λ (n : ℕ). map (split_arguments f c.args.block) (range_with_len 0 n)) all,
    )

pub returns-clause-jumps : goal.returns-clause-jumps
returns-clause-jumps g c =
    let f : FunctionValue = g.F.Function.function c.args.f.now in
    let all : c.loop-k.k ≡ length (block_at f c.args.block).succs =
    omega (arith, c.loop-k-test.false, c.loop-k.auto.k-end, ap length c.block_succs-k-end.ensures) in
    jumps-next f c.args.block c.loop-k.k (map draft_of c.loop-k.jumps.items) all c.loop-k.invariant.jumps

pub returns-in_err-succ-clause-err : goal.returns-in_err-succ-clause-err
returns-in_err-succ-clause-err g c =
    let p = err_from_is_err_and c.from_residual.result c.from_residual.ensures.1 in rw (p.1, p.2) c.in_err-succ.ensures.err

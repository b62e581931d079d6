use Rattle.std.proofs.Common.{ℕ, ◌≡◌, ◌<◌, ◌≤◌, List, length, nat_eq, subst, arith, rules}
use Rattle.std.specs.Prelude.{◌&&◌, ◌||◌}
use Rattle.std.proofs.lemmas.List.{take_all}
use Rattle.regalloc2_analysis.specs.Liveness.Edges.{blocks_of, names_block}
use Rattle.regalloc2_analysis.proofs.LivenessLemmas.EdgeLists.{edges_more, edges_start}
use borrow.Author.Rules.{scaled_Fits}
use Rattle.regalloc2_analysis.proofs.liveness.edges.add_edges.Goals as goal

pub loop-succ-init : goal.loop-succ-init
loop-succ-init g c n p = edges_start c.args.edges.now c.args.block n p

pub loop-succ-preserved : goal.loop-succ-preserved
loop-succ-preserved g c =
    let old : c.succ-item.result < length c.args.edges.now = rw (c.succ-item.is) (c.requires c.loop-succ.succ-index c.succ-item.result c.loop-succ-test.true) in
    let there : c.succ-item.result < length c.loop-succ.edges = omega arith in
    rw c.index.ensures (edges_more c.args.edges.now c.loop-succ.edges c.succ-item.result c.args.block c.loop-succ.succ-index c.index-edges-index.result
    c.push.new.self c.args.succs.now there c.loop-succ-test.true c.succ-item.is (rw c.index.ensures at c.in_ok-push.ensures.items) c.loop-succ.invariant)

pub returns : goal.returns
returns g c =
    let all : length c.args.succs.now ≤ c.loop-succ.succ-index = omega arith in
    subst (λ (xs : List ℕ). (n p : ℕ) → names_block (blocks_of c.loop-succ.edges n)
    p ≡ (names_block (blocks_of c.args.edges.now n) p || (nat_eq c.args.block p && names_block xs n)))
    (take_all c.loop-succ.succ-index c.args.succs.now all) c.loop-succ.invariant

pub bounds-edges-index : goal.bounds-edges-index
bounds-edges-index g c =
    let old : c.succ-item.result < length c.args.edges.now = rw c.succ-item.is (c.requires c.loop-succ.succ-index c.succ-item.result
    c.loop-succ-test.true) in
    omega (arith, old, c.index.ensures)

pub offset_bounds-edges-index : goal.offset_bounds-edges-index
offset_bounds-edges-index g c = scaled_Fits c.index.result (length c.loop-succ.edges) _ (bounds-edges-index g c) (search rules)

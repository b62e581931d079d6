use Rattle.std.proofs.Common.{ℕ, ◌≡◌, ◌∙◌, eqb-true, subst, sym}
use Rattle.std.specs.Prelude.{Contains}
use Rattle.std.proofs.lemmas.List.Elements.{All-push}
use Rattle.regalloc2_index.proofs.Bools.{false_refutes}
use Rattle.regalloc2_function.specs.FunctionValue.{FunctionValue}
use Rattle.regalloc2_analysis.specs.Liveness.Search.{LeadsBack}
use Rattle.regalloc2_analysis.proofs.LivenessLemmas.SearchedBack.{leads_item}
use Rattle.regalloc2_analysis.proofs.liveness.search.add_succs.Goals as goal
use Rattle.regalloc2_analysis.proofs.liveness.search.add_succs.Goals.{then-index+in_ok-push, else-index+in_ok-push-2}

pub returns-then-eq-clause-found : goal.returns-then-eq-clause-found
returns-then-eq-clause-found g c = λ yes.
    let f : FunctionValue = g.F.Function.function c.args.f.now in
    let same : c.succ-item.result ≡ c.args.sought = eqb-true c.succ-item.result c.args.sought (sym c.eq.ensures ∙ c.if-eq.true) in
    subst (λ (b : ℕ). LeadsBack f c.args.vreg b) same
    (leads_item f c.args.block c.args.vreg c.loop-succ.succ-index c.succ-item.result c.block_succs-succ-items.result.now c.requires.framed
    c.requires.unwritten c.requires.here c.block_succs-succ-items.ensures c.loop-succ-test.true c.succ-item.is
    (rw c.block_params.ensures at (false_refutes {P = Contains c.block_params.result.now c.args.vreg} c.is_named.result c.if-is_named.false c.is_named.ensures.1)))

pub loop-succ-preserved : goal.loop-succ-preserved
loop-succ-preserved g c =
    let f : FunctionValue = g.F.Function.function c.args.f.now in
    let back : LeadsBack f c.args.vreg c.succ-item.result =
    leads_item f c.args.block c.args.vreg c.loop-succ.succ-index c.succ-item.result c.block_succs-succ-items.result.now c.requires.framed
    c.requires.unwritten c.requires.here c.block_succs-succ-items.ensures c.loop-succ-test.true c.succ-item.is
    (rw c.block_params.ensures at (false_refutes {P = Contains c.block_params.result.now c.args.vreg} c.is_named.result c.if-is_named.false c.is_named.ensures.1)) in
    elim c.if-index.branch [
      | then-index+in_ok-push w ↦ record {
        near = rw (w.near-is, w.in_ok-push.ensures.items) (All-push (LeadsBack f c.args.vreg) c.loop-succ.near.items c.succ-item.result
            c.loop-succ.invariant.near back);
        far = rw w.far-is c.loop-succ.invariant.far;
      }
      | else-index+in_ok-push-2 w ↦ record {
        near = rw w.near-is c.loop-succ.invariant.near;
        far = rw (w.far-is, w.in_ok-push-2.ensures.items) (All-push (LeadsBack f c.args.vreg) c.loop-succ.far.items c.succ-item.result c.loop-succ.invariant.far
            back);
      }
    ]

pub block_succs-succ-items-requires : goal.block_succs-succ-items-requires
block_succs-succ-items-requires g c = c.requires.block

pub loop-succ-init : goal.loop-succ-init
loop-succ-init g c = record { near = c.requires.near; far = c.requires.far }

pub bounds-succ-items-succ-index : goal.bounds-succ-items-succ-index
bounds-succ-items-succ-index g c = c.loop-succ-test.true

pub loop-succ-preserved-then-is_marked : goal.loop-succ-preserved-then-is_marked
loop-succ-preserved-then-is_marked g c = c.loop-succ.invariant

pub returns-then-eq-clause-near : goal.returns-then-eq-clause-near
returns-then-eq-clause-near g c = c.loop-succ.invariant.near

pub returns-then-eq-clause-far : goal.returns-then-eq-clause-far
returns-then-eq-clause-far g c = c.loop-succ.invariant.far

pub returns-clause-near : goal.returns-clause-near
returns-clause-near g c = c.loop-succ.invariant.near

pub returns-clause-far : goal.returns-clause-far
returns-clause-far g c = c.loop-succ.invariant.far

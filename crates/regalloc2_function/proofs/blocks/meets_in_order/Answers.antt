use Rattle.std.proofs.Common.{ℕ, ◌≡◌, ◌<◌, ◌∙◌, get_or, length, sym, subst, append-nil, arith}
use Rattle.std.specs.Prelude.{nat_eq}
use Rattle.std.proofs.lemmas.Bool.{eqb-false, not-false, not-true}
use Rattle.std.proofs.lemmas.Bool.Decides.{Decides-eqb}
use Rattle.std.proofs.lemmas.List.{get_or_default}
use Rattle.regalloc2_function.specs.FunctionValue.{FunctionValue, block_at}
use Rattle.regalloc2_function.specs.Inside.Ways.{ways_of_first}
use Rattle.regalloc2_function.proofs.PredsInOrder.{AreFirst, met_block, met_more, next_met, succ_within}
use Rattle.regalloc2_function.proofs.blocks.meets_in_order.Goals.{then-met-preds-via-then-met-preds, then-met-preds-via-else-met-preds+then-ne}
use Rattle.regalloc2_function.proofs.blocks.meets_in_order.Goals as goal

pub returns-then-met-preds-clause-order : goal.returns-then-met-preds-clause-order
returns-then-met-preds-clause-order g c = λ order.
    (let f : FunctionValue = g.F.Function.function c.args.f.now in
    let s : ℕ = c.succ-item.result in
    let less : c.loop-succ.succ-index < length (block_at f c.args.block).succs = rw c.block_succs-succ-items.ensures at c.loop-succ-test.true in
    let is : s ≡ get_or (block_at f c.args.block).succs c.loop-succ.succ-index s = rw c.block_succs-succ-items.ensures at c.succ-item.is in
    let within : s < length f.blocks = succ_within f c.args.block c.loop-succ.succ-index s c.requires.blocks c.requires.block less is in
    let next = next_met f c.args.block c.loop-succ.succ-index s (get_or c.loop-succ.counts s 0) order c.requires.block less is within
    (c.loop-succ.invariant s within).0 in
    elim c.then-met-preds.branch [
      | then-met-preds-via-then-met-preds w ↦ absurd (omega (arith, next.0, rw (c.block_preds-preds.ensures, c.index.ensures) at w.if-met-preds.true))
      | then-met-preds-via-else-met-preds+then-ne w ↦ (let p : ℕ = w.index-preds-met.result in
          let met : ℕ = get_or c.loop-succ.counts s 0 in
          let read : p ≡ get_or (block_at f s).preds met p = rw (c.block_preds-preds.ensures, c.index.ensures) at w.index-preds-met.is in
          let same : p ≡ c.args.block = read ∙ get_or_default (block_at f s).preds met p c.args.block next.0 ∙ next.1 in
          absurd (eqb-false p c.args.block (not-true (nat_eq p c.args.block) (sym w.ne.ensures ∙ w.if-ne.true)) same))
    ])

pub loop-succ-preserved : goal.loop-succ-preserved
loop-succ-preserved g c =
    let f : FunctionValue = g.F.Function.function c.args.f.now in
    let s : ℕ = c.succ-item.result in
    let less : c.loop-succ.succ-index < length (block_at f c.args.block).succs = rw c.block_succs-succ-items.ensures at c.loop-succ-test.true in
    let is : s ≡ get_or (block_at f c.args.block).succs c.loop-succ.succ-index s = rw c.block_succs-succ-items.ensures at c.succ-item.is in
    let within : s < length f.blocks = succ_within f c.args.block c.loop-succ.succ-index s c.requires.blocks c.requires.block less is in
    let p : ℕ = c.index-preds-met.result in
    let met : ℕ = get_or c.loop-succ.counts s 0 in
    let short : met < length (block_at f s).preds = rw (c.block_preds-preds.ensures, c.index.ensures) at c.if-met-preds.false in
    let read : p ≡ get_or (block_at f s).preds met p = rw (c.block_preds-preds.ensures, c.index.ensures) at c.index-preds-met.is in
    let same : p ≡ c.args.block = (Decides-eqb p c.args.block).0 (not-false (nat_eq p c.args.block) (sym c.ne.ensures ∙ c.if-ne.false)) in
    let next : get_or (block_at f s).preds met c.args.block ≡ c.args.block = get_or_default (block_at f s).preds met c.args.block p short ∙ sym read ∙ same in
    rw (c.index-in-loop-succ.ensures, c.index.ensures) (met_more f c.args.block c.loop-succ.succ-index s c.loop-succ.counts less is
    (omega (arith, within, c.loop-succ.auto.counts, c.requires.long)) short next c.loop-succ.invariant)

pub returns-clause-met : goal.returns-clause-met
returns-clause-met g c =
    let f : FunctionValue = g.F.Function.function c.args.f.now in
    met_block f c.args.block c.loop-succ.succ-index c.loop-succ.counts (rw c.block_succs-succ-items.ensures at c.loop-succ-test.false) c.loop-succ.invariant

pub bounds-counts-index : goal.bounds-counts-index
bounds-counts-index g c =
    let f : FunctionValue = g.F.Function.function c.args.f.now in
    let e = c.block_succs-succ-items.ensures in
    let within : c.succ-item.result < length f.blocks = succ_within f c.args.block c.loop-succ.succ-index c.succ-item.result c.requires.blocks c.requires.block
    (rw e at c.loop-succ-test.true) (rw e at c.succ-item.is) in
    omega (arith, within, c.index.ensures, c.loop-succ.auto.counts, c.requires.long)

pub block_preds-preds-requires : goal.block_preds-preds-requires
block_preds-preds-requires g c =
    let f : FunctionValue = g.F.Function.function c.args.f.now in
    let e = c.block_succs-succ-items.ensures in
    succ_within f c.args.block c.loop-succ.succ-index c.succ-item.result c.requires.blocks c.requires.block
    (rw e at c.loop-succ-test.true) (rw e at c.succ-item.is)

pub loop-succ-init : goal.loop-succ-init
loop-succ-init g c = λ n less. subst (λ ws. AreFirst ws (get_or c.args.counts.now n 0) (block_at (g.F.Function.function c.args.f.now) n).preds)
    (sym (append-nil (ways_of_first (g.F.Function.function c.args.f.now) c.args.block n))) (c.requires.met n less)

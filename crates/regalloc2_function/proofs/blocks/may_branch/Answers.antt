use Rattle.std.proofs.Common.{ℕ, ◌≡◌, ◌<◌, ◌∙◌, List, get_or, length, refl, sym, ap, subst, below_more, arith}
use Rattle.std.proofs.lemmas.Bool.{eq-eqb, eqb-true, false≢true}
use Rattle.std.proofs.lemmas.List.{get_or_default, nil_from_length}
use Rattle.regalloc2_function.specs.FunctionValue.{FunctionValue, block_at, inst_at}
use Rattle.regalloc2_function.specs.WellFormed.{ways_into}
use Rattle.regalloc2_function.proofs.PredsInOrder.{succ_within}
use Rattle.regalloc2_function.proofs.blocks.may_branch.Goals as goal

pub inst_operands-requires : goal.inst_operands-requires
inst_operands-requires g c = c.requires.within

pub returns-then-is_empty : goal.returns-then-is_empty
returns-then-is_empty g c = (
  λ yes k d less many. ap (λ n. (inst_at (g.F.Function.function c.args.f.now) n).operands) (sym c.requires.last) ∙ sym c.inst_operands.ensures
      ∙ nil_from_length c.inst_operands.result.now (eqb-true _ 0 (sym c.is_empty.ensures ∙ c.if-is_empty.true)),
  λ none. refl,
)

pub block_succs-succ-items-requires : goal.block_succs-succ-items-requires
block_succs-succ-items-requires g c = c.requires.block

pub loop-succ-init : goal.loop-succ-init
loop-succ-init g c = λ k less. absurd (omega (arith, less))

pub is_join-requires : goal.is_join-requires
is_join-requires g c =
    let f : FunctionValue = g.F.Function.function c.args.f.now in
    let e = c.block_succs-succ-items.ensures in
    succ_within f c.args.block c.loop-succ.succ-index c.succ-item.result c.requires.blocks c.requires.block (rw e at c.loop-succ-test.true)
    (rw e at c.succ-item.is)

pub returns-then-is_join : goal.returns-then-is_join
returns-then-is_join g c =
    let f : FunctionValue = g.F.Function.function c.args.f.now in
    let e = c.block_succs-succ-items.ensures in
    let less : c.loop-succ.succ-index < length (block_at f c.args.block).succs = rw e at c.loop-succ-test.true in
    let is : c.succ-item.result ≡ get_or (block_at f c.args.block).succs c.loop-succ.succ-index c.succ-item.result = rw e at c.succ-item.is in
    let many : 1 < ways_into f c.succ-item.result = c.is_join.ensures.0 c.if-is_join.true in (
      λ no. absurd (false≢true no),
      λ none. absurd (false≢true (sym c.if-is_empty.false ∙ c.is_empty.ensures ∙ eq-eqb (length c.inst_operands.result.now) 0
          (ap length (c.inst_operands.ensures ∙ ap (λ n. (inst_at f n).operands) c.requires.last
          ∙ none c.loop-succ.succ-index c.succ-item.result less (subst (λ s. 1 < ways_into f s) is many))))),
    )

pub loop-succ-preserved : goal.loop-succ-preserved
loop-succ-preserved g c =
    let f : FunctionValue = g.F.Function.function c.args.f.now in
    let succs : List ℕ = (block_at f c.args.block).succs in
    let e = c.block_succs-succ-items.ensures in
    let less : c.loop-succ.succ-index < length succs = rw e at c.loop-succ-test.true in
    let is : c.succ-item.result ≡ get_or succs c.loop-succ.succ-index c.succ-item.result = rw e at c.succ-item.is in
    below_more (λ k. 1 < ways_into f (get_or succs k 0) → ⊥) _ c.loop-succ.invariant
    (λ many. absurd (false≢true (sym c.if-is_join.false ∙ c.is_join.ensures.1
    (subst (λ s. 1 < ways_into f s) (sym (is ∙ get_or_default succs c.loop-succ.succ-index c.succ-item.result 0 less)) many))))

pub returns : goal.returns
returns g c =
    let f : FunctionValue = g.F.Function.function c.args.f.now in
    let long = ap length c.block_succs-succ-items.ensures in (
      λ yes k d less many. absurd (c.loop-succ.invariant k (omega (arith, less, long, c.loop-succ-test.false))
          (subst (λ s. 1 < ways_into f s) (get_or_default (block_at f c.args.block).succs k d 0 less) many)),
      λ none. refl,
    )

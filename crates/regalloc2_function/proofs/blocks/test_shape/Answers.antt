use Rattle.std.proofs.Common.{◌≡◌, ◌⊎◌, inl, inr, refl, sym, subst}
use Rattle.std.proofs.lemmas.Result.{IfErr-weaker, IfOk-weaker, err_from_is_err_and}
use Rattle.regalloc2_names.specs.declared.RegAllocError.{RegAllocError}
use Rattle.regalloc2_names.specs.declared.RegAllocError.TheVariants.{Memory}
use Rattle.regalloc2_function.specs.FunctionValue.{FunctionValue, block_at, EachBlock}
use Rattle.regalloc2_function.specs.Reasons.{HasShape, IsShapeFault}
use Rattle.regalloc2_function.specs.Reasons.IsShapeFault.{apart, critical, operands, outside, unlisted}
use Rattle.regalloc2_function.specs.WellFormed.{BlocksFollow, NoOperandsAt}
use Rattle.regalloc2_function.proofs.ErrorOnlyOutOfMemory.{shape_refused}
use Rattle.regalloc2_function.proofs.PredsListed.{are_blocks}
use Rattle.regalloc2_function.proofs.blocks.test_shape.Goals as goal

abbrev Fault : FunctionValue → RegAllocError → Type 0
Fault f e = (e ≡ Memory) ⊎ IsShapeFault f e

pub returns-in_err-test_successors-clause-err : goal.returns-in_err-test_successors-clause-err
returns-in_err-test_successors-clause-err g c =
    let f : FunctionValue = g.F.Function.function c.args.f.now in
    let p = err_from_is_err_and c.from_residual.result c.from_residual.ensures.1 in
    let h = c.in_err-test_successors.ensures.err in
    rw (p.1, p.2) (subst (Fault f) (sym h.1) (inr (outside h.0 h.2)))

pub returns-in_err-test_blocks-clause-err : goal.returns-in_err-test_blocks-clause-err
returns-in_err-test_blocks-clause-err g c =
    let f : FunctionValue = g.F.Function.function c.args.f.now in
    let p = err_from_is_err_and c.from_residual-in_err-test_blocks.result c.from_residual-in_err-test_blocks.ensures.1 in
    let h = c.in_err-test_blocks.ensures.first in
    rw (p.1, p.2) (subst (Fault f) (sym h.1) (inr (apart h.0 c.in_ok-test_successors.ensures.ok h.2)))

pub returns-in_err-test_predecessors-clause-err : goal.returns-in_err-test_predecessors-clause-err
returns-in_err-test_predecessors-clause-err g c =
    let f : FunctionValue = g.F.Function.function c.args.f.now in
    let follow : BlocksFollow f = c.in_ok-test_blocks.ensures.ok.0 refl in
    let p = err_from_is_err_and c.from_residual-in_err-test_predecessors.result c.from_residual-in_err-test_predecessors.ensures.1 in
    rw (p.1, p.2) (elim c.in_err-test_predecessors.ensures.err [
      | inl m ↦ inl m
      | inr h ↦ subst (Fault f) (sym h.1) (inr (unlisted h.0 c.in_ok-test_successors.ensures.ok follow h.2))
    ])

pub test_edges-requires : goal.test_edges-requires
test_edges-requires g c = let f : FunctionValue = g.F.Function.function c.args.f.now in
    λ n less. are_blocks f n (block_at f n).preds (c.in_ok-test_predecessors.ensures.ok n less)

pub returns-in_err-test_edges-clause-err : goal.returns-in_err-test_edges-clause-err
returns-in_err-test_edges-clause-err g c =
    let f : FunctionValue = g.F.Function.function c.args.f.now in
    let follow : BlocksFollow f = c.in_ok-test_blocks.ensures.ok.0 refl in
    let p = err_from_is_err_and c.from_residual-in_err-test_edges.result c.from_residual-in_err-test_edges.ensures.1 in
    let h = c.in_err-test_edges.ensures.err in
    rw (p.1, p.2) (subst (Fault f) (sym h.2) (inr (critical h.0 h.1 c.in_ok-test_successors.ensures.ok follow c.in_ok-test_predecessors.ensures.ok h.3 h.4)))

pub returns-clause-err : goal.returns-clause-err
returns-clause-err g c =
    let f : FunctionValue = g.F.Function.function c.args.f.now in
    let follow : BlocksFollow f = c.in_ok-test_blocks.ensures.ok.0 refl in
    IfErr-weaker c.test_branches.result _ (Fault f) (λ e h. subst (Fault f) (sym h.1)
    (inr (operands h.0 c.in_ok-test_successors.ensures.ok follow c.in_ok-test_predecessors.ensures.ok c.in_ok-test_edges.ensures.ok h.2)))
    c.test_branches.ensures.err

pub returns-in_err-test_successors-clause-accepted : goal.returns-in_err-test_successors-clause-accepted
returns-in_err-test_successors-clause-accepted g c = λ shape.
    (let f : FunctionValue = g.F.Function.function c.args.f.now in
    let h = c.in_err-test_successors.ensures.err in
    absurd (shape_refused f shape (outside h.0 h.2)))

pub returns-in_err-test_edges-clause-accepted : goal.returns-in_err-test_edges-clause-accepted
returns-in_err-test_edges-clause-accepted g c = λ shape.
    (let h = c.in_err-test_edges.ensures.err in
    absurd (h.3.1 (shape.no_critical_edge h.0 h.3.0)))

pub returns-clause-accepted : goal.returns-clause-accepted
returns-clause-accepted g c = λ shape. IfErr-weaker c.test_branches.result _ (λ e. e ≡ Memory) (λ e h. absurd (h.2.1 (shape.no_operands_into_joins h.0 h.2.0)))
    c.test_branches.ensures.err

pub returns-in_err-test_blocks-clause-accepted : goal.returns-in_err-test_blocks-clause-accepted
returns-in_err-test_blocks-clause-accepted g c = λ shape.
    (let f : FunctionValue = g.F.Function.function c.args.f.now in
    let h = c.in_err-test_blocks.ensures.first in
    absurd (shape_refused f shape (apart h.0 c.in_ok-test_successors.ensures.ok h.2)))

pub returns-in_err-test_predecessors-clause-accepted : goal.returns-in_err-test_predecessors-clause-accepted
returns-in_err-test_predecessors-clause-accepted g c = λ shape.
    (let f : FunctionValue = g.F.Function.function c.args.f.now in
    let follow : BlocksFollow f = c.in_ok-test_blocks.ensures.ok.0 refl in
    let p = err_from_is_err_and c.from_residual-in_err-test_predecessors.result c.from_residual-in_err-test_predecessors.ensures.1 in
    rw (p.1, p.2) (elim c.in_err-test_predecessors.ensures.err [
      | inl m ↦ m
      | inr h ↦ absurd (shape_refused f shape (unlisted h.0 c.in_ok-test_successors.ensures.ok follow h.2))
    ]))

pub test_branches-requires-clause-blocks : goal.test_branches-requires-clause-blocks
test_branches-requires-clause-blocks g c = c.in_ok-test_successors.ensures.ok

pub test_branches-requires-clause-follow : goal.test_branches-requires-clause-follow
test_branches-requires-clause-follow g c = c.in_ok-test_blocks.ensures.ok.0 refl

pub returns-clause-ok : goal.returns-clause-ok
returns-clause-ok g c =
    let f : FunctionValue = g.F.Function.function c.args.f.now in
    IfOk-weaker c.test_branches.result (λ _. EachBlock f (NoOperandsAt f)) (λ _. HasShape f) (λ _ h. record {
      successors = c.in_ok-test_successors.ensures.ok;
      follow = c.in_ok-test_blocks.ensures.ok.0 refl;
      predecessors = c.in_ok-test_predecessors.ensures.ok;
      no_critical_edge = c.in_ok-test_edges.ensures.ok;
      no_operands_into_joins = h;
    }) c.test_branches.ensures.ok

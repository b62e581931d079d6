use Rattle.std.proofs.lemmas.Result.{IfOk-from_err}
use Rattle.std.proofs.Common.{ℕ, ◌≡◌, ◌+◌, ◌<◌, List, length, map, get_or, drop, sym, ap, ◌∙◌, arith}
use Rattle.std.proofs.lemmas.List.{length-map}
use Rattle.codegen.specs.Run.States.{numbers_by_vreg}
use Rattle.codegen.proofs.RunLemmas.Written.{pass_more, pass_end}
use Rattle.regalloc2_semantics.specs.Runs.{passed}
use Rattle.codegen.proofs.run.procedure.pass.Goals as goal

pub loop-at-preserved : goal.loop-at-preserved
loop-at-preserved c =
    let ps = c.args.params.now in
    let qs = c.args.arguments.now in
    let before = numbers_by_vreg c.args.numbers.now in
    let v = c.in_ok-values.values in
    let k = c.loop-at.at in
    let n = c.index.result.now in
    let made : v.items ≡ map before qs = c.in_ok-values.ensures in
    let long : length v.items ≡ length qs = ap length made ∙ length-map qs before in
    let less : k < length ps = omega (arith, c.loop-at-test.true, c.min-at-end.ensures, c.len.ensures, v.ok.0, long) in
    let also : k < length qs = omega (arith, c.loop-at-test.true, c.min-at-end.ensures, c.len.ensures, v.ok.0, long) in
    c.loop-at.invariant
    ∙ pass_more ps qs k c.index-params-at.result n before (numbers_by_vreg c.loop-at.numbers) less also c.index-params-at.is
    (c.index.ensures ∙ ap (λ (ns : List ℕ). get_or ns k n) made)
    ∙ ap (passed (drop (k + 1) ps) (drop (k + 1) qs) before) (sym c.in_ok-put.ensures)

pub returns : goal.returns
returns c =
    let qs = c.args.arguments.now in
    let before = numbers_by_vreg c.args.numbers.now in
    let v = c.in_ok-values.values in
    let made : v.items ≡ map before qs = c.in_ok-values.ensures in
    let long : length v.items ≡ length qs = ap length made ∙ length-map qs before in
    sym (c.loop-at.invariant ∙ pass_end c.args.params.now qs c.loop-at.at before (numbers_by_vreg c.loop-at.numbers)
    (λ a b. omega (arith, c.loop-at-test.false, c.min-at-end.ensures, c.len.ensures, v.ok.0, long)))

pub returns-in_err-values : goal.returns-in_err-values
returns-in_err-values c = IfOk-from_err c.from_residual.result _ c.from_residual.ensures.0

pub returns-in_err-put : goal.returns-in_err-put
returns-in_err-put c = IfOk-from_err c.from_residual-in_err-put.result _ c.from_residual-in_err-put.ensures.0

use Rattle.std.proofs.Common.{◌≡◌, ◌∷◌, [], List, sym, subst, arith}
use Rattle.std.specs.Prelude.{OnOk}
use Rattle.regalloc2_names.specs.Register.{VirtualRegister}
use Rattle.regalloc2_checker.specs.Renamed.{facts_renamed}
use Rattle.regalloc2_checker.specs.TableFacts.{facts_now}
use Rattle.regalloc2_checker.proofs.TableSteps.{one-of}
use Rattle.regalloc2_checker.proofs.RestOfList.{vreg-listed}
use Rattle.regalloc2_checker.proofs.transfer.take_arguments.Goals as goal

pub bounds-params-0 : goal.bounds-params-0
bounds-params-0 g c = omega (arith, (c.passes_one.ensures.0 c.if-passes_one.true).1)

pub bounds-arguments-0 : goal.bounds-arguments-0
bounds-arguments-0 g c = omega (arith, (c.passes_one.ensures.0 c.if-passes_one.true).2)

pub pass_param-requires-clause-param : goal.pass_param-requires-clause-param
pass_param-requires-clause-param g c =
    let l = (c.passes_one.ensures.0 c.if-passes_one.true).1 in
    vreg-listed c.args.values.now.vregs c.args.params.now 0 c.index-params-0.result (omega arith) c.index-params-0.is c.requires.params

pub pass_param-requires-clause-argument : goal.pass_param-requires-clause-argument
pass_param-requires-clause-argument g c =
    let l = (c.passes_one.ensures.0 c.if-passes_one.true).2 in
    vreg-listed c.args.values.now.vregs c.args.arguments.now 0 c.index-arguments-0.result (omega arith) c.index-arguments-0.is c.requires.arguments

pub returns-then-passes_one-clause-now : goal.returns-then-passes_one-clause-now
returns-then-passes_one-clause-now g c =
    let is = c.passes_one.ensures.0 c.if-passes_one.true in
    let one = one-of c.args.params.now c.index-params-0.result is.1 c.index-params-0.is in
    let other = one-of c.args.arguments.now c.index-arguments-0.result is.2 c.index-arguments-0.is in
    subst (λ (ps : List VirtualRegister). OnOk c.pass_param.result (facts_now c.pass_param.new.values ≡ facts_renamed ps c.args.arguments.now (facts_now
    c.args.values.now)))
    (sym one)
    (subst (λ (vs : List VirtualRegister). OnOk c.pass_param.result (facts_now c.pass_param.new.values ≡ facts_renamed (c.index-params-0.result ∷ []) vs
    (facts_now c.args.values.now)))
    (sym other) c.pass_param.ensures.now)

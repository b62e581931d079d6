use Rattle.std.proofs.Common.{◌≡◌, ◌∷◌, ◌++◌, [], List, take, ap, ◌∙◌, rules}
use Rattle.std.specs.Prelude.{slice_get}
use Rattle.regalloc2_names.specs.Operand.{OperandValue}
use Rattle.regalloc2_names.specs.declared.OperandConstraint.TheVariants.{FixedReg}
use Rattle.codegen_operation.specs.Operands.{argument_in, argument_registers, call_operands, def_in}
use Rattle.codegen_operation.proofs.Arguments.{operands_all, operands_next, operands_none}
use Rattle.codegen_operation.proofs.line.call_operands.Goals as goal

pub loop-index-init : goal.loop-index-init
loop-index-init c =
    let made : c.in_ok-operands.operands.items ≡ def_in (FixedReg (record { number = 0; class = c.args.to.class })) c.args.to ∷ [] = search rules in
    made ∙ operands_none c.args.to

pub loop-index-preserved : goal.loop-index-preserved
loop-index-preserved c =
    let vs = c.args.arguments.now in
    let k = c.loop-index.index in
    let v = c.index-arguments-index.result in
    let made = c.passed.ensures ∙ ap (argument_in (slice_get argument_registers k)) c.index-arguments-index.is in
    c.in_ok-push.ensures.items ∙ ap (λ (xs : List OperandValue). xs ++ c.passed.result ∷ []) c.loop-index.invariant
    ∙ ap (λ (o : OperandValue). call_operands c.args.to (take k vs) ++ o ∷ []) made ∙ operands_next c.args.to vs k v c.loop-index-test.true

pub returns : goal.returns
returns c = c.loop-index.invariant ∙ operands_all c.args.to c.args.arguments.now c.loop-index.index c.loop-index-test.false

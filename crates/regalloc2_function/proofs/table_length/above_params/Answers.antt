use Rattle.std.proofs.Common.{◌<◌, ◌≤◌, inl, length, take, sym, subst, arith}
use Rattle.std.proofs.lemmas.List.{take_all}
use Rattle.std.proofs.lemmas.List.Elements.{All-more, All-nil, All-same, All-weaker}
use Rattle.regalloc2_names.specs.Register.{VirtualRegister}
use Rattle.regalloc2_function.proofs.TableLengths.{param_more}
use Rattle.regalloc2_function.proofs.table_length.above_params.Goals as goal

pub loop-param-init : goal.loop-param-init
loop-param-init c = record { rises = omega arith; above = All-nil (λ (v : VirtualRegister). v.number < c.args.bound); near = inl (omega arith) }

pub loop-param-preserved : goal.loop-param-preserved
loop-param-preserved c =
    let rises = c.above_vreg-above.ensures.rises in
    record {
      rises = omega (arith, c.loop-param.invariant.rises, rises);
      above = All-more (λ (v : VirtualRegister). v.number < c.above_vreg-above.result) c.args.params.now c.loop-param.param-index c.param-item.result
          c.loop-param-test.true
          (All-weaker (λ (v : VirtualRegister). v.number < c.loop-param.above) (λ (v : VirtualRegister). v.number < c.above_vreg-above.result)
          (λ v less. omega (arith, less, rises)) (take c.loop-param.param-index c.args.params.now) c.loop-param.invariant.above)
          (subst (λ (v : VirtualRegister). v.number < c.above_vreg-above.result) c.param-item.is c.above_vreg-above.ensures.above);
      near = param_more c.args.bound c.loop-param.above c.above_vreg-above.result c.args.params.now c.param-item.result
          (c.loop-param.param-index, c.loop-param-test.true, sym c.param-item.is) c.above_vreg-above.ensures.near c.loop-param.invariant.near;
    }

pub returns-clause-above : goal.returns-clause-above
returns-clause-above c =
    let past : length c.args.params.now ≤ c.loop-param.param-index = omega (arith, c.loop-param-test.false) in
    All-same (λ (v : VirtualRegister). v.number < c.loop-param.above) c.args.params.now (take c.loop-param.param-index c.args.params.now)
    (sym (take_all c.loop-param.param-index c.args.params.now past)) c.loop-param.invariant.above

use Rattle.std.proofs.Common.{ℕ, ◌≡◌, ◌<◌, List, length, refl, sym, ◌∙◌, subst, arith, rules, slice_index_or}
use Rattle.std.proofs.lemmas.List.{get_or_read}
use Rattle.std.proofs.lemmas.List.Elements.{All-get_or}
use Rattle.regalloc2_names.specs.Register.{VirtualRegister, no_vreg}
use Rattle.regalloc2_fastalloc_proofs.specs.BlockStart.{ReloadsParam, ReloadsParams, none_begun, one_begun}
use Rattle.regalloc2_fastalloc_proofs.specs.InstSteps.{StateValue}
use Rattle.regalloc2_fastalloc_walk.specs.StateView.{tables_of}
use Rattle.regalloc2_fastalloc_proofs.proofs.Evictions.PushedAndRemoved.{same_machine_trans}
use Rattle.regalloc2_fastalloc_walk.proofs.state.State.reload_params.Goals as goal

pub loop-param-init : goal.loop-param-init
loop-param-init g c = record {
  done = none_begun;
  later = c.requires.later;
  long = refl;
  machine = record { allocatable = refl; fixed_stack = refl; dedicated_scratch = refl; sizes = refl; vregs = refl; num_temp_slots = refl };
}

pub reload_param-requires : goal.reload_param-requires
reload_param-requires g c =
    let vs : List VirtualRegister = c.args.params.now in
    let k : ℕ = c.loop-param.param-index in
    let is : c.param-item.result ≡ slice_index_or vs k no_vreg = get_or_read vs k c.param-item.result c.loop-param-test.true c.param-item.is no_vreg in
    let known = All-get_or (λ (v : VirtualRegister). v.number < length c.args.self.now.places.vreg_allocs) vs k no_vreg c.loop-param-test.true c.requires.known
    in (
      search rules,
      (
        c.loop-param.invariant.later,
        subst (λ (v : VirtualRegister). v.number < length c.loop-param.self.places.vreg_allocs) (sym is)
            (omega (arith, known, c.loop-param.invariant.long)),
      ),
    )

pub loop-param-preserved : goal.loop-param-preserved
loop-param-preserved g c =
    let vs : List VirtualRegister = c.args.params.now in
    let k : ℕ = c.loop-param.param-index in
    let is : c.param-item.result ≡ slice_index_or vs k no_vreg = get_or_read vs k c.param-item.result c.loop-param-test.true c.param-item.is no_vreg in
    let m : StateValue = tables_of c.loop-param.self in
    let n : StateValue = tables_of c.reload_param.new.self in
    record {
      done = one_begun k c.loop-param.inst_regs c.reload_param.new.inst_regs m n c.loop-param-test.true c.loop-param.invariant.done
          (subst (λ (v : VirtualRegister). ReloadsParam c.args.point v c.loop-param.inst_regs c.reload_param.new.inst_regs m n) is
          c.in_ok-reload_param.ensures.outcome);
      later = c.in_ok-reload_param.ensures.step.later;
      long = c.in_ok-reload_param.ensures.step.long ∙ c.loop-param.invariant.long;
      machine = same_machine_trans (tables_of c.args.self.now) m n c.loop-param.invariant.machine c.in_ok-reload_param.ensures.step.machine;
    }

pub returns-clause-outcome : goal.returns-clause-outcome
returns-clause-outcome g c =
    let e : c.loop-param.param-index ≡ length c.args.params.now = omega arith in
    subst (λ k. ReloadsParams c.args.point c.args.params.now c.args.inst_regs.now (tables_of c.args.self.now) k c.loop-param.inst_regs
    (tables_of c.loop-param.self)) e c.loop-param.invariant.done

use Rattle.std.proofs.Common.{◌≡◌, List, [], append_assoc, refl, sym, ◌∙◌, subst, rules}
use Rattle.regalloc2_names.specs.declared.sets.PRegSet.{PRegSet}
use Rattle.regalloc2_names.specs.Register.{Register, has_register, registers_of}
use Rattle.regalloc2_fastalloc_state.specs.StateParts.{vreg_of_preg}
use Rattle.regalloc2_fastalloc_proofs.specs.InstSteps.{StateValue, EvictsEach, none_left}
use Rattle.regalloc2_fastalloc_proofs.proofs.Evictions.PushedAndRemoved.{no_some}
use Rattle.regalloc2_fastalloc_walk.proofs.FilledClobbers.{AreLeftOut, are_small, evicts_all, none_listed, shared_are}
use Rattle.regalloc2_fastalloc_walk.specs.StateView.{tables_of}
use Rattle.regalloc2_fastalloc_proofs.proofs.Evictions.EvictClobbers.{evicts_each_step, evicts_each_more}
use Rattle.std.proofs.lemmas.Result.{err_from_is_err_and}
use Rattle.regalloc2_fastalloc_walk.proofs.Steps.{step_trans_fails}
use Rattle.regalloc2_fastalloc_walk.proofs.StepsFail.{step_none}
use Rattle.regalloc2_fastalloc_walk.proofs.Clashes.{not_both}
use Rattle.regalloc2_fastalloc_walk.proofs.state.State.evict_clobbers.Goals as goal

pub loop-preg-init : goal.loop-preg-init
loop-preg-init g c = record {
  left = refl;
  cleared = none_left c.args.inst_regs.now (tables_of c.args.self.now);
  awaited = refl;
  later = c.requires;
  long = refl;
  machine = record { allocatable = refl; fixed_stack = refl; dedicated_scratch = refl; sizes = refl; vregs = refl; num_temp_slots = refl };
}

pub evict_preg-requires : goal.evict_preg-requires
evict_preg-requires g c = (search rules, c.loop-preg.invariant.later)

pub loop-preg-preserved : goal.loop-preg-preserved
loop-preg-preserved g c = record {
  left = rw (append_assoc, ← c.in-Some.ensures.steps) c.loop-preg.invariant.left;
  cleared = evicts_each_more c.args.point c.loop-preg.yielded c.in-Some.preg c.args.inst_regs.now c.loop-preg.inst_regs c.evict_preg.new.inst_regs
      (tables_of c.args.self.now) (tables_of c.loop-preg.self) (tables_of c.evict_preg.new.self)
      c.loop-preg.invariant.cleared c.in_ok-evict_preg.ensures.outcome;
  awaited = c.evict_preg.ensures.awaited ∙ c.loop-preg.invariant.awaited;
  later = c.in_ok-evict_preg.ensures.step.later;
  long = c.in_ok-evict_preg.ensures.step.long ∙ c.loop-preg.invariant.long;
  machine = (let a = c.loop-preg.invariant.machine in let b = c.in_ok-evict_preg.ensures.step.machine in
      record {
        allocatable = b.allocatable ∙ a.allocatable;
        fixed_stack = b.fixed_stack ∙ a.fixed_stack;
        dedicated_scratch = b.dedicated_scratch
            ∙ a.dedicated_scratch;
        sizes = b.sizes ∙ a.sizes;
        vregs = b.vregs ∙ a.vregs;
        num_temp_slots = b.num_temp_slots ∙ a.num_temp_slots;
      });
}

pub returns-then-eq-clause-outcome : goal.returns-then-eq-clause-outcome
returns-then-eq-clause-outcome g c =
    let none : registers_of c.args.clobbers ≡ [] = none_listed c.args.clobbers (λ r. c.eq.ensures.members.0 c.if-eq.true r ∙ c.empty.ensures.none r) in
    subst (λ (rs : List Register). EvictsEach c.args.point rs c.args.inst_regs.now (tables_of c.args.self.now) c.args.inst_regs.now
    (tables_of c.args.self.now)) (sym none) (none_left c.args.inst_regs.now (tables_of c.args.self.now))

pub returns-clause-outcome : goal.returns-clause-outcome
returns-clause-outcome g c =
    let old : StateValue = tables_of c.args.self.now in
    let new : StateValue = tables_of c.loop-preg.self in
    let filled : PRegSet = c.filled.result in
    let left : AreLeftOut c.args.point (has_register filled) old =
    λ r lt out. no_some (vreg_of_preg old.places r) (λ v e. not_both ((c.filled.ensures r lt).1 (v, e)) out) in
    let all : EvictsEach c.args.point (registers_of c.bitand-held.result) c.args.inst_regs.now old c.loop-preg.inst_regs new =
    evicts_each_step c.args.point c.loop-preg.yielded c.loop-preg.preg-iterator (registers_of c.bitand-held.result) c.args.inst_regs.now
    c.loop-preg.inst_regs old new c.in-None.ensures.steps.0 (c.loop-preg.invariant.left ∙ c.into_iter-preg-iterator.ensures.into_iter_gives.list)
    c.loop-preg.invariant.cleared in
    evicts_all c.args.point (has_register filled) (registers_of c.args.clobbers) c.args.inst_regs.now c.loop-preg.inst_regs old new
    (are_small c.args.clobbers) left (subst (λ (rs : List Register). EvictsEach c.args.point rs c.args.inst_regs.now old c.loop-preg.inst_regs new)
    (shared_are c.bitand-held.result c.args.clobbers filled c.bitand-held.ensures) all)

pub returns-then-eq-clause-step : goal.returns-then-eq-clause-step
returns-then-eq-clause-step g c = step_none c.args.self.now c.requires

pub returns-clause-awaited : goal.returns-clause-awaited
returns-clause-awaited g c = c.loop-preg.invariant.awaited

pub returns-clause-step : goal.returns-clause-step
returns-clause-step g c = record {
  machine = c.loop-preg.invariant.machine;
  later = c.loop-preg.invariant.later;
  long = c.loop-preg.invariant.long;
  err = search rules;
}

pub returns-in_err-evict_preg-clause-awaited : goal.returns-in_err-evict_preg-clause-awaited
returns-in_err-evict_preg-clause-awaited g c = c.evict_preg.ensures.awaited ∙ c.loop-preg.invariant.awaited

pub returns-in_err-evict_preg-clause-step : goal.returns-in_err-evict_preg-clause-step
returns-in_err-evict_preg-clause-step g c =
    let e = err_from_is_err_and c.from_residual.result c.from_residual.ensures.1 in
    step_trans_fails c.from_residual.result c.args.self.now c.loop-preg.self c.evict_preg.new.self e.1 e.2 c.loop-preg.invariant.machine
    c.in_err-evict_preg.ensures.step

use Rattle.std.proofs.Common.{ap, ◌≡◌, refl, ◌∙◌, arith, length}
use Rattle.regalloc2_fastalloc_proofs.specs.BlockStart.{none_emptied, one_emptied}
use Rattle.regalloc2_fastalloc_proofs.specs.InstSteps.{StateValue}
use Rattle.regalloc2_fastalloc_walk.specs.StateView.{tables_of}
use Rattle.regalloc2_fastalloc_state.specs.StateParts.{vreg_of_preg}
use Rattle.regalloc2_fastalloc_proofs.proofs.Evictions.NewestLeaves.{newest_leaves}
use Rattle.regalloc2_fastalloc_proofs.proofs.Evictions.PushedAndRemoved.{same_machine_trans, no_some}
use Rattle.regalloc2_fastalloc_walk.proofs.state.State.reload_regs.Goals as goal

pub loop-preg-init : goal.loop-preg-init
loop-preg-init g c = record {
  done = none_emptied;
  later = c.requires;
  long = refl;
  machine = record { allocatable = refl; fixed_stack = refl; dedicated_scratch = refl; sizes = refl; vregs = refl; num_temp_slots = refl };
}

pub loop-preg-preserved : goal.loop-preg-preserved
loop-preg-preserved g c =
    let m : StateValue = tables_of c.loop-preg.self in
    let n : StateValue = tables_of c.evict_preg.new.self in
    let newest = c.in-Some.ensures.some in
    record {
      done = one_emptied c.in-Some.preg c.loop-preg.inst_regs c.evict_preg.new.inst_regs m n c.loop-preg.invariant.done newest
          c.in_ok-evict_preg.ensures.outcome;
      later = c.in_ok-evict_preg.ensures.step.later;
      long = c.in_ok-evict_preg.ensures.step.long ∙ c.loop-preg.invariant.long;
      machine = same_machine_trans (tables_of c.args.self.now) m n c.loop-preg.invariant.machine c.in_ok-evict_preg.ensures.step.machine;
    }

pub loop-preg-smaller : goal.loop-preg-smaller
loop-preg-smaller g c = newest_leaves c.args.point c.in-Some.preg c.loop-preg.inst_regs c.evict_preg.new.inst_regs (tables_of c.loop-preg.self)
    (tables_of c.evict_preg.new.self) c.in_ok-evict_preg.ensures.outcome c.in-Some.ensures.some

pub returns-clause-emptied : goal.returns-clause-emptied
returns-clause-emptied g c = λ r small. no_some (vreg_of_preg c.loop-preg.self.places r)
    (λ v e. let there = c.in_default.ensures.inverse.listed r v small e in
    let none : length c.loop-preg.self.places.in_registers ≡ 0 = ap length c.in_default.ensures.none in omega (arith, there.1, none))

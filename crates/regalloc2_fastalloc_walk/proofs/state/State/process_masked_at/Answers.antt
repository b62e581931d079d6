use Rattle.std.proofs.Common.{refl, sym, ◌∙◌, arith, rules}
use Rattle.std.proofs.lemmas.Result.{err_from_is_err_and}
use Rattle.regalloc2_fastalloc_proofs.proofs.Evictions.PushedAndRemoved.{same_machine_trans}
use Rattle.regalloc2_fastalloc_walk.specs.StateView.{tables_of}
use Rattle.regalloc2_fastalloc_walk.proofs.InstPlaced.{operands_stay_in_tables}
use Rattle.regalloc2_fastalloc_walk.proofs.OperandsProcessed.{none_processed, processed_all, processed_more, processed_next, processed_stops}
use Rattle.regalloc2_fastalloc_walk.proofs.state.State.process_masked_at.Goals as goal

pub loop-k-init : goal.loop-k-init
loop-k-init g c = record {
  done = none_processed (c.into_iter-k-iterator.ensures.into_iter_gives ∙ c.masked_at-k-items.ensures);
  later = c.requires.later;
  long = refl;
  machine = record { allocatable = refl; fixed_stack = refl; dedicated_scratch = refl; sizes = refl; vregs = refl; num_temp_slots = refl };
}

pub process_operand_allocation-requires : goal.process_operand_allocation-requires
process_operand_allocation-requires g c =
    let met = processed_next c.loop-k.invariant.done c.in-Some.ensures.steps in (
      search rules,
      (
        met.inside,
        (
          c.requires.inst,
          (
            c.loop-k.invariant.later,
            (
              operands_stay_in_tables _ (tables_of c.args.self.now) (tables_of c.loop-k.self) c.loop-k.invariant.long c.requires.in_tables,
              omega (arith, c.requires.allocs_long, c.loop-k.auto.allocs),
            ),
          ),
        ),
      ),
    )

pub loop-k-preserved : goal.loop-k-preserved
loop-k-preserved g c = record {
  done = processed_more c.loop-k.invariant.done c.in-Some.ensures.steps c.in_ok-process_operand_allocation.ensures.outcome;
  later = c.in_ok-process_operand_allocation.ensures.step.later;
  long = c.in_ok-process_operand_allocation.ensures.step.long ∙ c.loop-k.invariant.long;
  machine = same_machine_trans (tables_of c.args.self.now) (tables_of c.loop-k.self) (tables_of c.process_operand_allocation.new.self) c.loop-k.invariant.machine
      c.in_ok-process_operand_allocation.ensures.step.machine;
}

pub returns-clause-outcome : goal.returns-clause-outcome
returns-clause-outcome g c = processed_all c.loop-k.invariant.done c.in-None.ensures.steps.0

-- an operand can't be placed
pub returns-in_err-process_operand_allocation-clause-outcome : goal.returns-in_err-process_operand_allocation-clause-outcome
returns-in_err-process_operand_allocation-clause-outcome g c =
    let e = err_from_is_err_and c.from_residual.result c.from_residual.ensures.1 in
    rw e.1 (λ same. processed_stops c.loop-k.invariant.done c.in-Some.ensures.steps (c.in_err-process_operand_allocation.ensures.outcome (sym e.2 ∙ same)))

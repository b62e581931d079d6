use Rattle.std.proofs.Common.{refl, sym, ◌∙◌, arith, rules}
use Rattle.std.proofs.lemmas.List.{get_or_read}
use Rattle.std.proofs.lemmas.Result.{err_from_is_err_and}
use Rattle.regalloc2_names.specs.Place.{NoPlace}
use Rattle.regalloc2_fastalloc_proofs.proofs.Evictions.PushedAndRemoved.{same_machine_trans}
use Rattle.regalloc2_fastalloc_walk.specs.StateView.{tables_of}
use Rattle.regalloc2_fastalloc_walk.proofs.UsesInTurn.{none_moved_yet, use_moved, use_next, use_passed, use_stops, use_within, uses_all}
use Rattle.regalloc2_fastalloc_walk.proofs.state.State.move_masked_uses.Goals as goal

pub loop-k-init : goal.loop-k-init
loop-k-init g c = record {
  done = none_moved_yet (c.into_iter-k-iterator.ensures.into_iter_gives ∙ c.uses-k-items.ensures);
  later = c.requires.later;
  long = refl;
  machine = record { allocatable = refl; fixed_stack = refl; dedicated_scratch = refl; sizes = refl; vregs = refl; num_temp_slots = refl };
}

pub move_use-requires : goal.move_use-requires
move_use-requires g c = (
  search rules,
  (
    c.loop-k.invariant.later,
    use_within c.loop-k.invariant.done c.in-Some.ensures.steps c.loop-k.invariant.long c.requires.in_tables (sym c.is_reading.ensures ∙ c.if-is_reading.true),
  ),
)

pub bounds-allocs-k : goal.bounds-allocs-k
bounds-allocs-k g c = let met = use_next c.loop-k.invariant.done c.in-Some.ensures.steps in omega (arith, met.inside, c.requires.allocs_long)

pub offset_bounds-allocs-k : goal.offset_bounds-allocs-k
offset_bounds-allocs-k g c = omega (arith, bounds-allocs-k g c)

-- a use that reads is moved
pub loop-k-preserved-in-Continue-1 : goal.loop-k-preserved-in-Continue-1
loop-k-preserved-in-Continue-1 g c =
    let met = use_next c.loop-k.invariant.done c.in-Some.ensures.steps in
    record {
      done = use_moved c.loop-k.invariant.done c.in-Some.ensures.steps (sym c.is_reading.ensures ∙ c.if-is_reading.true)
          (get_or_read c.args.allocs.now c.in-Some.k c.index-allocs-k.result (omega (arith, met.inside, c.requires.allocs_long)) c.index-allocs-k.is NoPlace)
          c.in_ok-move_use.ensures.outcome;
      later = c.in_ok-move_use.ensures.step.later;
      long = c.in_ok-move_use.ensures.step.long ∙ c.loop-k.invariant.long;
      machine = same_machine_trans (tables_of c.args.self.now) (tables_of c.loop-k.self) (tables_of c.move_use.new.self) c.loop-k.invariant.machine
          c.in_ok-move_use.ensures.step.machine;
    }

-- a use that doesn't read is left alone
pub loop-k-preserved : goal.loop-k-preserved
loop-k-preserved g c = record {
  done = use_passed c.loop-k.invariant.done c.in-Some.ensures.steps (sym c.is_reading.ensures ∙ c.if-is_reading.false);
  later = c.loop-k.invariant.later;
  long = c.loop-k.invariant.long;
  machine = c.loop-k.invariant.machine;
}

pub returns-clause-outcome : goal.returns-clause-outcome
returns-clause-outcome g c = uses_all c.loop-k.invariant.done c.in-None.ensures.steps.0

-- a use can't be moved
pub returns-in_err-move_use-clause-outcome : goal.returns-in_err-move_use-clause-outcome
returns-in_err-move_use-clause-outcome g c =
    let met = use_next c.loop-k.invariant.done c.in-Some.ensures.steps in
    let e = err_from_is_err_and c.from_residual.result c.from_residual.ensures.1 in
    rw e.1 (λ same. use_stops c.loop-k.invariant.done c.in-Some.ensures.steps (sym c.is_reading.ensures ∙ c.if-is_reading.true)
    (get_or_read c.args.allocs.now c.in-Some.k c.index-allocs-k.result (omega (arith, met.inside, c.requires.allocs_long)) c.index-allocs-k.is NoPlace)
    (c.in_err-move_use.ensures.outcome (sym e.2 ∙ same)))

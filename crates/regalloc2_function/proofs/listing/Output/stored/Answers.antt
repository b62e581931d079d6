use Rattle.std.proofs.lemmas.Result.{err_from_is_err_and}
use Rattle.std.proofs.Common.{refl}
use Rattle.regalloc2_function.proofs.listing.Output.stored.Goals as goal

pub returns-clause-output : goal.returns-clause-output
returns-clause-output g c =
    rw (
      c.in_ok-edits.ensures.moves,
      c.as_slice.ensures.value,
      c.in_ok-allocs.ensures.places,
      c.as_slice-2.ensures.value,
      c.in_ok-inst_alloc_offsets.ensures,
      c.as_slice-3.ensures.value,
      c.in_ok-debug_locations.ensures.locations,
      c.as_slice-4.ensures.value,
    ) refl

pub returns-in_err-edits-clause-memory : goal.returns-in_err-edits-clause-memory
returns-in_err-edits-clause-memory g c = let p = err_from_is_err_and c.from_residual.result c.from_residual.ensures.1 in rw p.1 p.2

pub returns-in_err-allocs-clause-memory : goal.returns-in_err-allocs-clause-memory
returns-in_err-allocs-clause-memory g c = let p = err_from_is_err_and c.from_residual-in_err-allocs.result c.from_residual-in_err-allocs.ensures.1 in rw p.1 p.2

pub returns-in_err-inst_alloc_offsets-clause-memory : goal.returns-in_err-inst_alloc_offsets-clause-memory
returns-in_err-inst_alloc_offsets-clause-memory g c = let p = err_from_is_err_and c.from_residual-in_err-inst_alloc_offsets.result c.from_residual-in_err-inst_alloc_offsets.ensures.1 in rw p.1 p.2

pub returns-in_err-debug_locations-clause-memory : goal.returns-in_err-debug_locations-clause-memory
returns-in_err-debug_locations-clause-memory g c = let p = err_from_is_err_and c.from_residual-in_err-debug_locations.result c.from_residual-in_err-debug_locations.ensures.1 in rw p.1 p.2

pub returns-clause-names : goal.returns-clause-names
returns-clause-names g c = (c.in_ok-edits.ensures.names, c.in_ok-allocs.ensures.names, c.in_ok-debug_locations.ensures.names)

pub returns-clause-memory : goal.returns-clause-memory
returns-clause-memory g c = tt

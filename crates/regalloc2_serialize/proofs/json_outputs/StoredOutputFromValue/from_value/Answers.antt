use Rattle.std.proofs.Common.{refl}
use Rattle.std.proofs.lemmas.Result.{err_from_is_err_and}
use Rattle.serde_json.specs.View.{view}
use Rattle.regalloc2_serialize.proofs.EncodedLists.{output-read}
use Rattle.regalloc2_serialize.proofs.json_outputs.StoredOutputFromValue.from_value.Goals as goal

pub returns-clause-ok : goal.returns-clause-ok
returns-clause-ok g c =
    output-read (view c.args.value.now) c.in_ok-num_spillslots.num_spillslots c.in_ok-edits.edits.items c.in_ok-allocs.allocs.items
    c.in_ok-inst_alloc_offsets.inst_alloc_offsets.items c.in_ok-debug_locations.debug_locations.items c.in_ok-num_spillslots.ensures.ok
    c.in_ok-edits.ensures.ok c.in_ok-allocs.ensures.ok c.in_ok-inst_alloc_offsets.ensures.ok c.in_ok-debug_locations.ensures.ok

pub returns-in_err-num_spillslots-clause-faults : goal.returns-in_err-num_spillslots-clause-faults
returns-in_err-num_spillslots-clause-faults g c = let p = err_from_is_err_and c.from_residual.result c.from_residual.ensures.1 in rw (p.1, p.2) c.in_err-num_spillslots.ensures.faults

pub returns-in_err-edits-clause-faults : goal.returns-in_err-edits-clause-faults
returns-in_err-edits-clause-faults g c = let p = err_from_is_err_and c.from_residual-in_err-edits.result c.from_residual-in_err-edits.ensures.1 in rw (p.1, p.2) c.in_err-edits.ensures.faults

pub returns-in_err-allocs-clause-faults : goal.returns-in_err-allocs-clause-faults
returns-in_err-allocs-clause-faults g c = let p = err_from_is_err_and c.from_residual-in_err-allocs.result c.from_residual-in_err-allocs.ensures.1 in rw (p.1, p.2) c.in_err-allocs.ensures.faults

pub returns-in_err-inst_alloc_offsets-clause-faults : goal.returns-in_err-inst_alloc_offsets-clause-faults
returns-in_err-inst_alloc_offsets-clause-faults g c = let p = err_from_is_err_and c.from_residual-in_err-inst_alloc_offsets.result c.from_residual-in_err-inst_alloc_offsets.ensures.1 in rw (p.1, p.2) c.in_err-inst_alloc_offsets.ensures.faults

pub returns-in_err-debug_locations-clause-faults : goal.returns-in_err-debug_locations-clause-faults
returns-in_err-debug_locations-clause-faults g c = let p = err_from_is_err_and c.from_residual-in_err-debug_locations.result c.from_residual-in_err-debug_locations.ensures.1 in rw (p.1, p.2) c.in_err-debug_locations.ensures.faults

pub returns-clause-faults : goal.returns-clause-faults
returns-clause-faults g c = tt

pub returns-clause-shape : goal.returns-clause-shape
returns-clause-shape g c = tt

pub returns-in_err-edits-clause-shape : goal.returns-in_err-edits-clause-shape
returns-in_err-edits-clause-shape g c =
    let p = err_from_is_err_and c.from_residual-in_err-edits.result c.from_residual-in_err-edits.ensures.1 in
    rw (p.1, p.2) (λ e. rw (c.in_ok-num_spillslots.ensures.ok, c.in_err-edits.ensures.shape e) refl)

pub returns-in_err-num_spillslots-clause-shape : goal.returns-in_err-num_spillslots-clause-shape
returns-in_err-num_spillslots-clause-shape g c =
    let p = err_from_is_err_and c.from_residual.result c.from_residual.ensures.1 in
    rw (p.1, p.2) (λ e. rw (c.in_err-num_spillslots.ensures.shape e) refl)

pub returns-in_err-allocs-clause-shape : goal.returns-in_err-allocs-clause-shape
returns-in_err-allocs-clause-shape g c =
    let p = err_from_is_err_and c.from_residual-in_err-allocs.result c.from_residual-in_err-allocs.ensures.1 in
    rw (p.1, p.2) (λ e. rw (c.in_ok-num_spillslots.ensures.ok, c.in_ok-edits.ensures.ok, c.in_err-allocs.ensures.shape e) refl)

pub returns-in_err-inst_alloc_offsets-clause-shape : goal.returns-in_err-inst_alloc_offsets-clause-shape
returns-in_err-inst_alloc_offsets-clause-shape g c =
    let p = err_from_is_err_and c.from_residual-in_err-inst_alloc_offsets.result c.from_residual-in_err-inst_alloc_offsets.ensures.1 in
    rw (p.1, p.2) (λ e. rw (
      c.in_ok-num_spillslots.ensures.ok,
      c.in_ok-edits.ensures.ok,
      c.in_ok-allocs.ensures.ok,
      c.in_err-inst_alloc_offsets.ensures.shape e,
    ) refl)

pub returns-in_err-debug_locations-clause-shape : goal.returns-in_err-debug_locations-clause-shape
returns-in_err-debug_locations-clause-shape g c =
    let p = err_from_is_err_and c.from_residual-in_err-debug_locations.result c.from_residual-in_err-debug_locations.ensures.1 in
    rw (p.1, p.2) (λ e. rw (
      c.in_ok-num_spillslots.ensures.ok,
      c.in_ok-edits.ensures.ok,
      c.in_ok-allocs.ensures.ok,
      c.in_ok-inst_alloc_offsets.ensures.ok,
      c.in_err-debug_locations.ensures.shape e,
    ) refl)

use Rattle.std.proofs.lemmas.Result.{err_from_is_err_and}
use Rattle.regalloc2_serialize.proofs.flat.stored.StoredOutputFlat.read.Goals as goal

pub returns-in_err-num_spillslots-clause-shape : goal.returns-in_err-num_spillslots-clause-shape
returns-in_err-num_spillslots-clause-shape c =
    let p = err_from_is_err_and c.from_residual.result c.from_residual.ensures.1 in
    rw (p.1, p.2) (λ e x rest h. c.in_err-num_spillslots.ensures.shape e
    (x.num_spillslots, (x.edits, x.allocs, x.inst_alloc_offsets, x.debug_locations)) rest h)

pub returns-in_err-num_spillslots-clause-faults : goal.returns-in_err-num_spillslots-clause-faults
returns-in_err-num_spillslots-clause-faults c = let p = err_from_is_err_and c.from_residual.result c.from_residual.ensures.1 in rw (p.1, p.2) c.in_err-num_spillslots.ensures.faults

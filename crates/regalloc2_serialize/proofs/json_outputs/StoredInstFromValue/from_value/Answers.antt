use Rattle.std.proofs.lemmas.Result.{err_from_is_err_and}
use Rattle.serde_json.specs.View.{view}
use Rattle.regalloc2_serialize.proofs.EncodedLists.{inst-read, no-inst-clobbers, no-inst-op, no-inst-operands}
use Rattle.regalloc2_serialize.proofs.json_outputs.StoredInstFromValue.from_value.Goals as goal

pub returns-clause-ok : goal.returns-clause-ok
returns-clause-ok g c =
    inst-read (view c.args.value.now) c.in_ok-op.op c.in_ok-operands.operands.items c.in_ok-clobbers.clobbers.items c.in_ok-op.ensures.ok c.in_ok-operands.ensures.ok
    c.in_ok-clobbers.ensures.ok

pub returns-in_err-op-clause-shape : goal.returns-in_err-op-clause-shape
returns-in_err-op-clause-shape g c =
    let p = err_from_is_err_and c.from_residual.result c.from_residual.ensures.1 in rw (p.1, p.2) (λ is. no-inst-op (view c.args.value.now) (c.in_err-op.ensures.shape is))

pub returns-in_err-operands-clause-shape : goal.returns-in_err-operands-clause-shape
returns-in_err-operands-clause-shape g c =
    let p = err_from_is_err_and c.from_residual-in_err-operands.result c.from_residual-in_err-operands.ensures.1 in
    rw (p.1, p.2) (λ is. no-inst-operands (view c.args.value.now) c.in_ok-op.op c.in_ok-op.ensures.ok (c.in_err-operands.ensures.shape is))

pub returns-in_err-clobbers-clause-shape : goal.returns-in_err-clobbers-clause-shape
returns-in_err-clobbers-clause-shape g c =
    let p = err_from_is_err_and c.from_residual-in_err-clobbers.result c.from_residual-in_err-clobbers.ensures.1 in
    rw (p.1, p.2) (λ is. no-inst-clobbers (view c.args.value.now) c.in_ok-op.op c.in_ok-operands.operands.items c.in_ok-op.ensures.ok c.in_ok-operands.ensures.ok
    (c.in_err-clobbers.ensures.shape is))

pub returns-in_err-op-clause-faults : goal.returns-in_err-op-clause-faults
returns-in_err-op-clause-faults g c = let p = err_from_is_err_and c.from_residual.result c.from_residual.ensures.1 in rw (p.1, p.2) c.in_err-op.ensures.faults

pub returns-in_err-operands-clause-faults : goal.returns-in_err-operands-clause-faults
returns-in_err-operands-clause-faults g c = let p = err_from_is_err_and c.from_residual-in_err-operands.result c.from_residual-in_err-operands.ensures.1 in rw (p.1, p.2) c.in_err-operands.ensures.faults

pub returns-in_err-clobbers-clause-faults : goal.returns-in_err-clobbers-clause-faults
returns-in_err-clobbers-clause-faults g c = let p = err_from_is_err_and c.from_residual-in_err-clobbers.result c.from_residual-in_err-clobbers.ensures.1 in rw (p.1, p.2) c.in_err-clobbers.ensures.faults

pub returns-clause-faults : goal.returns-clause-faults
returns-clause-faults g c = tt

pub returns-clause-shape : goal.returns-clause-shape
returns-clause-shape g c = tt

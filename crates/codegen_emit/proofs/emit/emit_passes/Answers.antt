use Rattle.codegen_emit.proofs.Emitting.{no_pass, one_pass}
use Rattle.codegen_emit.proofs.emit.emit_passes.Goals as goal

pub loop-index-init : goal.loop-index-init
loop-index-init c = no_pass _ _

pub loop-index-preserved : goal.loop-index-preserved
loop-index-preserved c = one_pass _ _ _ _ _ c.loop-index.invariant (rw c.place.ensures at c.in_ok-emit_pass.ensures)

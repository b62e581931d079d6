use Rattle.std.proofs.Common.{[], List, subst, slice_index_or}
use Rattle.std.specs.Prelude.{IfOk}
use Rattle.regalloc2_names.specs.Register.{Register}
use Rattle.regalloc2_parts.specs.Ring.{IsNewRing}
use Rattle.regalloc2_fastalloc_state.proofs.LrusOfMachine.{lrus_made}
use Rattle.regalloc2_fastalloc_state.proofs.allocatable.lrus_of.Goals as goal

pub returns-clause-ok : goal.returns-clause-ok
returns-clause-ok g c =
    lrus_made (λ r. r.items) c.new.result c.args.int c.args.float c.args.vector c.in_ok-int_regs.int_regs.items c.in_ok-float_regs.float_regs.items
    c.in_ok-vector_regs.vector_regs.items c.in_ok-int_regs.ensures.ok c.in_ok-float_regs.ensures.ok c.in_ok-vector_regs.ensures.ok c.new.ensures.three
    (subst (λ (l : List Register). IfOk c.new.result (λ r. IsNewRing l (slice_index_or r.items 0 []))) c.deref.ensures.value c.new.ensures.int)
    (subst (λ (l : List Register). IfOk c.new.result (λ r. IsNewRing l (slice_index_or r.items 1 []))) c.deref-2.ensures.value c.new.ensures.float)
    (subst (λ (l : List Register). IfOk c.new.result (λ r. IsNewRing l (slice_index_or r.items 2 []))) c.deref-3.ensures.value c.new.ensures.vector)

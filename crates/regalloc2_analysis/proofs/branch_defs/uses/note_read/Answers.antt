use Rattle.std.proofs.Common.{◌≡◌, ◌∙◌, true, ap, sym}
use Rattle.regalloc2_names.specs.Register.{VirtualRegister}
use Rattle.std.proofs.lemmas.Bool.{false≢true}
use Rattle.regalloc2_names.specs.Operand.{is_reading}
use Rattle.regalloc2_analysis.proofs.MarkedItems.{marks_nothing, marks_same}
use Rattle.regalloc2_analysis.proofs.branch_defs.uses.note_read.Goals as goal

pub returns-then-is_reading : goal.returns-then-is_reading
returns-then-is_reading c =
    let reads : is_reading c.args.operand ≡ true = sym c.is_reading.ensures ∙ c.if-is_reading.true in
    let number : c.vreg-then-is_reading.result ≡ c.args.operand.vreg.number =
    c.vreg-then-is_reading.ensures.number ∙ ap (λ (v : VirtualRegister). v.number) c.vreg.ensures in
    marks_same (λ n. c.vreg-then-is_reading.result ≡ n) (λ n. (is_reading c.args.operand ≡ true) × (c.args.operand.vreg.number ≡ n)) c.args.used.now
    c.mark.new.marks (λ n. (λ e. (reads, sym number ∙ e), λ h. number ∙ h.1)) c.mark.ensures

pub returns-else-is_reading : goal.returns-else-is_reading
returns-else-is_reading c =
    marks_nothing (λ n. (is_reading c.args.operand ≡ true) × (c.args.operand.vreg.number ≡ n)) c.args.used.now
    (λ n h. false≢true (sym c.if-is_reading.false ∙ c.is_reading.ensures ∙ h.0))

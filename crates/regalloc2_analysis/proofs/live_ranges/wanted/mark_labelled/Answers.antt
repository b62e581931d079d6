use Rattle.std.proofs.Common.{ℕ, ◌≡◌, ◌∙◌, sym, ap, subst}
use Rattle.regalloc2_names.specs.Register.{VirtualRegister}
use Rattle.regalloc2_function.specs.Inside.MarkedNumbers.{Marks}
use Rattle.regalloc2_analysis.proofs.LiveRangesLemmas.Labelled.{named_more}
use Rattle.regalloc2_analysis.proofs.live_ranges.wanted.mark_labelled.Goals as goal

pub loop-j-preserved : goal.loop-j-preserved
loop-j-preserved c =
    let number : c.vreg.result ≡ c.index-labels-j.result.0.number =
    c.vreg.ensures.number ∙ ap (λ (l : VirtualRegister × ℕ × ℕ × ℕ). l.0.number) (sym c.index-labels-j.is) in
    named_more c.args.labels.now c.loop-j.j c.index-labels-j.result c.args.wanted.now c.loop-j.wanted c.mark.new.marks c.loop-j-test.true
    c.index-labels-j.is c.loop-j.auto.wanted c.loop-j.invariant
    (subst (λ (m : ℕ). Marks (λ n. m ≡ n) c.loop-j.wanted c.mark.new.marks) number c.mark.ensures)

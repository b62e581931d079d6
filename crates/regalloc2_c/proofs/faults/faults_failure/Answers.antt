use Rattle.std.proofs.Common.{inr, refl, ap, ◌∙◌, ◌++◌}
use Rattle.regalloc2.specs.Views.{output_of}
use Rattle.regalloc2_c.specs.Faults.{faults_words}
use Rattle.regalloc2_c.proofs.faults.faults_failure.Goals as goal

pub returns-in-Ok : goal.returns-in-Ok
returns-in-Ok g c =
    inr (c.push_faults.new.to, refl, c.in-Ok.ensures ∙ ap (λ xs. xs ++ faults_words (g.F.Function.function c.args.judged.now.f.now) (output_of c.args.judged.now.output.now) c.args.errors.now) c.new-words.ensures.items)

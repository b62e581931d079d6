use Rattle.std.proofs.Common.{◌∙◌, sym}
use Rattle.std.proofs.lemmas.Bool.{false≢true}
use Rattle.regalloc2_names.specs.declared.RegClass.{RegClass}
use Rattle.regalloc2_names.specs.declared.RegClass.TheVariants.{Int, Float, Vector}
use Rattle.regalloc2_semantics.specs.Places.{IsValidPlace}
use Rattle.regalloc2_function.specs.Views.{machine_of, output_of}
use Rattle.regalloc2_checker.proofs.JudgedCells.{last_class}
use Rattle.regalloc2_checker.proofs.cells.is_proper_of_any.Goals.{then-is_proper, else-is_proper}
use Rattle.regalloc2_checker.proofs.cells.is_proper_of_any.Goals as goal

pub returns-then-is_proper-2 : goal.returns-then-is_proper-2
returns-then-is_proper-2 g c =
    let some : (k : RegClass) × IsValidPlace (machine_of c.args.env.now) (output_of c.args.output.now) k c.args.place = elim c.if-is_proper.branch [
      | then-is_proper w ↦ (Int, c.is_proper.ensures.0 w.if-is_proper.true)
      | else-is_proper w ↦ (Float, w.is_proper-else-is_proper.ensures.0 (sym w.value-is ∙ c.if-is_proper-2.true))
    ] in
    (λ _. some, λ _. c.if-is_proper-2.true)

pub returns-else-is_proper-2 : goal.returns-else-is_proper-2
returns-else-is_proper-2 g c =
    let P : RegClass → Type 0 = λ k. IsValidPlace (machine_of c.args.env.now) (output_of c.args.output.now) k c.args.place in
    let no_int : P Int → ⊥ = λ p. elim c.if-is_proper.branch [
      | then-is_proper w ↦ false≢true (sym c.if-is_proper-2.false ∙ w.value-is ∙ w.if-is_proper.true)
      | else-is_proper w ↦ false≢true (sym w.if-is_proper.false ∙ c.is_proper.ensures.1 p)
    ] in
    let no_float : P Float → ⊥ = λ p. elim c.if-is_proper.branch [
      | then-is_proper w ↦ false≢true (sym c.if-is_proper-2.false ∙ w.value-is ∙ w.if-is_proper.true)
      | else-is_proper w ↦ false≢true (sym c.if-is_proper-2.false ∙ w.value-is ∙ w.is_proper-else-is_proper.ensures.1 p)
    ] in
    let last = c.is_proper-else-is_proper-2.ensures in
    (λ h. (Vector, last.0 h), λ some. last.1 (last_class P no_int no_float some.0 some.1))

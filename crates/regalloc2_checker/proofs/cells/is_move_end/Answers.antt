use Rattle.std.proofs.Common.{◌≡◌, ◌∙◌, false, inl, inr, sym}
use Rattle.std.specs.Prelude.{Some}
use Rattle.std.proofs.lemmas.Bool.{false≢true}
use Rattle.regalloc2_names.specs.Place.{InRegister}
use Rattle.regalloc2_names.specs.Register.{Register}
use Rattle.regalloc2_names.specs.declared.RegClass.{RegClass}
use Rattle.regalloc2_names.specs.declared.RegClass.TheVariants.{Int, Float, Vector}
use Rattle.regalloc2_semantics.specs.Places.{IsMoveEnd}
use Rattle.regalloc2_function.specs.Machine.{scratch_of}
use Rattle.regalloc2_function.specs.Views.{machine_of, output_of}
use Rattle.regalloc2_checker.proofs.JudgedCells.{last_class}
use Rattle.regalloc2_checker.proofs.cells.is_move_end.Goals.{then-is_cell_of_any, else-is_cell_of_any, then-is_scratch, else-is_scratch}
use Rattle.regalloc2_checker.proofs.cells.is_move_end.Goals as goal

pub returns-then-is_scratch-2 : goal.returns-then-is_scratch-2
returns-then-is_scratch-2 g c =
    let some : IsMoveEnd (machine_of c.args.env.now) (output_of c.args.output.now) c.args.place = elim c.if-is_scratch.branch [
      | then-is_scratch w ↦ (elim c.if-is_cell_of_any.branch [
        | then-is_cell_of_any v ↦ (let cell = c.is_cell_of_any.ensures.0 v.if-is_cell_of_any.true in (cell.0, inl cell.1))
        | else-is_cell_of_any v ↦ (Int, inr (v.is_scratch.ensures.0 (sym v.value-is ∙ w.if-is_scratch.true)))
      ])
      | else-is_scratch w ↦ (Float, inr (w.is_scratch-else-is_scratch.ensures.0 (sym w.value-is ∙ c.if-is_scratch-2.true)))
    ] in
    (λ _. some, λ _. c.if-is_scratch-2.true)

pub returns-else-is_scratch-2 : goal.returns-else-is_scratch-2
returns-else-is_scratch-2 g c =
    let S : RegClass → Type 0 = λ k. (r : Register) × (scratch_of (machine_of c.args.env.now) k ≡ Some r) × (c.args.place ≡ InRegister r) in
    let fails : c.if-is_cell_of_any.value ≡ false = elim c.if-is_scratch.branch [
      | then-is_scratch w ↦ absurd (false≢true (sym c.if-is_scratch-2.false ∙ w.value-is ∙ w.if-is_scratch.true))
      | else-is_scratch w ↦ w.if-is_scratch.false
    ] in
    let no_cell : c.is_cell_of_any.result ≡ false = elim c.if-is_cell_of_any.branch [
      | then-is_cell_of_any v ↦ sym v.value-is ∙ fails
      | else-is_cell_of_any v ↦ v.if-is_cell_of_any.false
    ] in
    let no_int : S Int → ⊥ = λ s. elim c.if-is_cell_of_any.branch [
      | then-is_cell_of_any v ↦ false≢true (sym no_cell ∙ v.if-is_cell_of_any.true)
      | else-is_cell_of_any v ↦ false≢true (sym fails ∙ v.value-is ∙ v.is_scratch.ensures.1 s)
    ] in
    let no_float : S Float → ⊥ = λ s. elim c.if-is_scratch.branch [
      | then-is_scratch w ↦ false≢true (sym c.if-is_scratch-2.false ∙ w.value-is ∙ w.if-is_scratch.true)
      | else-is_scratch w ↦ false≢true (sym c.if-is_scratch-2.false ∙ w.value-is ∙ w.is_scratch-else-is_scratch.ensures.1 s)
    ] in
    let last = c.is_scratch-else-is_scratch-2.ensures in (
      λ h. (Vector, inr (last.0 h)),
      λ end. elim end.1 [
        | inl proper ↦ absurd (false≢true (sym no_cell ∙ c.is_cell_of_any.ensures.1 (end.0, proper)))
        | inr scratch ↦ last.1 (last_class S no_int no_float end.0 scratch)
      ],
    )

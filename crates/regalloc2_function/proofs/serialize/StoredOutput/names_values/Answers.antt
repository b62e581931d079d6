use Rattle.std.proofs.Common.{sym, ◌∙◌}
use Rattle.std.proofs.lemmas.Bool.{false≢true}
use Rattle.regalloc2_index.proofs.Bools.{false_refutes}
use Rattle.regalloc2_function.proofs.serialize.StoredOutput.names_values.Goals.{then-are_moves, else-are_moves}
use Rattle.regalloc2_function.proofs.serialize.StoredOutput.names_values.Goals as goal

pub returns-then-are_places : goal.returns-then-are_places
returns-then-are_places g c = elim c.if-are_moves.branch [
  | then-are_moves w ↦ (
    λ t. (
      rw c.as_slice.ensures.value at (c.are_moves.ensures.0 w.if-are_moves.true),
      rw w.as_slice-then-are_moves.ensures.value at (w.are_places.ensures.0 (sym w.value-is ∙ c.if-are_places.true)),
      rw c.as_slice-then-are_places.ensures.value at (c.are_locations.ensures.0 t),
    ),
    λ h. c.are_locations.ensures.1 (rw c.as_slice-then-are_places.ensures.value h.2),
  )
  | else-are_moves w ↦ absurd (false≢true (sym w.if-are_moves.false ∙ sym w.value-is ∙ c.if-are_places.true))
]

pub returns-else-are_places : goal.returns-else-are_places
returns-else-are_places g c = (
  λ t. absurd (false≢true (sym c.if-are_places.false ∙ t)),
  λ h. elim c.if-are_moves.branch [
    | then-are_moves w ↦ absurd
        (false_refutes _ (sym w.value-is ∙ c.if-are_places.false) w.are_places.ensures.1 (rw w.as_slice-then-are_moves.ensures.value h.1))
    | else-are_moves w ↦ absurd (false_refutes _ w.if-are_moves.false c.are_moves.ensures.1 (rw c.as_slice.ensures.value h.0))
  ],
)

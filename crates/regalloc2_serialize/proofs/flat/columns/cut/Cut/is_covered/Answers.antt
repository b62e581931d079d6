use Rattle.std.proofs.Common.{◌∙◌, sym, List, ℕ}
use Rattle.std.specs.Prelude.{IsTrue, ◌↔◌}
use Rattle.std.proofs.lemmas.Bool.{false≢true}
use Rattle.regalloc2_serialize.specs.Flat.Columns.Layout.{header_of, operand_ends, inst_ends, pred_ends, succ_ends, param_ends}
use Rattle.regalloc2_serialize.specs.Flat.Columns.Sound.{Covers}
use Rattle.regalloc2_serialize.proofs.Chains.{both, neither}
use Rattle.regalloc2_serialize.proofs.flat.columns.cut.Cut.is_covered.Goals.{then-covers, else-covers, then-covers-2, else-covers-2, then-covers-3, else-covers-3, then-covers-4, else-covers-4}
use Rattle.regalloc2_serialize.proofs.flat.columns.cut.Cut.is_covered.Goals as goal

abbrev Insts : List ℕ → Type 0
Insts words = Covers (operand_ends words) (header_of words).operands × Covers (inst_ends words) (header_of words).insts

abbrev Preds : List ℕ → Type 0
Preds words = Insts words × Covers (pred_ends words) (header_of words).preds

abbrev Succs : List ℕ → Type 0
Succs words = Preds words × Covers (succ_ends words) (header_of words).edges

abbrev Params : List ℕ → Type 0
Params words = Succs words × Covers (param_ends words) (header_of words).params

pub returns-then-covers-5 : goal.returns-then-covers-5
returns-then-covers-5 c =
    let words = c.args.self.now.words.now in
    let head = c.header-header.ensures in
    let zero = rw (c.column.ensures.column, head) at c.covers.ensures in
    let one : IsTrue c.if-covers.value ↔ Insts words = elim c.if-covers.branch [
      | then-covers w ↦ both _ _ (zero.0 w.if-covers.true) w.value-is (rw (w.column-then-covers.ensures.column, head) at w.covers-then-covers.ensures)
      | else-covers w ↦ neither _ _ zero w.if-covers.false w.value-is
    ] in
    let two : IsTrue c.if-covers-2.value ↔ Preds words = elim c.if-covers-2.branch [
      | then-covers-2 w ↦ both _ _ (one.0 w.if-covers-2.true) w.value-is (rw (w.column-then-covers-2.ensures.column, head) at w.covers-then-covers-2.ensures)
      | else-covers-2 w ↦ neither _ _ one w.if-covers-2.false w.value-is
    ] in
    let three : IsTrue c.if-covers-3.value ↔ Succs words = elim c.if-covers-3.branch [
      | then-covers-3 w ↦ both _ _ (two.0 w.if-covers-3.true) w.value-is (rw (w.column-then-covers-3.ensures.column, head) at w.covers-then-covers-3.ensures)
      | else-covers-3 w ↦ neither _ _ two w.if-covers-3.false w.value-is
    ] in
    let four : IsTrue c.if-covers-4.value ↔ Params words = elim c.if-covers-4.branch [
      | then-covers-4 w ↦ both _ _ (three.0 w.if-covers-4.true) w.value-is (rw (w.column-then-covers-4.ensures.column, head) at w.covers-then-covers-4.ensures)
      | else-covers-4 w ↦ neither _ _ three w.if-covers-4.false w.value-is
    ] in
    let t = four.0 c.if-covers-5.true in
    let last = rw (c.column-then-covers-5.ensures.column, head) at c.covers-then-covers-5.ensures in (
      λ h. record { operands = t.0.0.0.0; insts = t.0.0.0.1; preds = t.0.0.1; succs = t.0.1; params = t.1; arguments = last.0 h },
      λ m. last.1 m.arguments,
    )

pub returns-else-covers-5 : goal.returns-else-covers-5
returns-else-covers-5 c =
    let words = c.args.self.now.words.now in
    let head = c.header-header.ensures in
    let zero = rw (c.column.ensures.column, head) at c.covers.ensures in
    let one : IsTrue c.if-covers.value ↔ Insts words = elim c.if-covers.branch [
      | then-covers w ↦ both _ _ (zero.0 w.if-covers.true) w.value-is (rw (w.column-then-covers.ensures.column, head) at w.covers-then-covers.ensures)
      | else-covers w ↦ neither _ _ zero w.if-covers.false w.value-is
    ] in
    let two : IsTrue c.if-covers-2.value ↔ Preds words = elim c.if-covers-2.branch [
      | then-covers-2 w ↦ both _ _ (one.0 w.if-covers-2.true) w.value-is (rw (w.column-then-covers-2.ensures.column, head) at w.covers-then-covers-2.ensures)
      | else-covers-2 w ↦ neither _ _ one w.if-covers-2.false w.value-is
    ] in
    let three : IsTrue c.if-covers-3.value ↔ Succs words = elim c.if-covers-3.branch [
      | then-covers-3 w ↦ both _ _ (two.0 w.if-covers-3.true) w.value-is (rw (w.column-then-covers-3.ensures.column, head) at w.covers-then-covers-3.ensures)
      | else-covers-3 w ↦ neither _ _ two w.if-covers-3.false w.value-is
    ] in
    let four : IsTrue c.if-covers-4.value ↔ Params words = elim c.if-covers-4.branch [
      | then-covers-4 w ↦ both _ _ (three.0 w.if-covers-4.true) w.value-is (rw (w.column-then-covers-4.ensures.column, head) at w.covers-then-covers-4.ensures)
      | else-covers-4 w ↦ neither _ _ three w.if-covers-4.false w.value-is
    ] in (
      λ h. absurd (false≢true (sym c.if-covers-5.false ∙ h)),
      λ m. four.1 ((((m.operands, m.insts), m.preds), m.succs), m.params),
    )

use Rattle.std.proofs.Common.{arith, ◌≡◌, ◌∙◌, ◌∷◌, ◌*◌, refl, ap, sym, length, map}
use Rattle.std.proofs.lemmas.Result.{IfOk-weaker}
use Rattle.regalloc2_names.specs.Packing.{operand_of_bits}
use Rattle.regalloc2_serialize.specs.Flat.Columns.Layout.{header_of, operand_ends, operand_words}
use Rattle.regalloc2_serialize.specs.Flat.Columns.Value.{longs}
use Rattle.regalloc2_serialize.proofs.ColumnsLemmas.Made.{covers-same, longs-count}
use Rattle.regalloc2_serialize.proofs.flat.columns.read.operands_from.Goals as goal

pub operands_of-requires : goal.operands_of-requires
operands_of-requires g c = record {
  count = c.column.ensures.count ∙ ap (λ h. 2 * h.operands) (sym c.header.ensures);
  operands = rw (c.column.ensures.column, c.header.ensures) c.requires.names.operands;
}

pub pieces_of-requires : goal.pieces_of-requires
pieces_of-requires g c =
    let words = c.args.cut.now.words.now in
    let items = c.in_ok-items.items in
    covers-same c.column-2.result.now (operand_ends words) (header_of words).operands items.len c.requires.covered.operands c.column-2.ensures.column
    (omega (
      arith,
      items.ok.0,
      ap length c.in_ok-items.ensures,
      longs-count operand_of_bits c.column.result.now c.header.result.operands,
      ap (λ h. h.operands) c.header.ensures,
    ))

pub returns-clause-items : goal.returns-clause-items
returns-clause-items g c =
    let words = c.args.cut.now.words.now in
    let same : longs c.column.result.now c.header.result.operands ≡ longs (operand_words words) (header_of words).operands =
    rw (c.column.ensures.column, c.header.ensures) refl in
    IfOk-weaker c.pieces_of.result _ _ (λ p h. ap (λ v. v.items) h.0 ∙ c.in_ok-items.ensures ∙ ap (map operand_of_bits) same) c.pieces_of.ensures

pub returns-clause-bounds : goal.returns-clause-bounds
returns-clause-bounds g c = IfOk-weaker c.pieces_of.result _ _ (λ p h. h.1 ∙ ap (λ l. 0 ∷ l) c.column-2.ensures.column) c.pieces_of.ensures

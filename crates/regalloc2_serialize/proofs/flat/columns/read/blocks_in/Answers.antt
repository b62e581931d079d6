use Rattle.std.proofs.Common.{arith, ◌∙◌, ap, length, refl}
use Rattle.std.proofs.lemmas.Result.{IfOk-weaker}
use Rattle.regalloc2_serialize.proofs.ColumnsLemmas.Made.{covers-same}
use Rattle.regalloc2_serialize.proofs.flat.columns.read.blocks_in.Goals as goal

pub pieces_of-requires : goal.pieces_of-requires
pieces_of-requires g c =
    let items = c.in_ok-items.items in
    let ends = c.args.ends.now in
    covers-same ends ends (length c.args.words.now) items.len c.requires refl (omega (arith, items.ok.0, ap length c.in_ok-items.ensures))

pub returns-clause-items : goal.returns-clause-items
returns-clause-items g c = IfOk-weaker c.pieces_of.result _ _ (λ p h. ap (λ v. v.items) h.0 ∙ c.in_ok-items.ensures) c.pieces_of.ensures

pub returns-clause-bounds : goal.returns-clause-bounds
returns-clause-bounds g c = IfOk-weaker c.pieces_of.result _ _ (λ p h. h.1) c.pieces_of.ensures

use Rattle.std.proofs.Common.{arith, refl, vec_len, ◌<◌, ◌/◌}
use Rattle.regalloc2_serialize.proofs.Given.{item-has}
use Rattle.regalloc2_serialize.specs.Flat.Columns.Kept.{columns_of_flat}
use Rattle.regalloc2_serialize.proofs.ColumnsLemmas.Kept.{inst-within, kind-of, clobbers-of}
use Rattle.regalloc2_serialize.proofs.flat.columns.FlatFunctionFunction.inst_clobbers.Goals as goal

pub index-requires-2 : goal.index-requires-2
index-requires-2 g c =
    let f = c.args.self.now in
    omega (arith, inst-within (columns_of_flat f) c.args.inst c.requires, f.kinds.ok.0, c.index.ensures)

pub index-requires-3 : goal.index-requires-3
index-requires-3 g c =
    let f = c.args.self.now in
    item-has (λ k. k / 4 < vec_len f.sets) f.kinds.items c.index.result c.index-2.result.now f.set_of_each
    (omega (arith, inst-within (columns_of_flat f) c.args.inst c.requires, c.index.ensures)) c.index-2.ensures

pub returns : goal.returns
returns g c =
    let f = c.args.self.now in
    let x = c.index-2.result.now in
    let inside : x / 4 < vec_len f.sets = item-has (λ k. k / 4 < vec_len f.sets) f.kinds.items c.index.result x f.set_of_each
    (omega (arith, inst-within (columns_of_flat f) c.args.inst c.requires, c.index.ensures)) c.index-2.ensures in
    clobbers-of (columns_of_flat f) c.args.inst x (x / 4) c.index-3.result.now c.requires
    (kind-of (columns_of_flat f) c.args.inst c.index.result x c.requires c.index.ensures c.index-2.ensures) refl (omega (arith, inside, f.sets.ok.0))
    c.index-3.ensures

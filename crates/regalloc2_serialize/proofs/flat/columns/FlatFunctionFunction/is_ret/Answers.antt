use Rattle.std.proofs.Common.{arith}
use Rattle.regalloc2_serialize.specs.Flat.Columns.Kept.{columns_of_flat}
use Rattle.regalloc2_serialize.proofs.ColumnsLemmas.Kept.{inst-within, kind-of, ret-of}
use Rattle.regalloc2_serialize.proofs.flat.columns.FlatFunctionFunction.is_ret.Goals as goal

pub index-requires-2 : goal.index-requires-2
index-requires-2 g c =
    let f = c.args.self.now in
    omega (arith, inst-within (columns_of_flat f) c.args.inst c.requires, f.kinds.ok.0, c.index.ensures)

pub returns : goal.returns
returns g c =
    let f = columns_of_flat c.args.self.now in
    ret-of f c.args.inst c.index-2.result.now c.requires (kind-of f c.args.inst c.index.result c.index-2.result.now c.requires c.index.ensures c.index-2.ensures)

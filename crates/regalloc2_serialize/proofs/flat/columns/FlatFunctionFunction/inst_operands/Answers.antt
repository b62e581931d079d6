use Rattle.std.proofs.Common.{arith}
use Rattle.regalloc2_serialize.specs.Flat.Columns.Kept.{columns_of_flat}
use Rattle.regalloc2_serialize.proofs.ColumnsLemmas.Kept.{inst-within, operands-of}
use Rattle.regalloc2_serialize.proofs.flat.columns.FlatFunctionFunction.inst_operands.Goals as goal

pub part-requires : goal.part-requires
part-requires g c =
    let f = c.args.self.now in
    omega (arith, inst-within (columns_of_flat f) c.args.inst c.requires, f.kinds.ok.0, f.operands_of_each, c.index.ensures)

pub returns : goal.returns
returns g c = operands-of (columns_of_flat c.args.self.now) c.args.inst c.index.result c.part.result.now c.requires c.index.ensures c.part.ensures

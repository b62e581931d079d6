use Rattle.std.proofs.Common.{arith}
use Rattle.regalloc2_serialize.specs.Flat.Columns.Kept.{columns_of_flat}
use Rattle.regalloc2_serialize.proofs.ColumnsLemmas.Kept.{block-within, params-of}
use Rattle.regalloc2_serialize.proofs.flat.columns.FlatFunctionFunction.block_params.Goals as goal

pub part-requires : goal.part-requires
part-requires g c =
    let f = c.args.self.now in
    omega (arith, block-within (columns_of_flat f) c.args.block c.requires, f.inst_bounds.ok.0, f.params_of_each, c.index.ensures)

pub returns : goal.returns
returns g c = params-of (columns_of_flat c.args.self.now) c.args.block c.index.result c.part.result.now c.requires c.index.ensures c.part.ensures

use Rattle.std.proofs.Common.{arith, ◌-◌, length}
use Rattle.std.proofs.lemmas.List.FromFn.{length-map-range_with_len}
use Rattle.regalloc2_serialize.specs.Flat.Columns.Value.{column_block}
use Rattle.regalloc2_serialize.specs.Flat.Columns.Kept.{columns_of_flat}
use Rattle.regalloc2_serialize.proofs.flat.columns.FlatFunctionFunction.num_blocks.Goals as goal

pub returns-clause-count : goal.returns-clause-count
returns-clause-count g c =
    let f = c.args.self.now in
    omega (arith, length-map-range_with_len (column_block (columns_of_flat f)) 0 (length f.inst_bounds.items - 1), f.inst_bounds.ok.0)

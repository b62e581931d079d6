use Rattle.std.proofs.Common.{arith, ◌+◌}
use Rattle.regalloc2_serialize.specs.Flat.Columns.Layout.{header_of, widths}
use Rattle.regalloc2_serialize.proofs.ColumnsLemmas.Starts.{column-count}
use Rattle.regalloc2_serialize.proofs.flat.columns.cut.Cut.column.Goals as goal

pub returns-clause-count : goal.returns-clause-count
returns-clause-count c =
    let cut = c.args.self.now in
    rw (cut.starts_are c.args.k (omega arith), cut.starts_are (c.args.k + 1) (omega arith))
    (column-count cut.words.now (widths (header_of cut.words.now)) c.args.k c.requires cut.count)

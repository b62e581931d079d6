use Rattle.std.proofs.Common.{arith, ap, ◌+◌, ◌∙◌}
use Rattle.regalloc2_serialize.specs.Flat.Columns.Kept.{columns_of_flat}
use Rattle.regalloc2_serialize.proofs.ColumnsLemmas.Kept.{block-within, bound-read, range-of}
use Rattle.regalloc2_serialize.proofs.flat.columns.FlatFunctionFunction.block_insns.Goals as goal

pub index-first-requires : goal.index-first-requires
index-first-requires g c =
    let f = c.args.self.now in
    omega (arith, block-within (columns_of_flat f) c.args.block c.requires, f.inst_bounds.ok.0, c.index.ensures)

pub index-end-requires : goal.index-end-requires
index-end-requires g c =
    let f = c.args.self.now in
    omega (arith, block-within (columns_of_flat f) c.args.block c.requires, f.inst_bounds.ok.0, c.index-2.ensures)

pub new-requires-3 : goal.new-requires-3
new-requires-3 g c =
    let f = c.args.self.now in
    let at = block-within (columns_of_flat f) c.args.block c.requires in
    let first = bound-read f.inst_bounds.items c.index.result c.args.block c.index-first.result.now c.index.ensures
    (omega (arith, at, c.index.ensures)) c.index-first.ensures in
    let end = bound-read f.inst_bounds.items (c.index-2.result + 1) (c.args.block + 1) c.index-end.result.now (ap (λ n. n + 1) c.index-2.ensures)
    (omega (arith, at, c.index-2.ensures)) c.index-end.ensures in
    omega (arith, first, end, c.new.ensures, c.new-2.ensures, f.insts_rise c.args.block (omega (arith, at, f.inst_bounds.ok.0)))

pub returns : goal.returns
returns g c =
    let f = c.args.self.now in
    let at = block-within (columns_of_flat f) c.args.block c.requires in
    let first = bound-read f.inst_bounds.items c.index.result c.args.block c.index-first.result.now c.index.ensures
    (omega (arith, at, c.index.ensures)) c.index-first.ensures in
    let end = bound-read f.inst_bounds.items (c.index-2.result + 1) (c.args.block + 1) c.index-end.result.now (ap (λ n. n + 1) c.index-2.ensures)
    (omega (arith, at, c.index-2.ensures)) c.index-end.ensures in
    range-of (columns_of_flat f) c.args.block c.new.result c.new-2.result c.new-3.result c.requires c.new-3.ensures (c.new.ensures ∙ first)
    (c.new-2.ensures ∙ end)

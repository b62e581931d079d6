use Rattle.std.proofs.Common.{arith, ◌+◌}
use Rattle.regalloc2_serialize.specs.Flat.Columns.Kept.{columns_of_flat}
use Rattle.regalloc2_serialize.proofs.ColumnsLemmas.Kept.{block-within, bound-read, is-edge, arguments-of}
use Rattle.regalloc2_serialize.proofs.flat.columns.FlatFunctionFunction.branch_blockparams.Goals as goal

pub index-requires-2 : goal.index-requires-2
index-requires-2 g c =
    let f = c.args.self.now in
    omega (arith, block-within (columns_of_flat f) c.args.block c.requires.block, f.inst_bounds.ok.0, f.succs_of_each, c.index.ensures)

pub overflow_add-first : goal.overflow_add-first
overflow_add-first g c =
    let f = c.args.self.now in
    let at = block-within (columns_of_flat f) c.args.block c.requires.block in
    let start = bound-read f.succs.bounds.items c.index.result c.args.block c.index-2.result.now c.index.ensures
    (omega (arith, at, f.inst_bounds.ok.0, f.succs_of_each, f.succs.bounds.ok.0, c.index.ensures)) c.index-2.ensures in
    let end = f.succs.within (c.args.block + 1) 0 (omega (arith, at, f.inst_bounds.ok.0, f.succs_of_each, f.succs.bounds.ok.0)) in
    let e = is-edge (columns_of_flat f) c.args.block c.index-2.result.now c.args.succ_idx c.requires.block start
    (omega (arith, end, f.succs.items.ok.0)) c.requires.position in
    omega (arith, e.inside, f.succs.items.ok.0)

pub part-requires : goal.part-requires
part-requires g c =
    let f = c.args.self.now in
    let at = block-within (columns_of_flat f) c.args.block c.requires.block in
    let start = bound-read f.succs.bounds.items c.index.result c.args.block c.index-2.result.now c.index.ensures
    (omega (arith, at, f.inst_bounds.ok.0, f.succs_of_each, f.succs.bounds.ok.0, c.index.ensures)) c.index-2.ensures in
    let end = f.succs.within (c.args.block + 1) 0 (omega (arith, at, f.inst_bounds.ok.0, f.succs_of_each, f.succs.bounds.ok.0)) in
    let e = is-edge (columns_of_flat f) c.args.block c.index-2.result.now c.args.succ_idx c.requires.block start
    (omega (arith, end, f.succs.items.ok.0)) c.requires.position in
    omega (arith, e.inside, f.succs.items.ok.0, f.arguments_of_each)

pub returns : goal.returns
returns g c =
    let f = c.args.self.now in
    let at = block-within (columns_of_flat f) c.args.block c.requires.block in
    let start = bound-read f.succs.bounds.items c.index.result c.args.block c.index-2.result.now c.index.ensures
    (omega (arith, at, f.inst_bounds.ok.0, f.succs_of_each, f.succs.bounds.ok.0, c.index.ensures)) c.index-2.ensures in
    let end = f.succs.within (c.args.block + 1) 0 (omega (arith, at, f.inst_bounds.ok.0, f.succs_of_each, f.succs.bounds.ok.0)) in
    let e = is-edge (columns_of_flat f) c.args.block c.index-2.result.now c.args.succ_idx c.requires.block start
    (omega (arith, end, f.succs.items.ok.0)) c.requires.position in
    arguments-of (columns_of_flat f) c.args.block c.index-2.result.now c.args.succ_idx c.part.result.now c.requires.block e.start e.within c.part.ensures

use Rattle.std.proofs.Common.{◌≡◌, ◌+◌, ◌<◌, length, slice_index, refl, arith}
use Rattle.std.proofs.lemmas.List.{get_or_read}
use Rattle.regalloc2_serialize.proofs.flat.columns.pieces.Pieces.part.Goals as goal

pub index-requires : goal.index-requires
index-requires g c = omega (arith, c.requires)

pub index-requires-2 : goal.index-requires-2
index-requires-2 g c = c.requires

pub slice_bounds-result-count : goal.slice_bounds-result-count
slice_bounds-result-count g c =
    let bounds = c.args.self.now.bounds in
    let within : c.args.k + 1 < length bounds.items = omega (arith, c.requires, bounds.ok.0) in
    let start : c.index.result.now ≡ slice_index bounds.items c.args.k = get_or_read bounds.items c.args.k _ (omega (arith, within)) c.index.ensures 0 in
    let end : c.index-2.result.now ≡ slice_index bounds.items (c.args.k + 1) = get_or_read bounds.items (c.args.k + 1) _ within c.index-2.ensures 0 in
    omega (arith, start, end, c.args.self.now.rises c.args.k c.requires)

pub returns : goal.returns
returns g c =
    let bounds = c.args.self.now.bounds in
    let within : c.args.k + 1 < length bounds.items = omega (arith, c.requires, bounds.ok.0) in
    let start : c.index.result.now ≡ slice_index bounds.items c.args.k = get_or_read bounds.items c.args.k _ (omega (arith, within)) c.index.ensures 0 in
    let end : c.index-2.result.now ≡ slice_index bounds.items (c.args.k + 1) = get_or_read bounds.items (c.args.k + 1) _ within c.index-2.ensures 0 in
    rw (c.deref.ensures.value, start, end) refl

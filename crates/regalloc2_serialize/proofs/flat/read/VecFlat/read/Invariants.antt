use Rattle.std.proofs.Common.{◌≡◌, ◌∷◌, ◌++◌, length}
use Rattle.std.specs.List.{flat_map}
use Rattle.regalloc2_serialize.proofs.flat.read.VecFlat.read.Given as goal

abbrev pub invariant-loop-index : goal.invariant-loop-index
invariant-loop-index g l = record {
  read : l.fn.from.rest.now ≡ l.count ∷ flat_map g.T.Flat.words l.items.items ++ l.from.rest.now;
  count : length l.items.items ≡ l.index;
}

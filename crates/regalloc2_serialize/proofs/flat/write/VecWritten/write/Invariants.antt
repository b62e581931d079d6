use Rattle.std.proofs.Common.{◌≡◌, ◌∷◌, ◌++◌, length, take}
use Rattle.std.specs.List.{flat_map}
use Rattle.regalloc2_serialize.proofs.flat.write.VecWritten.write.Given as goal

abbrev pub invariant-loop-item : goal.invariant-loop-item
invariant-loop-item g l = l.to.items ≡ l.fn.to.items ++ length l.self.items ∷ flat_map g.T.Flat.words (take l.item-index l.self.items)

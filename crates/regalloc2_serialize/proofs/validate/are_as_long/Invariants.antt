use Rattle.std.proofs.Common.{◌≡◌, length, map, take}
use Rattle.regalloc2_serialize.proofs.validate.are_as_long.Given as goal

abbrev pub invariant-loop-i : goal.invariant-loop-i
invariant-loop-i g l = record {
  lengths : length l.lists ≡ length l.others;
  same : take l.i (map (λ v. length v.items) l.lists) ≡ take l.i (map (λ v. length v.items) l.others);
}

use Rattle.std.proofs.Common.{refl}
use Rattle.regalloc2_tests.proofs.prepared.write_prepared.Goals as goal

pub new-requires : goal.new-requires
new-requires g c = c.if-not-is_framed.ensures.0 refl

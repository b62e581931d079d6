use Rattle.std.proofs.Common.{refl}
use Rattle.regalloc2_tests.proofs.refusing.calls.Given.reads_written.Goals as goal

pub reads_written-requires : goal.reads_written-requires
reads_written-requires g c = c.if-not-is_framed.ensures.0 refl

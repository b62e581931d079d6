use Rattle.std.proofs.Common.{arith, refl}
use Rattle.regalloc2_checker_sets.proofs.entries.load_chunks.Goals as goal

pub loop-chunk-init : goal.loop-chunk-init
loop-chunk-init g c = record { loaded = λ j less. absurd (omega (arith, less)); rest = λ i low. refl }

use Rattle.std.proofs.Common.{refl, lit<}
use Rattle.regalloc2_names.specs.declared.RegClass.TheVariants.{Int, Float, Vector}
use Rattle.regalloc2_tests.proofs.MadeRings.{no_registers, with_one_more}
use Rattle.regalloc2_tests.proofs.units.parts.structures.three_rings.Goals as goal

pub new-requires : goal.new-requires
new-requires g c = (
  lit< tt,
  (
    rw c.preg.ensures (with_one_more Int _ _ refl tt (no_registers Int)),
    (rw c.new-float.ensures (with_one_more Float _ _ refl tt (no_registers Float)), rw c.new-vector.ensures (with_one_more Vector _ _ refl tt (no_registers Vector))),
  ),
)

use Rattle.std.proofs.Common.{refl}
use Rattle.regalloc2_names.specs.declared.RegClass.TheVariants.{Int}
use Rattle.regalloc2_tests.proofs.MadeRings.{no_registers, with_one_more}
use Rattle.regalloc2_tests.proofs.units.parts.structures.write_rings.Goals as goal

pub write_pokes-requires : goal.write_pokes-requires
write_pokes-requires c =
    rw (c.preg-5.ensures, c.preg-6.ensures, c.preg-7.ensures)
    (with_one_more Int _ _ refl (refl, (refl, tt)) (with_one_more Int _ _ refl (refl, tt) (with_one_more Int _ _ refl tt (no_registers Int))))

pub write_pokes-requires-2 : goal.write_pokes-requires-2
write_pokes-requires-2 c =
    rw (c.preg-8.ensures, c.preg-9.ensures, c.preg-10.ensures)
    (with_one_more Int _ _ refl (refl, (refl, tt)) (with_one_more Int _ _ refl (refl, tt) (with_one_more Int _ _ refl tt (no_registers Int))))

pub write_pokes-requires-3 : goal.write_pokes-requires-3
write_pokes-requires-3 c =
    rw (c.preg.ensures, c.preg-2.ensures, c.preg-3.ensures, c.preg-4.ensures)
    (with_one_more Int _ _ refl (refl, (refl, (refl, tt))) (with_one_more Int _ _ refl (refl, (refl, tt))
    (with_one_more Int _ _ refl (refl, tt) (with_one_more Int _ _ refl tt (no_registers Int)))))

pub write_pokes-requires-4 : goal.write_pokes-requires-4
write_pokes-requires-4 c = rw c.preg-11.ensures (with_one_more Int _ _ refl tt (no_registers Int))

pub write_pokes-requires-5 : goal.write_pokes-requires-5
write_pokes-requires-5 c = no_registers Int

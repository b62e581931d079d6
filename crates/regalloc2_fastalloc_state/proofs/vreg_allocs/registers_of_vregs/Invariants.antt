use Rattle.std.proofs.Common.{◌≡◌, ◌++◌}
use Rattle.regalloc2_fastalloc_state.specs.FilledRegs.{AreRegistersOf}
use Rattle.regalloc2_fastalloc_state.proofs.vreg_allocs.registers_of_vregs.Given as goal

abbrev pub invariant-loop-vreg : goal.invariant-loop-vreg
invariant-loop-vreg g l = record {
  left : l.yielded ++ l.vreg-iterator ≡ l.vregs.members;
  found : AreRegistersOf l.vreg_allocs.items l.yielded l.found;
}

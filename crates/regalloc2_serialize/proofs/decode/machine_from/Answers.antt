use Rattle.std.proofs.Common.{◌∙◌, ap, length, subst, sym}
use Rattle.std.specs.Prelude.{All, IfSome}
use Rattle.regalloc2_names.specs.Packing.{IsRegisterIndex}
use Rattle.regalloc2_serialize.proofs.decode.machine_from.Goals as goal

pub sets_from-preferred_regs_by_class-requires : goal.sets_from-preferred_regs_by_class-requires
sets_from-preferred_regs_by_class-requires g c = record {
  three = ap length c.as_slice.ensures.value ∙ c.requires.three.preferred;
  indexes = subst (λ ls. All (λ l. All IsRegisterIndex l.items) ls) (sym c.as_slice.ensures.value) c.requires.registers.preferred;
}

pub sets_from-non_preferred_regs_by_class-requires : goal.sets_from-non_preferred_regs_by_class-requires
sets_from-non_preferred_regs_by_class-requires g c = record {
  three = ap length c.as_slice-2.ensures.value ∙ c.requires.three.non_preferred;
  indexes = subst (λ ls. All (λ l. All IsRegisterIndex l.items) ls) (sym c.as_slice-2.ensures.value) c.requires.registers.non_preferred;
}

pub scratch_from-scratch_by_class-requires : goal.scratch_from-scratch_by_class-requires
scratch_from-scratch_by_class-requires g c = record {
  three = ap length c.as_slice-3.ensures.value ∙ c.requires.three.scratch;
  indexes = subst (λ os. All (λ o. IfSome o IsRegisterIndex) os) (sym c.as_slice-3.ensures.value) c.requires.registers.scratch;
}

pub registers_from-requires : goal.registers_from-requires
registers_from-requires g c = subst (All IsRegisterIndex) (sym c.as_slice-4.ensures.value) c.requires.registers.fixed_stack_slots

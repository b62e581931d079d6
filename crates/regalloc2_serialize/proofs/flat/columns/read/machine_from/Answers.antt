use Rattle.std.proofs.Common.{ap, map, sym, subst, ◌∙◌, ◌≤◌}
use Rattle.std.specs.Prelude.{All}
use Rattle.regalloc2_names.specs.Packing.{IsRegisterIndex, register_of_bits}
use Rattle.regalloc2_serialize.specs.Flat.Columns.Value.{scratch_of_word}
use Rattle.regalloc2_serialize.proofs.flat.columns.read.machine_from.Goals as goal

pub registers_of-requires : goal.registers_of-requires
registers_of-requires g c = subst (All IsRegisterIndex) (sym c.column.ensures.column) c.requires.names.registers.slots

pub class_sets-requires : goal.class_sets-requires
class_sets-requires g c = c.column-2.ensures.count

pub class_sets-requires-2 : goal.class_sets-requires-2
class_sets-requires-2 g c = c.column-3.ensures.count

pub scratches_of-requires : goal.scratches_of-requires
scratches_of-requires g c = record {
  three = c.column-4.ensures.count;
  words = subst (All (λ r. r ≤ 192)) (sym c.column-4.ensures.column) c.requires.names.registers.scratch;
}

pub returns : goal.returns
returns g c = record {
  preferred = rw c.column-2.ensures.column at c.class_sets.ensures;
  non_preferred = rw c.column-3.ensures.column at c.class_sets-2.ensures;
  scratch = c.scratches_of.ensures ∙ ap (map scratch_of_word) c.column-4.ensures.column;
  fixed_stack_slots = c.in_ok-fixed_stack_slots.ensures ∙ ap (map register_of_bits) c.column.ensures.column;
}

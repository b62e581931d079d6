use Rattle.std.proofs.Common.{sym, ◌∙◌}
use Rattle.regalloc2_serialize.proofs.encode.numbers_of_machine.Goals as goal

pub returns-clause-machine : goal.returns-clause-machine
returns-clause-machine g c = record {
  preferred = c.in_ok-preferred.ensures.sets;
  non_preferred = c.in_ok-non_preferred.ensures.sets;
  scratch = sym c.in_ok-scratch_by_class.ensures.registers;
  fixed_stack_slots = sym (c.in_ok-fixed_stack_slots.ensures.registers ∙ c.as_slice.ensures.value);
}

pub returns-clause-names : goal.returns-clause-names
returns-clause-names g c = record {
  preferred = c.in_ok-preferred.ensures.names;
  non_preferred = c.in_ok-non_preferred.ensures.names;
  scratch = c.in_ok-scratch_by_class.ensures.names;
  fixed_stack_slots = c.in_ok-fixed_stack_slots.ensures.names;
}

pub returns-clause-three : goal.returns-clause-three
returns-clause-three g c = record {
  preferred = c.in_ok-preferred.ensures.three;
  non_preferred = c.in_ok-non_preferred.ensures.three;
  scratch = c.in_ok-scratch_by_class.ensures.three;
}

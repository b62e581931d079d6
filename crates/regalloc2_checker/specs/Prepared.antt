-- What a checker holds.
use Rattle.std.specs.Prelude.{Option}
use Rattle.std.specs.Option.{option_map}
use Rattle.regalloc2_function.specs.Machine.{MachineValue}
use Rattle.regalloc2_function.specs.OutputValue.{OutputValue}
use Rattle.regalloc2_function.specs.Views.{machine_of, output_of}
use Rattle.regalloc2_checker.specs.declared.checker.Checker.{Checker}

-- the function that it is for
abbrev pub subject_of : {F A B : Type 0} {g : _} → Checker F A B g → F
subject_of c = c.f.now

-- the machine that it is for
abbrev pub machine_in : {F A B : Type 0} {g : _} → Checker F A B g → MachineValue
machine_in c = machine_of c.env.now

-- the output that was prepared, if one was
abbrev pub output_in : {F A B : Type 0} {g : _} → Checker F A B g → Option OutputValue
output_in c = option_map output_of c.prepared

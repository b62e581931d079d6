use Rattle.regalloc2_function.specs.Views.{machine_of}
use Rattle.regalloc2_serialize.specs.Tables.{function_of_serializable}
use Rattle.regalloc2_serialize.proofs.SameNames.{function-named, machine-named}
use Rattle.regalloc2_serialize.proofs.Storable.{passes, sound}
use Rattle.regalloc2_serialize.proofs.tables.SerializableFunction.stored.Goals as goal

pub returns-clause-function : goal.returns-clause-function
returns-clause-function g c = c.in_ok-numbers_of.ensures.function

pub returns-clause-machine : goal.returns-clause-machine
returns-clause-machine g c = c.in_ok-numbers_of.ensures.machine

pub returns-clause-only_function : goal.returns-clause-only_function
returns-clause-only_function g c = λ f named.
    function-named _ f (function_of_serializable c.args.self.now) named c.in_ok-numbers_of.ensures.function

pub returns-clause-only_machine : goal.returns-clause-only_machine
returns-clause-only_machine g c = λ env named.
    machine-named _ env (machine_of c.args.self.now.machine) named c.in_ok-numbers_of.ensures.machine

pub returns-clause-sound : goal.returns-clause-sound
returns-clause-sound g c = sound _ c.args.self.now c.in_ok-numbers_of.ensures.parts

pub returns-clause-passes : goal.returns-clause-passes
returns-clause-passes g c = passes _ c.args.self.now c.in_ok-numbers_of.ensures.parts

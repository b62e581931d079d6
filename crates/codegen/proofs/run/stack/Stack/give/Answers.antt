use Rattle.std.proofs.Common.{ℕ, ◌-◌, refl, ap, arith}
use Rattle.codegen_machine.specs.Calls.{functions_of}
use Rattle.codegen.specs.Run.States.{function_of}
use Rattle.codegen.proofs.RunLemmas.Stacks.{returned_is, sound_returned, taken_enough}
use Rattle.codegen.proofs.run.stack.Stack.give.Goals as goal

pub overflow_cast-taken : goal.overflow_cast-taken
overflow_cast-taken c =
    let enough = taken_enough (functions_of c.args.code.now.functions.items) (function_of c.args.function.now) c.args.self.now c.requires.sound c.requires.running in
    omega (arith, enough, c.words_of-taken.ensures.value)

pub overflow_sub-self : goal.overflow_sub-self
overflow_sub-self c =
    let enough = taken_enough (functions_of c.args.code.now.functions.items) (function_of c.args.function.now) c.args.self.now c.requires.sound c.requires.running in
    omega (arith, enough, c.words_of-taken.ensures.value)

pub returns-clause-sound : goal.returns-clause-sound
returns-clause-sound c =
    sound_returned (functions_of c.args.code.now.functions.items) (function_of c.args.function.now) c.args.self.now _ c.in-Some.caller c.requires.sound
    c.requires.running c.in-Some.ensures refl refl refl (ap (λ (k : ℕ). c.args.self.now.words - k) c.words_of-taken.ensures.value)

pub returns-clause-step : goal.returns-clause-step
returns-clause-step c = λ s same.
    returned_is s c.args.self.now.callers.items c.pop.new.activations.items c.in-Some.caller c.args.number c.args.self.now.machine.memory.items c.args.left.now
    c.registers_returned-self.result c.in-Some.ensures same c.registers_returned-self.ensures

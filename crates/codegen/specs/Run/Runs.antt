-- Runs whose numbers are 0 at the start, except for the given arguments and memory.
use Rattle.std.specs.Prelude.{ℕ, ◌≡◌, List, codes, slice_index, None, Some}
use Rattle.std.specs.Fmt.{decimal}
use Rattle.regalloc2_semantics.specs.Runs.{first_of}
use Rattle.codegen_operation.specs.Numbers.{RunOutcome, Running as runs, Returned as returned, Trapped as traps, Overflowed as overflows, Stuck as sticks, further}
use Rattle.codegen_machine.specs.Meaning.{ProcedureState}
use Rattle.codegen_machine.specs.Seen.{function_of_procedure}
use Rattle.codegen_machine.specs.declared.procedure.Procedure.{Procedure}
use Rattle.codegen_machine.specs.Machine.{MachineState}
use Rattle.codegen_machine.specs.Frames.{ModuleState, module_begun, module_run}
use Rattle.codegen_machine.specs.Modules.{procedures_of}
use Rattle.codegen_machine.specs.Calls.{Stack, StackState, functions_of, stack_begun, stack_run}
use Rattle.codegen_machine.specs.declared.module.Module.{Module}
use Rattle.codegen_machine.specs.declared.ModuleCode.{ModuleCode}
use Rattle.codegen.specs.declared.run.standing.Run.{Run}
use Rattle.codegen.specs.declared.run.standing.Standing.{Standing}
use Rattle.codegen.specs.declared.run.standing.Standing.TheVariants.{Running, Returned, Trapped, Overflowed, Stuck}

-- the arguments by number; past the given ones they are 0
abbrev pub arguments_of : List ℕ → ℕ → ℕ
arguments_of arguments k = slice_index arguments k

abbrev pub first_state : Procedure → List ℕ → ProcedureState
first_state p memory = record { at = first_of (function_of_procedure p) 0; numbers = λ v. 0; memory = memory }

abbrev pub first_machine : List ℕ → MachineState
first_machine memory = record { pc = 0; registers = λ r. 0; frame = λ k. 0; compared = None; memory = memory }

-- the outcome with its state and memory
abbrev pub run_outcome : {S : Type 0} → Standing → S → List ℕ → RunOutcome S
run_outcome Running s memory = runs s
run_outcome (Returned n) s memory = returned n memory
run_outcome Trapped s memory = traps memory
run_outcome Overflowed s memory = overflows
run_outcome Stuck s memory = sticks

-- the run of an interpreter that has that outcome and leaves that memory; if it is stuck, its memory is unknown
abbrev pub IsMachineRun : RunOutcome MachineState → Run → Type 0
IsMachineRun outcome r = (s : MachineState) × (s.memory ≡ r.memory.items) × (outcome ≡ run_outcome r.standing s r.memory.items)

abbrev pub IsProcedureRun : RunOutcome ProcedureState → Run → Type 0
IsProcedureRun outcome r = (s : ProcedureState) × (s.memory ≡ r.memory.items) × (outcome ≡ run_outcome r.standing s r.memory.items)

-- the outcomes of a module, and of its code on a stack of `room` words, after n steps
abbrev pub module_outcome : Module → List ℕ → List ℕ → ℕ → RunOutcome ModuleState
module_outcome m arguments memory n = further (module_begun (procedures_of m.procedures.items) (λ v. 0) (arguments_of arguments) memory)
    (module_run (procedures_of m.procedures.items) (λ v. 0) n)

abbrev pub empty_stack : ℕ → Stack
empty_stack room = record { registers = λ n r. 0; frames = λ n k. 0; outgoing = λ n k. 0; room = Some room }

abbrev pub stack_outcome : ModuleCode → ℕ → List ℕ → List ℕ → ℕ → RunOutcome StackState
stack_outcome c room arguments memory n = further (stack_begun (functions_of c.functions.items) (empty_stack room) (arguments_of arguments) memory)
    (stack_run (functions_of c.functions.items) (empty_stack room) n)

-- the run of an interpreter of modules that has that outcome and leaves that memory; if it is stuck or its stack overflows, its memory is unknown
abbrev pub IsModuleRun : RunOutcome ModuleState → Run → Type 0
IsModuleRun outcome r = (s : ModuleState) × (s.state.memory ≡ r.memory.items) × (outcome ≡ run_outcome r.standing s r.memory.items)

abbrev pub IsStackRun : RunOutcome StackState → Run → Type 0
IsStackRun outcome r = (s : StackState) × (s.state.memory ≡ r.memory.items) × (outcome ≡ run_outcome r.standing s r.memory.items)

-- the outcome as the interpreters' type
abbrev pub standing_text : Standing → List ℕ
standing_text Running = codes "still running"
standing_text (Returned n) = decimal n
standing_text Trapped = codes "trapped"
standing_text Overflowed = codes "stack overflow"
standing_text Stuck = codes "stuck"

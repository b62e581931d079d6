-- The interpreters' states, as states of the specs.
use Rattle.std.specs.Prelude.{ℕ, ◌≡◌, ◌∷◌, nat_eq, nat_lt, if◌then◌else◌, List, map, reverse, All, Option, None, Some, unwrap_or, slice_get, slice_index, vec_len}
use Rattle.std.specs.HashMap.{HashMap, get}
use Rattle.regalloc2_names.specs.Register.{VirtualRegister}
use Rattle.regalloc2_names.specs.RegisterBits.{bits_of_vreg}
use Rattle.codegen_machine.specs.Calls.{Calls, FunctionCode, Passes, StackAct as Act, StackState, SuspendedActivation, activated, arguments_passed, calling, suspended_at, words_taken}
use Rattle.codegen_machine.specs.Frames.{CallValue, ModuleState, SuspendedFrame}
use Rattle.codegen_machine.specs.Meaning.{ProcedureState}
use Rattle.codegen_operation.specs.Numbers.{RunOutcome}
use Rattle.codegen_machine.specs.Machine.{MachineState, code_of, is_general}
use Rattle.codegen_machine.specs.declared.Source.{Source}
use Rattle.codegen_machine.specs.declared.Source.TheVariants.{Register, Slot, Number}
use Rattle.codegen.specs.Run.Runs.{arguments_of, empty_stack, run_outcome}
use Rattle.codegen_machine.specs.declared.NamedCode.{NamedCode}
use Rattle.codegen.specs.declared.run.frame.Frame.{Frame}
use Rattle.codegen.specs.declared.run.machine.Machine.{Machine}
use Rattle.codegen.specs.declared.run.module.Calling.{Calling}
use Rattle.codegen.specs.declared.run.module.Frames.{Frames}
use Rattle.codegen.specs.declared.run.procedure.State.{State}
use Rattle.codegen.specs.declared.run.stack.Activation.{Activation}
use Rattle.codegen.specs.declared.run.stack.StackAct.{StackAct}
use Rattle.codegen.specs.declared.run.stack.StackAct.TheVariants.{Call, Pass}
use Rattle.codegen.specs.declared.run.stack.Stack.{Stack}
use Rattle.codegen.specs.declared.run.standing.Standing.{Standing}
use Rattle.codegen.specs.declared.run.standing.Standing.TheVariants.{Stuck}

abbrev pub machine_state : Machine → MachineState
machine_state m = record {
  pc = m.pc;
  registers = λ r. slice_index m.registers r;
  frame = λ k. slice_index m.frame.items k;
  compared = m.compared;
  memory = m.memory.items;
}

-- the number in a register or in a slot of a frame with `slots` slots, or an immediate
abbrev pub source_number : ℕ → MachineState → Source → Option ℕ
source_number slots s (Register r) = if is_general r then Some (s.registers r) else None
source_number slots s (Slot k) = if nat_lt k slots then Some (s.frame k) else None
source_number slots s (Number n) = Some n

-- the outcome of a run of the interpreter
abbrev pub machine_outcome : Standing → Machine → RunOutcome MachineState
machine_outcome answer m = run_outcome answer (machine_state m) m.memory.items

-- the interpreter's result is that outcome, stuck if there is no result, and the frame has its length as before
abbrev pub MakesOutcome : RunOutcome MachineState → Machine → Machine → Option Standing → Type 0
MakesOutcome outcome old new answer = (outcome ≡ machine_outcome (unwrap_or answer Stuck) new) × (vec_len new.frame ≡ vec_len old.frame)

-- the numbers of virtual registers, in a table by their encodings; the others are 0
abbrev pub numbers_by_vreg : {S : Type 0} → HashMap ℕ ℕ S → VirtualRegister → ℕ
numbers_by_vreg m v = unwrap_or (get nat_eq m (bits_of_vreg v)) 0

abbrev pub state_of : State → ProcedureState
state_of s = record { at = record { block = s.block; inst = s.inst }; numbers = numbers_by_vreg s.numbers; memory = s.memory.items }

-- the outcome of a run of the interpreter
abbrev pub procedure_outcome : Standing → State → RunOutcome ProcedureState
procedure_outcome answer s = run_outcome answer (state_of s) s.memory.items

-- a call, suspended frames, the newest last, and the frames of a module
abbrev pub call_value : Calling → CallValue
call_value c = record { function = c.function; to = c.to; arguments = c.arguments.now }

abbrev pub frame_of : Frame → SuspendedFrame
frame_of f = record {
  procedure = f.procedure;
  args = arguments_of f.arguments.items;
  at = record { block = f.block; inst = f.inst };
  numbers = numbers_by_vreg f.numbers;
  to = f.to;
}

abbrev pub frames_of : List Frame → List SuspendedFrame
frames_of fs = map frame_of (reverse fs)

abbrev pub frames_state : Frames → ModuleState
frames_state s = record {
  procedure = s.procedure;
  args = arguments_of s.arguments.items;
  state = state_of s.state;
  callers = frames_of s.callers.items;
}

-- the outcome of a run of the interpreter
abbrev pub frames_outcome : Standing → Frames → RunOutcome ModuleState
frames_outcome answer s = run_outcome answer (frames_state s) s.state.memory.items

-- what an instruction does to the stack
abbrev pub act_of : StackAct → Act
act_of (Call g) = Calls g
act_of (Pass k from) = Passes k from

-- a function, suspended activations, the newest last, and a stack of activations, given how many there have been
abbrev pub function_of : NamedCode → FunctionCode
function_of f = record { code = code_of f.code; arity = f.arity }

abbrev pub suspended_of : Activation → SuspendedActivation
suspended_of a = record {
  function = a.function;
  args = arguments_of a.arguments.items;
  pc = a.pc;
  frame = λ k. slice_index a.frame.items k;
  outgoing = λ k. slice_index a.outgoing.items k;
  registers = λ r. slice_index a.registers r;
}

abbrev pub suspensions_of : List Activation → List SuspendedActivation
suspensions_of xs = map suspended_of (reverse xs)

abbrev pub stack_state : ℕ → Stack → StackState
stack_state n s = record {
  function = s.function;
  args = arguments_of s.arguments.items;
  state = machine_state s.machine;
  outgoing = λ k. slice_index s.outgoing.items k;
  callers = suspensions_of s.callers.items;
  activations = n;
}

-- the outcome of a run of the interpreter
abbrev pub stack_standing : ℕ → Standing → Stack → RunOutcome StackState
stack_standing n answer s = run_outcome answer (stack_state n s) s.machine.memory.items

-- the step of a call
abbrev pub instruction_called : List FunctionCode → ℕ → StackState → ℕ → RunOutcome StackState
instruction_called fs room s g = activated fs (empty_stack room) g (arguments_passed s) s.state.memory (suspended_at s ∷ s.callers) s.activations
    (slice_get fs g)

-- the activation of a function has the function's slots and outgoing words
abbrev pub HasWords : List FunctionCode → ℕ → ℕ → ℕ → Type 0
HasWords fs g slots outgoing = (f : FunctionCode) → slice_get fs g ≡ Some f → (slots ≡ f.code.slots) × (outgoing ≡ f.code.outgoing)

-- the words that the activations take are known, and each activation has its function's words
pub record IsSound (fs : List FunctionCode) (s : Stack) : Type 0 where
  pub words : s.words ≡ words_taken fs (s.function ∷ calling (suspensions_of s.callers.items))
  pub framed : HasWords fs s.function (vec_len s.machine.frame) (vec_len s.outgoing)
  pub callers_framed : All (λ a. HasWords fs a.function (vec_len a.frame) (vec_len a.outgoing)) s.callers.items

-- The semantics of a module's code: activations of its functions, each with its own slots, on a stack with a limited room. A call suspends an activation;
-- a return continues it with the callee-saved registers as they were, and with the callee's numbers in the caller-saved ones.
use Rattle.std.specs.Prelude.{ℕ, zero, suc, ◌+◌, ◌-◌, ◌%◌, Bool, false, ◌||◌, ◌&&◌, nat_lt, min, if◌then◌else◌, List, [], ◌∷◌, map, slice_get, slice_index_or}
use Rattle.std.specs.Prelude.{Option, None, Some}
use Rattle.codegen_operation.specs.Numbers.{RunOutcome, Running, Returned, Trapped, Overflowed, Stuck, further, put}
use Rattle.codegen_operation.specs.Operands.{argument_registers}
use Rattle.codegen_machine.specs.declared.Instruction.{Instruction}
use Rattle.codegen_machine.specs.declared.Instruction.TheVariants.{Call, Pass}
use Rattle.codegen_machine.specs.declared.NamedCode.{NamedCode}
use Rattle.codegen_machine.specs.Machine.{CodeValue, MachineState, code_of, is_general, machine_step}

-- a suspended activation: its function's number, its arguments, the instruction after its call, its slots, its outgoing words, and the registers at the call
pub record SuspendedActivation : Type 0 where
  pub function : ℕ
  pub args : ℕ → ℕ
  pub pc : ℕ
  pub frame : ℕ → ℕ
  pub outgoing : ℕ → ℕ
  pub registers : ℕ → ℕ

-- the running activation: its function's number, its arguments, its state, with all registers and the memory, and its outgoing words; the suspended
-- activations, the newest first; and the number of activations so far
pub record StackState : Type 0 where
  pub function : ℕ
  pub args : ℕ → ℕ
  pub state : MachineState
  pub outgoing : ℕ → ℕ
  pub callers : List SuspendedActivation
  pub activations : ℕ

-- the numbers that registers, slots and outgoing words hold at the start of each activation, by number, and the stack's room in words, unless it is unlimited
pub record Stack : Type 0 where
  pub registers : ℕ → ℕ → ℕ
  pub frames : ℕ → ℕ → ℕ
  pub outgoing : ℕ → ℕ → ℕ
  pub room : Option ℕ

-- the contents of a function: its code, and the number of its arguments
pub record FunctionCode : Type 0 where
  pub code : CodeValue
  pub arity : ℕ

abbrev pub functions_of : List NamedCode → List FunctionCode
functions_of fs = map (λ f. record { code = code_of f.code; arity = f.arity }) fs

-- the register that passes an argument, of the first six
abbrev pub argument_register : ℕ → ℕ
argument_register k = slice_index_or argument_registers k 16

-- the registers that a callee may overwrite; it preserves all others
abbrev pub is_caller_saved : ℕ → Bool
is_caller_saved r = nat_lt r 3 || (nat_lt 5 r && nat_lt r 12)

-- The words of an activation: the return address, five saved registers, the arguments that registers passed to it, its slots, its outgoing words, and one
-- more if their number is odd, so that the stack pointer stays a multiple of 16.
abbrev pub words_of : Option FunctionCode → ℕ
words_of None = 0
words_of (Some f) = let n = min f.arity 6 + f.code.slots + f.code.outgoing in 6 + (n + n % 2)

-- the words of all activations, given their functions' numbers; and whether a number of words exceeds the room
unfoldable pub words_taken : List FunctionCode → List ℕ → ℕ
words_taken functions [] = 0
words_taken functions (g ∷ gs) = words_of (slice_get functions g) + words_taken functions gs

abbrev pub exceeds : Option ℕ → ℕ → Bool
exceeds None n = false
exceeds (Some room) n = nat_lt room n

-- the functions of suspended activations
abbrev pub calling : List SuspendedActivation → List ℕ
calling callers = map (λ c. c.function) callers

-- what an instruction does to the stack: it calls a function, or writes an outgoing word from a register
pub data StackAct : Type 0 where
  Calls : ℕ → StackAct
  Passes : ℕ → ℕ → StackAct

abbrev pub act_on_stack : Option Instruction → Option StackAct
act_on_stack (Some (Call g)) = Some (Calls g)
act_on_stack (Some (Pass k from)) = Some (Passes k from)
act_on_stack i = None

-- the newest suspended activation continues, with the registers that the callee leaves, and the returned number and memory
abbrev pub registers_returned : (ℕ → ℕ) → (ℕ → ℕ) → ℕ → ℕ
registers_returned saved left r = if is_caller_saved r then left r else saved r

abbrev pub returned_into : StackState → List SuspendedActivation → ℕ → List ℕ → RunOutcome StackState
returned_into s [] n memory = Returned n memory
returned_into s (c ∷ callers) n memory = Running (record {
  function = c.function;
  args = c.args;
  state = record {
    pc = c.pc;
    registers = registers_returned c.registers (put s.state.registers 0 n);
    frame = c.frame;
    compared = None;
    memory = memory;
  };
  outgoing = c.outgoing;
  callers = callers;
  activations = s.activations;
})

-- what the step of the running activation is to the stack
abbrev pub activation_stepped : StackState → RunOutcome MachineState → RunOutcome StackState
activation_stepped s (Running t) =
    Running (record { function = s.function; args = s.args; state = t; outgoing = s.outgoing; callers = s.callers; activations = s.activations })
activation_stepped s (Returned n memory) = returned_into s s.callers n memory
activation_stepped s (Trapped memory) = Trapped memory
activation_stepped s Overflowed = Overflowed
activation_stepped s Stuck = Stuck

-- the activation suspended at a call
abbrev pub suspended_at : StackState → SuspendedActivation
suspended_at s = record {
  function = s.function;
  args = s.args;
  pc = s.state.pc + 1;
  frame = s.state.frame;
  outgoing = s.outgoing;
  registers = s.state.registers;
}

-- the arguments of a call: six in registers, the others in the outgoing words
abbrev pub arguments_passed : StackState → ℕ → ℕ
arguments_passed s k = if nat_lt k 6 then s.state.registers (argument_register k) else s.outgoing (k - 6)

-- an outgoing word is written
abbrev pub word_passed : StackState → ℕ → ℕ → StackState
word_passed s k n = record {
  function = s.function;
  args = s.args;
  state = record { pc = s.state.pc + 1; registers = s.state.registers; frame = s.state.frame; compared = s.state.compared; memory = s.state.memory };
  outgoing = put s.outgoing k n;
  callers = s.callers;
  activations = s.activations;
}

-- a register is put into outgoing word k of `words`
abbrev pub passed : ℕ → StackState → ℕ → ℕ → RunOutcome StackState
passed words s k from = if nat_lt k words && is_general from then Running (word_passed s k (s.state.registers from)) else Stuck

-- one step: the current instruction of the running activation
module _ (functions : List FunctionCode) (stack : Stack) where
  -- a new activation of a function, if the stack has room for it
  abbrev pub activation_of : ℕ → (ℕ → ℕ) → List ℕ → List SuspendedActivation → ℕ → StackState
  activation_of g args memory callers activations = record {
    function = g;
    args = args;
    state = record { pc = 0; registers = stack.registers activations; frame = stack.frames activations; compared = None; memory = memory };
    outgoing = stack.outgoing activations;
    callers = callers;
    activations = activations + 1;
  }

  abbrev pub activated : ℕ → (ℕ → ℕ) → List ℕ → List SuspendedActivation → ℕ → Option FunctionCode → RunOutcome StackState
  activated g args memory callers activations None = Stuck
  activated g args memory callers activations (Some f) =
      if exceeds stack.room (words_taken functions (g ∷ calling callers)) then Overflowed
      else Running (activation_of g args memory callers activations)

  abbrev pub instruction_done : StackState → FunctionCode → Option StackAct → RunOutcome StackState
  instruction_done s f None = activation_stepped s (machine_step f.code s.args s.state)
  instruction_done s f (Some (Calls g)) = activated g (arguments_passed s) s.state.memory (suspended_at s ∷ s.callers) s.activations (slice_get functions g)
  instruction_done s f (Some (Passes k from)) = passed f.code.outgoing s k from

  abbrev pub stack_step_in : StackState → Option FunctionCode → RunOutcome StackState
  stack_step_in s None = Stuck
  stack_step_in s (Some f) = instruction_done s f (act_on_stack (slice_get f.code.instructions s.state.pc))

  abbrev pub stack_step : StackState → RunOutcome StackState
  stack_step s = stack_step_in s (slice_get functions s.function)

  -- a number of steps
  unfoldable pub stack_run : ℕ → StackState → RunOutcome StackState
  stack_run zero s = Running s
  stack_run (suc n) s = further (stack_step s) (stack_run n)

  -- the beginning: function 0 is activated
  abbrev pub stack_begun : (ℕ → ℕ) → List ℕ → RunOutcome StackState
  stack_begun args memory = activated 0 args memory [] 0 (slice_get functions 0)

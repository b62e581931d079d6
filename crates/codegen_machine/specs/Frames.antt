-- The interpretation of a module: an interpreter that makes a step for each line. A call suspends its frame until the callee returns.
use Rattle.std.specs.Prelude.{ℕ, zero, suc, ◌+◌, List, [], ◌∷◌, map, slice_get, slice_index, Option, None, Some}
use Rattle.regalloc2_names.specs.Register.{VirtualRegister}
use Rattle.regalloc2_semantics.specs.Runs.{Location, first_of, assigned}
use Rattle.codegen_operation.specs.Numbers.{RunOutcome, Running, Returned, Trapped, Overflowed, Stuck, further}
use Rattle.codegen_machine.specs.Meaning.{ProcedureState, procedure_step}
use Rattle.codegen_machine.specs.Seen.{function_of_procedure, operations}
use Rattle.codegen_operation.specs.declared.operation.Operation.{Operation}
use Rattle.codegen_operation.specs.declared.operation.Operation.TheVariants.{Call}
use Rattle.codegen_machine.specs.declared.procedure.Procedure.{Procedure}

-- a suspended frame: its procedure's number, its arguments, the line of its call, the vregs' numbers, and the vreg that the call defines
pub record SuspendedFrame : Type 0 where
  pub procedure : ℕ
  pub args : ℕ → ℕ
  pub at : Location
  pub numbers : VirtualRegister → ℕ
  pub to : VirtualRegister

-- the running frame: its procedure's number, its arguments and its state, with the module's memory; and the suspended frames, the newest first
pub record ModuleState : Type 0 where
  pub procedure : ℕ
  pub args : ℕ → ℕ
  pub state : ProcedureState
  pub callers : List SuspendedFrame

-- a call: the function's number, the vreg that it defines, and the arguments
pub record CallValue : Type 0 where
  pub function : ℕ
  pub to : VirtualRegister
  pub arguments : List VirtualRegister

-- the call on a line
abbrev pub call_on : Option Operation → Option CallValue
call_on (Some (Call g to arguments)) = Some (record { function = g; to = to; arguments = arguments.items })
call_on o = None

-- a new frame of a procedure: its vregs hold the given numbers; arguments past the given ones are 0
abbrev pub frame_entered : (VirtualRegister → ℕ) → ℕ → (ℕ → ℕ) → List ℕ → List SuspendedFrame → Option Procedure → RunOutcome ModuleState
frame_entered fresh g args memory callers None = Stuck
frame_entered fresh g args memory callers (Some p) = Running (record {
  procedure = g;
  args = args;
  state = record { at = first_of (function_of_procedure p) 0; numbers = fresh; memory = memory };
  callers = callers;
})

-- the frame suspended at a call
abbrev pub suspended : ModuleState → VirtualRegister → SuspendedFrame
suspended s to = record { procedure = s.procedure; args = s.args; at = s.state.at; numbers = s.state.numbers; to = to }

-- the newest suspended frame goes on, with the returned number and memory
abbrev pub resumed : SuspendedFrame → List SuspendedFrame → ℕ → List ℕ → ModuleState
resumed c callers n memory = record {
  procedure = c.procedure;
  args = c.args;
  state = record { at = record { block = c.at.block; inst = c.at.inst + 1 }; numbers = assigned c.numbers c.to n; memory = memory };
  callers = callers;
}

abbrev pub returned_to : List SuspendedFrame → ℕ → List ℕ → RunOutcome ModuleState
returned_to [] n memory = Returned n memory
returned_to (c ∷ callers) n memory = Running (resumed c callers n memory)

-- what the step of the running frame is to the module
abbrev pub frame_stepped : ModuleState → RunOutcome ProcedureState → RunOutcome ModuleState
frame_stepped s (Running q) = Running (record { procedure = s.procedure; args = s.args; state = q; callers = s.callers })
frame_stepped s (Returned n memory) = returned_to s.callers n memory
frame_stepped s (Trapped memory) = Trapped memory
frame_stepped s Overflowed = Overflowed
frame_stepped s Stuck = Stuck

-- one step: the current line of the running frame; new frames hold the given numbers
module _ (procedures : List Procedure) (fresh : VirtualRegister → ℕ) where
  abbrev pub frame_called : ModuleState → CallValue → RunOutcome ModuleState
  frame_called s c = frame_entered fresh c.function (λ k. slice_index (map (λ v. s.state.numbers v) c.arguments) k) s.state.memory
      (suspended s c.to ∷ s.callers) (slice_get procedures c.function)

  abbrev pub line_done : ModuleState → Procedure → Option CallValue → RunOutcome ModuleState
  line_done s p None = frame_stepped s (procedure_step (function_of_procedure p) (operations p) s.args s.state)
  line_done s p (Some c) = frame_called s c

  abbrev pub step_in : ModuleState → Option Procedure → RunOutcome ModuleState
  step_in s None = Stuck
  step_in s (Some p) = line_done s p (call_on (slice_get (operations p).items s.state.at.inst))

  abbrev pub module_step : ModuleState → RunOutcome ModuleState
  module_step s = step_in s (slice_get procedures s.procedure)

  -- a number of steps
  unfoldable pub module_run : ℕ → ModuleState → RunOutcome ModuleState
  module_run zero s = Running s
  module_run (suc n) s = further (module_run n s) module_step

  -- the beginning of procedure 0
  abbrev pub module_begun : (ℕ → ℕ) → List ℕ → RunOutcome ModuleState
  module_begun args memory = frame_entered fresh 0 args memory [] (slice_get procedures 0)

-- How large the frames of a module's code are, said of the module alone: what each function needs at most, and when a stack has room for a whole run.
use Rattle.std.specs.Prelude.{ℕ, ◌≡◌, ◌≢◌, ◌≤◌, false, List, [], map, slice_get, Some}
use Rattle.regalloc2.specs.Places.{units_at_most}
use Rattle.codegen_operation.specs.Numbers.{Running, Overflowed}
use Rattle.codegen_machine.specs.Successors.{operations_of}
use Rattle.codegen_machine.specs.Seen.{function_of_procedure}
use Rattle.codegen_machine.specs.Frames.{ModuleState}
use Rattle.codegen_machine.specs.Calls.{FunctionCode, exceeds}
use Rattle.codegen_machine.specs.declared.procedure.Procedure.{Procedure}
use Rattle.codegen_machine.specs.declared.module.Module.{Module}
use Rattle.codegen_machine.specs.declared.module.NamedProcedure.{NamedProcedure}
use Rattle.codegen_emit.specs.Pinned.{frame_slots}
use Rattle.codegen_emit.specs.Emitted.{outgoing_words}
use Rattle.codegen.specs.Behaves.{Beginning, code_after, module_after, words_needed}

-- The most slots of a function's frame: two for each vreg and twelve for each block, which is the allocator's bound, without the first five, which are
-- registers.
abbrev pub slots_at_most : Procedure → ℕ
slots_at_most p = frame_slots (units_at_most (function_of_procedure p))

-- the outgoing words of a function's frame: the most arguments past the sixth that one of its calls passes
abbrev pub words_for_calls : Procedure → ℕ
words_for_calls p = outgoing_words (operations_of p.lines.items)

-- a function's code has the frame of its procedure: no more slots than it may need, and the words of its calls
pub record HasFrameOf (p : NamedProcedure) (f : FunctionCode) : Type 0 where
  pub slots : f.code.slots ≤ slots_at_most p.procedure
  pub outgoing : f.code.outgoing ≡ words_for_calls p.procedure

abbrev pub HaveFramesOf : List NamedProcedure → List FunctionCode → Type 0
HaveFramesOf ps code = (g : ℕ) (p : NamedProcedure) (f : FunctionCode) → slice_get ps g ≡ Some p → slice_get code g ≡ Some f → HasFrameOf p f

-- code without instructions, with the largest frame that its function may need
abbrev pub largest_frame : NamedProcedure → FunctionCode
largest_frame p = record {
  code = record { instructions = []; slots = slots_at_most p.procedure; outgoing = words_for_calls p.procedure };
  arity = p.arity;
}

abbrev pub largest_frames : List NamedProcedure → List FunctionCode
largest_frames ps = map largest_frame ps

-- at each step of the module the stack has room for its frames, even for the largest that its functions may need
abbrev pub HasRoom : (m : Module) → Beginning m.memory_size → Type 0
HasRoom m b = (n : ℕ) (s : ModuleState) → module_after m b n ≡ Running s →
    exceeds b.stack.room (words_needed (largest_frames m.procedures.items) s) ≡ false

-- the code's stack never overflows where it has room for the module's frames
abbrev pub StaysInRoom : Module → List FunctionCode → Type 0
StaysInRoom m code = (b : Beginning m.memory_size) → HasRoom m b → (k : ℕ) → code_after code b k ≢ Overflowed

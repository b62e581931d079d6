-- The assumptions on a module's code: each function's is emitted for an allocation of its procedure.
use Rattle.std.specs.Prelude.{ℕ, ◌≡◌, List, length, slice_get, Some}
use Rattle.regalloc2_function.specs.OutputValue.{OutputValue}
use Rattle.regalloc2_semantics.specs.Alike.{RunAlike}
use Rattle.codegen_machine.specs.Seen.{function_of_procedure, operations}
use Rattle.codegen_machine.specs.declared.module.NamedProcedure.{NamedProcedure}
use Rattle.codegen_machine.specs.declared.procedure.Procedure.{Procedure}
use Rattle.codegen_machine.specs.Calls.{FunctionCode}
use Rattle.codegen_machine.specs.Machine.{CodeValue}
use Rattle.codegen.specs.FrameSizes.{HasFrameOf}
use Rattle.codegen.proofs.Premise.{IsEmitted}

-- a procedure's code, for an allocation under which both interpreters run alike
pub record IsCompiled (p : Procedure) (code : CodeValue) : Type 0 where
  pub out : OutputValue
  pub start : ℕ → ℕ
  pub alike : RunAlike (function_of_procedure p) out
  pub emitted : IsEmitted (function_of_procedure p) (operations p) out start code

-- the code of the first n of a module's procedures
pub record AreCompiled (ps : List NamedProcedure) (code : List FunctionCode) (n : ℕ) : Type 0 where
  pub long : length code ≡ n
  pub each : (g : ℕ) (p : NamedProcedure) (f : FunctionCode) → slice_get ps g ≡ Some p → slice_get code g ≡ Some f →
      IsCompiled p.procedure f.code × (f.arity ≡ p.arity) × HasFrameOf p f

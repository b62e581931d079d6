-- The code of a procedure: emitted for an allocation of its registers.
use Rattle.std.specs.Prelude.{◌≡◌, string_bytes}
use Rattle.regalloc2_function.specs.Machine.{MachineValue}
use Rattle.regalloc2_function.specs.OutputValue.{OutputValue}
use Rattle.regalloc2_function.specs.WellFormed.{IsWellFormed}
use Rattle.regalloc2_semantics.specs.Alike.{RunAlike}
use Rattle.regalloc2.specs.Guarantee.{IsAllocation}
use Rattle.codegen_machine.specs.Seen.{function_of_procedure, operations}
use Rattle.codegen_machine.specs.declared.procedure.Procedure.{Procedure}
use Rattle.codegen_machine.specs.declared.module.NamedProcedure.{NamedProcedure}
use Rattle.codegen_machine.specs.declared.NamedCode.{NamedCode}
use Rattle.codegen_machine.specs.Machine.{CodeValue, code_of}
use Rattle.codegen_emit.specs.Emitted.{emitted}
use Rattle.codegen.specs.Target.{IsTarget}

-- code emitted for an allocation for the machine's registers, under which the interpreters over vregs and over places run alike
pub record IsCodeOf (p : Procedure) (code : CodeValue) : Type 0 where
  pub env : MachineValue
  pub out : OutputValue
  pub target : IsTarget env
  pub tested : IsWellFormed env (function_of_procedure p)
  pub allocation : IsAllocation (function_of_procedure p) env out
  pub alike : RunAlike (function_of_procedure p) out
  pub is : code ≡ emitted (operations p) (function_of_procedure p) out

-- the code of a function of a module, which keeps its name and the number of its arguments
abbrev pub IsNamedCodeOf : NamedProcedure → NamedCode → Type 0
IsNamedCodeOf p c = IsCodeOf p.procedure (code_of c.code) × (c.arity ≡ p.arity) × (string_bytes c.name ≡ string_bytes p.name)

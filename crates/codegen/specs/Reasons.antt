-- Why a function or a module is rejected.
use Rattle.std.specs.Prelude.{ℕ, ◌≡◌, codes, List, Some, slice_get}
use Rattle.regalloc2_function.specs.FunctionValue.{FunctionValue}
use Rattle.regalloc2_function.specs.Machine.{MachineValue}
use Rattle.regalloc2.specs.Allocated.{IsTestedRunReason}
use Rattle.regalloc2.specs.ErrorTexts.{tested_run_text}
use Rattle.codegen_machine.specs.Seen.{function_of_procedure}
use Rattle.codegen_machine.specs.declared.module.NamedProcedure.{NamedProcedure}
use Rattle.codegen.specs.Target.{IsTarget}
use Rattle.codegen.specs.declared.compiler.CompileError.{CompileError}
use Rattle.codegen.specs.declared.compiler.CompileError.TheVariants.{Refused, Memory}

-- the allocator's error, for the machine's registers; or memory ran out
abbrev pub IsCompileReason : FunctionValue → CompileError → Type 0
IsCompileReason f (Refused e) = (env : MachineValue) × IsTarget env × IsTestedRunReason f env e
IsCompileReason f Memory = Unit {0}

-- why a module is rejected: one of its functions is
abbrev pub IsModuleReason : List NamedProcedure → CompileError → Type 0
IsModuleReason ps (Refused e) = (g : ℕ) × (p : NamedProcedure) × (slice_get ps g ≡ Some p) × IsCompileReason (function_of_procedure p.procedure) (Refused e)
IsModuleReason ps Memory = Unit {0}

-- the text of the reason
abbrev pub compile_error_text : CompileError → List ℕ
compile_error_text (Refused e) = tested_run_text e
compile_error_text Memory = codes "out of memory"

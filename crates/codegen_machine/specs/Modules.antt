-- Whether functions are a module: they have one memory, the first has at most six arguments, and calls pass each function as many arguments as it has.
use Rattle.std.specs.Prelude.{ℕ, ◌≡◌, ◌<◌, IsTrue, Bool, true, false, nat_eq, nat_lt, nat_le, List, [], ◌∷◌, map, length, slice_get, Option, None, Some}
use Rattle.std.specs.List.{list_all}
use Rattle.codegen_machine.specs.Successors.{operations_of}
use Rattle.codegen_operation.specs.declared.operation.Operation.{Operation}
use Rattle.codegen_operation.specs.declared.operation.Operation.TheVariants.{Argument, Call}
use Rattle.codegen_machine.specs.declared.procedure.Procedure.{Procedure}
use Rattle.codegen_machine.specs.declared.module.NamedProcedure.{NamedProcedure}
use Rattle.codegen_machine.specs.declared.module.Refusal.{Refusal}
use Rattle.codegen_machine.specs.declared.module.Refusal.TheVariants.{NoFunction, MemorySize, ManyArguments, UnknownArgument, WrongCall}

-- the procedures of a module, by number, and their arities
abbrev pub procedures_of : List NamedProcedure → List Procedure
procedures_of ps = map (λ p. p.procedure) ps

abbrev pub arities_of : List NamedProcedure → List ℕ
arities_of ps = map (λ p. p.arity) ps

-- the function exists, and takes `count` arguments
abbrev pub takes : Option ℕ → ℕ → Bool
takes None count = false
takes (Some arity) count = nat_eq arity count

-- an argument that an operation reads is one of its function's
abbrev pub reads_argument : ℕ → Operation → Bool
reads_argument arity (Argument to k) = nat_lt k arity
reads_argument arity o = true

-- a call names a function, and passes as many arguments as that function has
abbrev pub calls_function : List ℕ → Operation → Bool
calls_function arities (Call g to arguments) = takes (slice_get arities g) (length arguments.items)
calls_function arities o = true

-- the conditions of a module, for one of its functions
abbrev pub has_memory : ℕ → NamedProcedure → Bool
has_memory size p = nat_eq p.procedure.memory_size size

abbrev pub reads_arguments : NamedProcedure → Bool
reads_arguments p = list_all (reads_argument p.arity) (operations_of p.procedure.lines.items)

abbrev pub calls_functions : List ℕ → NamedProcedure → Bool
calls_functions arities p = list_all (calls_function arities) (operations_of p.procedure.lines.items)

-- the first function's arguments are passed in registers
abbrev pub passes_registers : List NamedProcedure → Bool
passes_registers [] = true
passes_registers (p ∷ ps) = nat_le p.arity 6

-- the first condition that functions don't meet, for a memory of that size
abbrev pub IsRefused : List NamedProcedure → ℕ → Refusal → Type 0
IsRefused ps size NoFunction = length ps ≡ 0
IsRefused ps size MemorySize = (0 < length ps) × (list_all (has_memory size) ps ≡ false)
IsRefused ps size ManyArguments = (0 < length ps) × IsTrue (list_all (has_memory size) ps) × (passes_registers ps ≡ false)
IsRefused ps size UnknownArgument =
    (0 < length ps) × IsTrue (list_all (has_memory size) ps) × IsTrue (passes_registers ps) × (list_all reads_arguments ps ≡ false)
IsRefused ps size WrongCall = (0 < length ps) × IsTrue (list_all (has_memory size) ps) × IsTrue (passes_registers ps) × IsTrue (list_all reads_arguments ps)
    × (list_all (calls_functions (arities_of ps)) ps ≡ false)

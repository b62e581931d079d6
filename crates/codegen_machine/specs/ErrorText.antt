-- The texts of errors: why blocks and lines are no function, and why functions are no module.
use Rattle.std.specs.Prelude.{ℕ, codes, List}
use Rattle.codegen_machine.specs.declared.module.Refusal.{Refusal}
use Rattle.codegen_machine.specs.declared.module.Refusal.TheVariants.{NoFunction, MemorySize, ManyArguments, UnknownArgument, WrongCall}
use Rattle.codegen_machine.specs.declared.procedure.Malformed.{Malformed}
use Rattle.codegen_machine.specs.declared.procedure.Malformed.TheVariants.{TooLarge, MissingSuccessor, UnknownRegister, LargeNumber, LargeMemory}

abbrev pub malformed_text : Malformed → List ℕ
malformed_text TooLarge = codes "the function is too large"
malformed_text MissingSuccessor = codes "a block has too few successors"
malformed_text UnknownRegister = codes "a line names a virtual register that the function doesn't have"
malformed_text LargeNumber = codes "a line has a number of 2^31 or more"
malformed_text LargeMemory = codes "the memory has 2^31 bytes or more"

abbrev pub refusal_text : Refusal → List ℕ
refusal_text NoFunction = codes "there is no function"
refusal_text MemorySize = codes "a function has a memory of another size"
refusal_text ManyArguments = codes "the first function has more than six arguments"
refusal_text UnknownArgument = codes "a line reads an argument that its function doesn't have"
refusal_text WrongCall = codes "a call names no function, or passes another number of arguments"

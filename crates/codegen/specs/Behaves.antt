-- The main theorem of the code generator: compiled code behaves as the module does.
use Rattle.std.specs.Prelude.{ℕ, ◌≡◌, ◌≢◌, ◌≤◌, ◌⊎◌, true, List, ◌∷◌, length, map}
use Rattle.regalloc2_names.specs.Register.{VirtualRegister}
use Rattle.codegen_operation.specs.Numbers.{RunOutcome, Running, Returned, Trapped, Overflowed, Stuck, further}
use Rattle.codegen_machine.specs.Frames.{ModuleState, module_begun, module_run}
use Rattle.codegen_machine.specs.Modules.{procedures_of}
use Rattle.codegen_machine.specs.declared.module.Module.{Module}
use Rattle.codegen_machine.specs.Calls.{FunctionCode, Stack, StackState, exceeds, stack_begun, stack_run, words_taken}

-- the arguments, the initial memory, of a given size, the numbers that vregs hold at the start of each frame, which are arbitrary, and the stack
pub record Beginning (size : ℕ) : Type 0 where
  pub args : ℕ → ℕ
  pub memory : List ℕ
  pub sized : length memory ≡ size
  pub numbers : VirtualRegister → ℕ
  pub stack : Stack

-- the outcomes of the module and of its code after a number of steps from the start of function 0
abbrev pub module_after : (m : Module) → Beginning m.memory_size → ℕ → RunOutcome ModuleState
module_after m b n = further (module_begun (procedures_of m.procedures.items) b.numbers b.args b.memory)
    (module_run (procedures_of m.procedures.items) b.numbers n)

abbrev pub code_after : {size : ℕ} → List FunctionCode → Beginning size → ℕ → RunOutcome StackState
code_after code b k = further (stack_begun code b.stack b.args b.memory) (stack_run code b.stack k)

-- the stack overflows after some steps
abbrev pub Overflows : {size : ℕ} → List FunctionCode → Beginning size → Type 0
Overflows code b = (k : ℕ) × (code_after code b k ≡ Overflowed)

-- the words that the frames of a state take on the stack
abbrev pub words_needed : List FunctionCode → ModuleState → ℕ
words_needed code s = words_taken code (s.procedure ∷ map (λ c. c.procedure) s.callers)

-- The code behaves as the module: unless its stack overflows, the code returns a number and leaves a memory exactly if the module does, traps exactly if the
-- module does and leaves the same memory, and runs for as long as the module does. Its stack overflows only where the module's frames take more words
-- than it has room for. Neither is ever stuck.
pub record BehavesAs (m : Module) (code : List FunctionCode) : Type 0 where
  pub returns : (b : Beginning m.memory_size) (n r : ℕ) (left : List ℕ) → module_after m b n ≡ Returned r left →
      ((k : ℕ) × (code_after code b k ≡ Returned r left)) ⊎ Overflows code b
  pub returns_only : (b : Beginning m.memory_size) (k r : ℕ) (left : List ℕ) → code_after code b k ≡ Returned r left →
      (n : ℕ) × (module_after m b n ≡ Returned r left)
  pub traps : (b : Beginning m.memory_size) (n : ℕ) (left : List ℕ) → module_after m b n ≡ Trapped left →
      ((k : ℕ) × (code_after code b k ≡ Trapped left)) ⊎ Overflows code b
  pub traps_only : (b : Beginning m.memory_size) (k : ℕ) (left : List ℕ) → code_after code b k ≡ Trapped left →
      (n : ℕ) × (module_after m b n ≡ Trapped left)
  pub goes_on : (b : Beginning m.memory_size) (n : ℕ) (s : ModuleState) → module_after m b n ≡ Running s →
      ((k : ℕ) × (t : StackState) × (n ≤ k) × (code_after code b k ≡ Running t)) ⊎ Overflows code b
  pub overflows_only : (b : Beginning m.memory_size) (k : ℕ) → code_after code b k ≡ Overflowed →
      (n : ℕ) × (s : ModuleState) × (module_after m b n ≡ Running s) × (exceeds b.stack.room (words_needed code s) ≡ true)
  pub never_stuck : (b : Beginning m.memory_size) (k : ℕ) → code_after code b k ≢ Stuck
  pub source_never_stuck : (b : Beginning m.memory_size) (n : ℕ) → module_after m b n ≢ Stuck
  pub source_never_overflows : (b : Beginning m.memory_size) (n : ℕ) → module_after m b n ≢ Overflowed

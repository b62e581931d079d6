-- The machine's semantics: an interpreter that makes a step for each instruction. It is stuck if there is no instruction, no such register or slot, if a
-- condition is tested and no numbers have been compared since the flags were last clobbered, if register 2 doesn't extend a division's dividend, and if an
-- access lies outside memory.
use Rattle.std.specs.Prelude.{ℕ, zero, suc, ◌+◌, Bool, true, ◌&&◌, not, nat_eq, nat_lt, if◌then◌else◌, List, slice_get, Option, None, Some}
use Rattle.codegen_operation.specs.Numbers.{RunOutcome, Running, Returned, Trapped, Stuck, further, computed_at, shifted_at, divided_at, division_traps}
use Rattle.codegen_operation.specs.Numbers.{extended, widened, condition_holds, truth, is_within, number_at, with_number, put}
use Rattle.codegen_operation.specs.declared.operation.Bytes.{Bytes}
use Rattle.codegen_operation.specs.declared.operation.Width.{Width}
use Rattle.codegen_operation.specs.declared.operation.DivisionPart.TheVariants.{Quotient, Remainder}
use Rattle.codegen_machine.specs.declared.Source.{Source}
use Rattle.codegen_machine.specs.declared.Source.TheVariants.{Register, Slot, Number}
use Rattle.codegen_machine.specs.declared.Instruction.{Instruction}
use Rattle.codegen_machine.specs.declared.Instruction.TheVariants.{Constant, Clear, Argument, Move, Load, Store, Compute}
use Rattle.codegen_machine.specs.declared.Instruction.TheVariants.{Shift, ShiftBy, ExtendSign, Divide, Compare, Set, MoveIf, Test}
use Rattle.codegen_machine.specs.declared.Instruction.TheVariants.{Guard, Read, Write, Jump, JumpIf, Call, Pass, Return}
use Rattle.codegen_machine.specs.declared.Code.{Code}

-- the current instruction, the numbers in registers and slots, the numbers last compared, unless an instruction has clobbered them, and the bytes in memory
pub record MachineState : Type 0 where
  pub pc : ℕ
  pub registers : ℕ → ℕ
  pub frame : ℕ → ℕ
  pub compared : Option (ℕ × ℕ)
  pub memory : List ℕ

-- the registers that hold numbers: all sixteen but the two that address the frame and memory
abbrev pub is_general : ℕ → Bool
is_general r = nat_lt r 15 && not (nat_eq r 4)

-- continues with the number in a register, in a slot of a frame with `slots` slots, or of any source; or with the numbers last compared
abbrev pub with_register : MachineState → ℕ → (ℕ → RunOutcome MachineState) → RunOutcome MachineState
with_register s r go = if is_general r then go (s.registers r) else Stuck

abbrev pub with_slot : ℕ → MachineState → ℕ → (ℕ → RunOutcome MachineState) → RunOutcome MachineState
with_slot slots s k go = if nat_lt k slots then go (s.frame k) else Stuck

abbrev pub with_source : ℕ → MachineState → Source → (ℕ → RunOutcome MachineState) → RunOutcome MachineState
with_source slots s (Register r) go = with_register s r go
with_source slots s (Slot k) go = with_slot slots s k go
with_source slots s (Number n) go = go n

abbrev pub with_compared : Option (ℕ × ℕ) → (ℕ → ℕ → RunOutcome MachineState) → RunOutcome MachineState
with_compared None go = Stuck
with_compared (Some p) go = go p.0 p.1

-- continues at the next instruction, with a register written, or a slot, or with numbers compared
abbrev pub written : MachineState → ℕ → ℕ → Option (ℕ × ℕ) → RunOutcome MachineState
written s r n compared =
    if is_general r
    then Running (record { pc = s.pc + 1; registers = put s.registers r n; frame = s.frame; compared = compared; memory = s.memory })
    else Stuck

abbrev pub frame_stored : ℕ → MachineState → ℕ → ℕ → RunOutcome MachineState
frame_stored slots s k n =
    if nat_lt k slots
    then Running (record { pc = s.pc + 1; registers = s.registers; frame = put s.frame k n; compared = s.compared; memory = s.memory })
    else Stuck

abbrev pub compared_to : MachineState → ℕ → ℕ → RunOutcome MachineState
compared_to s a b = Running (record { pc = s.pc + 1; registers = s.registers; frame = s.frame; compared = Some (a, b); memory = s.memory })

-- The state after a division of the number in register 0, which register 2 extends, with both results. A division traps as the processor does.
abbrev pub parted : MachineState → Width → Bool → ℕ → MachineState
parted s w signed b = record {
  pc = s.pc + 1;
  registers = put (put s.registers 0 (divided_at w Quotient signed (s.registers 0) b)) 2 (divided_at w Remainder signed (s.registers 0) b);
  frame = s.frame;
  compared = None;
  memory = s.memory;
}

abbrev pub divides : MachineState → Width → Bool → ℕ → RunOutcome MachineState
divides s w signed b =
    if nat_eq (s.registers 2) (extended w signed (s.registers 0))
    then if division_traps w signed (s.registers 0) b then Trapped s.memory else Running (parted s w signed b)
    else Stuck

-- traps unless an address is below a limit
abbrev pub guarded : MachineState → ℕ → ℕ → RunOutcome MachineState
guarded s a limit =
    if nat_lt a limit
    then Running (record { pc = s.pc + 1; registers = s.registers; frame = s.frame; compared = None; memory = s.memory })
    else Trapped s.memory

-- a number read from memory into a register, and one written to memory
abbrev pub memory_read : MachineState → Bytes → ℕ → ℕ → RunOutcome MachineState
memory_read s bytes to a = if is_within s.memory bytes a then written s to (number_at bytes s.memory a) s.compared else Stuck

abbrev pub memory_written : MachineState → Bytes → ℕ → ℕ → RunOutcome MachineState
memory_written s bytes a n =
    if is_within s.memory bytes a then Running (record {
      pc = s.pc + 1;
      registers = s.registers;
      frame = s.frame;
      compared = s.compared;
      memory = with_number bytes s.memory a n;
    }) else Stuck

-- a jump to an instruction
abbrev pub jumped : MachineState → ℕ → RunOutcome MachineState
jumped s target = Running (record { pc = target; registers = s.registers; frame = s.frame; compared = s.compared; memory = s.memory })

-- the effect of an instruction within its function: a call leaves it, and so does an argument for one; the arguments are given by their numbers, and the frame has `slots` slots
abbrev pub executed : (ℕ → ℕ) → ℕ → Option Instruction → MachineState → RunOutcome MachineState
executed args slots None s = Stuck
executed args slots (Some (Constant to n)) s = written s to n s.compared
executed args slots (Some (Clear to)) s = written s to 0 None
executed args slots (Some (Argument to k)) s = written s to (args k) s.compared
executed args slots (Some (Move to from)) s = with_register s from (λ n. written s to n s.compared)
executed args slots (Some (Load to k)) s = with_slot slots s k (λ n. written s to n s.compared)
executed args slots (Some (Store k from)) s = with_register s from (λ n. frame_stored slots s k n)
executed args slots (Some (Compute w o to from)) s = with_register s to (λ a. with_source slots s from (λ b. written s to (computed_at w o a b) None))
executed args slots (Some (Shift w o to)) s = with_register s to (λ a. with_register s 1 (λ n. written s to (shifted_at w o a n) None))
executed args slots (Some (ShiftBy w o to n)) s = with_register s to (λ a. written s to (shifted_at w o a n) None)
executed args slots (Some (ExtendSign w)) s = written s 2 (extended w true (s.registers 0)) s.compared
executed args slots (Some (Divide w signed from)) s = with_source slots s from (λ b. divides s w signed b)
executed args slots (Some (Compare w left right)) s = with_register s left (λ a. with_source slots s right (λ b. compared_to s (widened w a) (widened w b)))
executed args slots (Some (Set to c)) s = with_compared s.compared (λ a b. written s to (truth (condition_holds c a b)) s.compared)
executed args slots (Some (MoveIf c to from)) s = with_compared s.compared (λ a b. with_register s to (λ x. with_source slots s from
    (λ y. written s to (if condition_holds c a b then y else x) s.compared)))
executed args slots (Some (Test from)) s = with_source slots s from (λ n. compared_to s n 0)
executed args slots (Some (Guard address limit)) s = with_register s address (λ a. guarded s a limit)
executed args slots (Some (Read bytes to address)) s = with_register s address (λ a. memory_read s bytes to a)
executed args slots (Some (Write bytes address from)) s = with_register s address (λ a. with_register s from (λ n. memory_written s bytes a n))
executed args slots (Some (Jump target)) s = jumped s target
executed args slots (Some (JumpIf c target)) s = with_compared s.compared (λ a b. jumped s (if condition_holds c a b then target else s.pc + 1))
executed args slots (Some (Call g)) s = Stuck
executed args slots (Some (Pass k from)) s = Stuck
executed args slots (Some Return) s = Returned (s.registers 0) s.memory

-- the contents of code: its instructions, the number of its frame's slots, and that of its outgoing words, the arguments that it passes on the stack
pub record CodeValue : Type 0 where
  pub instructions : List Instruction
  pub slots : ℕ
  pub outgoing : ℕ

abbrev pub code_of : Code → CodeValue
code_of c = record { instructions = c.instructions.items; slots = c.slots; outgoing = c.outgoing }

-- one step: the current instruction
abbrev pub machine_step : CodeValue → (ℕ → ℕ) → MachineState → RunOutcome MachineState
machine_step code args s = executed args code.slots (slice_get code.instructions s.pc) s

-- a number of steps
unfoldable pub machine_run : CodeValue → (ℕ → ℕ) → ℕ → MachineState → RunOutcome MachineState
machine_run code args zero s = Running s
machine_run code args (suc n) s = further (machine_step code args s) (machine_run code args n)

-- The interpretation of a procedure: an interpreter that makes a step for each line.
use Rattle.std.specs.Prelude.{ℕ, zero, suc, ◌+◌, nat_eq, if◌then◌else◌, List, slice_get, Option, None, Some}
use Rattle.regalloc2_names.specs.Register.{VirtualRegister}
use Rattle.regalloc2_function.specs.FunctionValue.{FunctionValue, block_at}
use Rattle.regalloc2_semantics.specs.Runs.{Location, first_of, arguments_at, assigned, passed}
use Rattle.codegen_machine.specs.Seen.{Operations}
use Rattle.codegen_operation.specs.Numbers.{RunOutcome, Running, Returned, Trapped, Stuck, further, computed_at, shifted_at, divided_at, division_traps}
use Rattle.codegen_operation.specs.Numbers.{condition_holds, widened, truth, is_within, number_at, with_number}
use Rattle.codegen_operation.specs.declared.operation.Operation.{Operation}
use Rattle.codegen_operation.specs.declared.operation.Operation.TheVariants.{Argument, Constant, Copy, Compute, Shift, Divide, Compare, Select, Jump}
use Rattle.codegen_operation.specs.declared.operation.Operation.TheVariants.{BranchIf, BranchIfHolds, Load, Store, Call, Return}
use Rattle.codegen_operation.specs.declared.operation.Count.{Count}
use Rattle.codegen_operation.specs.declared.operation.Count.TheVariants.{VReg as CountIn, Number as CountOf}
use Rattle.codegen_operation.specs.declared.operation.Right.{Right}
use Rattle.codegen_operation.specs.declared.operation.Right.TheVariants.{VReg, Number}

-- the current line of a run, the numbers of the virtual registers, and the bytes in memory
pub record ProcedureState : Type 0 where
  pub at : Location
  pub numbers : VirtualRegister → ℕ
  pub memory : List ℕ

-- continues at the block's next line, with a vreg written
abbrev pub onward : ProcedureState → VirtualRegister → ℕ → RunOutcome ProcedureState
onward s v n = Running (record { at = record { block = s.at.block; inst = s.at.inst + 1 }; numbers = assigned s.numbers v n; memory = s.memory })

-- continues at the block's next line, with memory written
abbrev pub stored : ProcedureState → List ℕ → RunOutcome ProcedureState
stored s memory = Running (record { at = record { block = s.at.block; inst = s.at.inst + 1 }; numbers = s.numbers; memory = memory })

-- continues at the first line of the successor at a position, with the arguments assigned to its parameters in parallel
abbrev pub entered : FunctionValue → ProcedureState → ℕ → Option ℕ → RunOutcome ProcedureState
entered f s k None = Stuck
entered f s k (Some b) = Running (record {
  at = first_of f b;
  numbers = passed (block_at f b).params (arguments_at f s.at.block k) s.numbers s.numbers;
  memory = s.memory;
})

abbrev pub along : FunctionValue → ProcedureState → ℕ → RunOutcome ProcedureState
along f s k = entered f s k (slice_get (block_at f s.at.block).succs k)

-- the value of a second number, given the numbers of vregs
abbrev pub right_number : (VirtualRegister → ℕ) → Right → ℕ
right_number numbers (VReg v) = numbers v
right_number numbers (Number n) = n

-- the value of a shift count
abbrev pub count_number : (VirtualRegister → ℕ) → Count → ℕ
count_number numbers (CountIn v) = numbers v
count_number numbers (CountOf n) = n

-- the effect of a line within its procedure, which a call leaves; the arguments are given by their numbers
abbrev pub done : FunctionValue → (ℕ → ℕ) → Option Operation → ProcedureState → RunOutcome ProcedureState
done f args None s = Stuck
done f args (Some (Argument to k)) s = onward s to (args k)
done f args (Some (Constant to n)) s = onward s to n
done f args (Some (Copy to from)) s = onward s to (s.numbers from)
done f args (Some (Compute w o to left right)) s = onward s to (computed_at w o (s.numbers left) (right_number s.numbers right))
done f args (Some (Shift w o to left count)) s = onward s to (shifted_at w o (s.numbers left) (count_number s.numbers count))
done f args (Some (Divide w part signed to left right)) s =
    if division_traps w signed (s.numbers left) (s.numbers right) then Trapped s.memory
    else onward s to (divided_at w part signed (s.numbers left) (s.numbers right))
done f args (Some (Compare w c to left right)) s =
    onward s to (truth (condition_holds c (widened w (s.numbers left)) (widened w (right_number s.numbers right))))
done f args (Some (Select to c one other)) s = onward s to (if nat_eq (s.numbers c) 0 then s.numbers other else s.numbers one)
done f args (Some (Load bytes to address)) s =
    if is_within s.memory bytes (s.numbers address) then onward s to (number_at bytes s.memory (s.numbers address)) else Trapped s.memory
done f args (Some (Store bytes address value)) s =
    if is_within s.memory bytes (s.numbers address) then stored s (with_number bytes s.memory (s.numbers address) (s.numbers value)) else Trapped s.memory
done f args (Some (Call g to arguments)) s = Stuck
done f args (Some Jump) s = along f s 0
done f args (Some (BranchIf v)) s = along f s (if nat_eq (s.numbers v) 0 then 1 else 0)
done f args (Some (BranchIfHolds w c left right)) s =
    along f s (if condition_holds c (widened w (s.numbers left)) (widened w (right_number s.numbers right)) then 0 else 1)
done f args (Some (Return v)) s = Returned (s.numbers v) s.memory

-- one step: the current line
abbrev pub procedure_step : FunctionValue → Operations → (ℕ → ℕ) → ProcedureState → RunOutcome ProcedureState
procedure_step f operations args s = done f args (slice_get operations.items s.at.inst) s

-- a number of steps
unfoldable pub procedure_run : FunctionValue → Operations → (ℕ → ℕ) → ℕ → ProcedureState → RunOutcome ProcedureState
procedure_run f operations args zero s = Running s
procedure_run f operations args (suc n) s = further (procedure_run f operations args n s) (procedure_step f operations args)

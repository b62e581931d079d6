-- The errors that a check reports, and their order.
-- Kinds and fields are upstream's, of `CheckerError`. Which error of an operand is reported first, and that a place holds what it holds on every path, is
-- this project's own.
use Rattle.std.specs.Prelude.{ℕ, suc, ◌≡◌, ◌≢◌, ◌-◌, ◌<◌, ◌≤◌, ◌↔◌, true, false, List, [], ◌∷◌, ◌++◌, map, length, Contains, Option, None, Some}
use Rattle.std.specs.Option.{option_to_list}
use Rattle.std.specs.List.Sorted.{IsStrictlyIncreasing}
use Rattle.std.specs.declared.vec.Vec.{Vec}
use Rattle.regalloc2_names.specs.declared.OperandConstraint.{OperandConstraint}
use Rattle.regalloc2_names.specs.declared.OperandConstraint.TheVariants.{Reg, Stack, FixedReg, Reuse, Limit}
use Rattle.regalloc2_names.specs.declared.OperandPos.{OperandPos}
use Rattle.regalloc2_names.specs.declared.OperandPos.TheVariants.{Early, Late}
use Rattle.regalloc2_names.specs.Register.{Register, VirtualRegister}
use Rattle.regalloc2_names.specs.RegisterBits.{bits_of_vreg}
use Rattle.regalloc2_names.specs.Operand.{OperandValue, is_reading}
use Rattle.regalloc2_names.specs.Place.{Place, NoPlace, InRegister, InSlot, is_in_register}
use Rattle.regalloc2_function.specs.FunctionValue.{FunctionValue, block_at, inst_at, op_at}
use Rattle.regalloc2_function.specs.Machine.{MachineValue, IsStackPlace, IsPlainRegister}
use Rattle.regalloc2_function.specs.OutputValue.{OutputValue, MoveValue, allocs_of, place_at}
use Rattle.regalloc2_semantics.specs.Runs.{Location, moves_at}
use Rattle.regalloc2_semantics.specs.Faithful.{Meets, IsStackToStack, IsFaithful, HoldsOnPaths}
use Rattle.regalloc2_function.specs.WellFormed.{IsFramed}
use Rattle.regalloc2_checker.specs.Fixpoint.{IsReachedBlock, nth_of}
use Rattle.regalloc2_checker.specs.declared.errors.CheckerError.{CheckerError}
use Rattle.regalloc2_checker.specs.declared.errors.CheckerError.TheVariants.{MissingAllocation, UnknownValueInAllocation, IncorrectValuesInAllocation}
use Rattle.regalloc2_checker.specs.declared.errors.CheckerError.TheVariants.{ConstraintViolated, AllocationIsNotReg, AllocationIsNotFixedReg}
use Rattle.regalloc2_checker.specs.declared.errors.CheckerError.TheVariants.{AllocationIsNotReuse, AllocationIsNotStack, StackToStackMove}
use Rattle.regalloc2_checker.specs.declared.errors.CheckerError.TheVariants.{AllocationOutsideLimit}

-- a register below a bound
abbrev pub IsNumberedBelow : Place → ℕ → Type 0
IsNumberedBelow NoPlace n = ⊥
IsNumberedBelow (InRegister r) n = r.number < n
IsNumberedBelow (InSlot m) n = ⊥

-- the vregs that pass a test, by rising bits
pub record AreVRegsInValue (Has : VirtualRegister → Type 0) (vs : List VirtualRegister) : Type 0 where
  pub members : (v : VirtualRegister) → Contains vs v ↔ Has v
  pub rising : IsStrictlyIncreasing (map bits_of_vreg vs)

-- the error of a use that reads, by what its place holds: no vreg's value, or other vregs' values and not its own
pub data IsValueFault {A : Type 0} (inst : ℕ) (op : OperandValue) (p : Place) (Has : VirtualRegister → Type 0) : CheckerError A → Type 0 where
  unknown : ((v : VirtualRegister) → Has v → ⊥) → IsValueFault inst op p Has (UnknownValueInAllocation inst op p)
  incorrect : (Has op.vreg → ⊥) → (v : VirtualRegister) → Has v → (actual : Vec VirtualRegister A) → AreVRegsInValue Has actual.items →
      IsValueFault inst op p Has (IncorrectValuesInAllocation inst op p actual)

-- the error of a constraint that a place doesn't meet; count is the number of the instruction's operands, and places are their places
pub data IsConstraintFault {A : Type 0} (env : MachineValue) (inst : ℕ) (op : OperandValue) (count : ℕ) (places : List Place) (p : Place) : OperandConstraint →
    CheckerError A → Type 0 where
  no_register : (IsPlainRegister env p → ⊥) → IsConstraintFault env inst op count places p Reg (AllocationIsNotReg inst op p)
  no_stack : (IsStackPlace env p → ⊥) → IsConstraintFault env inst op count places p Stack (AllocationIsNotStack inst op p)
  not_fixed : (r : Register) → p ≢ InRegister r → IsConstraintFault env inst op count places p (FixedReg r) (AllocationIsNotFixedReg inst op p)
  reuses_no_register : (n : ℕ) → is_in_register p ≡ false → IsConstraintFault env inst op count places p (Reuse n) (AllocationIsNotReg inst op p)
  reuses_no_operand : (n : ℕ) → is_in_register p ≡ true → count ≤ n → IsConstraintFault env inst op count places p (Reuse n) (ConstraintViolated inst op p)
  not_reused : (n : ℕ) → is_in_register p ≡ true → n < count → p ≢ place_at places n →
      IsConstraintFault env inst op count places p (Reuse n) (AllocationIsNotReuse inst op p (place_at places n))
  limits_no_register : (n : ℕ) → (IsPlainRegister env p → ⊥) → IsConstraintFault env inst op count places p (Limit n) (AllocationIsNotReg inst op p)
  past_limit : (n : ℕ) → IsPlainRegister env p → (IsNumberedBelow p n → ⊥) →
      IsConstraintFault env inst op count places p (Limit n) (AllocationOutsideLimit inst op p (record { start = 0; end = n }))

-- the error of an operand, by what places hold where it is read or written: its place is missing, else what it holds is wrong, else its constraint is not met
pub data IsOperandFault {A : Type 0} (env : MachineValue) (inst : ℕ) (op : OperandValue) (count : ℕ) (places : List Place) (p : Place)
    (Has : VirtualRegister → Type 0) : CheckerError A → Type 0 where
  missing : p ≡ NoPlace → IsOperandFault env inst op count places p Has (MissingAllocation inst op)
  of_value : (e : CheckerError A) → p ≢ NoPlace → is_reading op ≡ true → IsValueFault inst op p Has e → IsOperandFault env inst op count places p Has e
  of_constraint : (e : CheckerError A) → p ≢ NoPlace → (is_reading op ≡ true → Has op.vreg) → IsConstraintFault env inst op count places p op.constraint e →
      IsOperandFault env inst op count places p Has e

-- an operand without an error: a use that reads finds its vreg's value, and the constraint is met, which no missing place does
pub record IsFine (env : MachineValue) (op : OperandValue) (count : ℕ) (places : List Place) (p : Place) (Has : VirtualRegister → Type 0) : Type 0 where
  pub value : is_reading op ≡ true → Has op.vreg
  pub constraint : Meets env count places op.constraint p

-- what is found of the operand of an index, by what places hold where it is read or written
abbrev pub IsFineAt : MachineValue → List OperandValue → List Place → (Place → VirtualRegister → Type 0) → ℕ → Type 0
IsFineAt env operands places Has k = IsFine env (op_at operands k) (length operands) places (place_at places k) (Has (place_at places k))

abbrev pub IsFaultAt : {A : Type 0} → MachineValue → ℕ → List OperandValue → List Place → (Place → VirtualRegister → Type 0) → ℕ → CheckerError A → Type 0
IsFaultAt env inst operands places Has k e = IsOperandFault env inst (op_at operands k) (length operands) places (place_at places k)
    (Has (place_at places k)) e

-- the operands of a position below an index are fine
abbrev pub AreFineBelow : MachineValue → List OperandValue → List Place → OperandPos → (Place → VirtualRegister → Type 0) → ℕ → Type 0
AreFineBelow env operands places position Has n = (k : ℕ) → k < n → (op_at operands k).position ≡ position → IsFineAt env operands places Has k

-- the first error among the operands of a position, or none
abbrev pub AreOperandsJudged : {A : Type 0} → MachineValue → ℕ → List OperandValue → List Place → OperandPos → (Place → VirtualRegister → Type 0) →
    Option (CheckerError A) → Type 0
AreOperandsJudged env inst operands places position Has None = AreFineBelow env operands places position Has (length operands)
AreOperandsJudged env inst operands places position Has (Some e) = (k : ℕ) × (k < length operands) × ((op_at operands k).position ≡ position)
    × AreFineBelow env operands places position Has k
    × IsFaultAt env inst operands places Has k e

-- the errors of moves, in their order: of each move between two stack places
pub data AreMoveFaults {A : Type 0} (env : MachineValue) : List MoveValue → List (CheckerError A) → Type 0 where
  none : AreMoveFaults env [] []
  fault : (m : MoveValue) (ms : List MoveValue) (es : List (CheckerError A)) → IsStackToStack env m → AreMoveFaults env ms es →
      AreMoveFaults env (m ∷ ms) (StackToStackMove m.to m.from ∷ es)
  fine : (m : MoveValue) (ms : List MoveValue) (es : List (CheckerError A)) → (IsStackToStack env m → ⊥) → AreMoveFaults env ms es →
      AreMoveFaults env (m ∷ ms) es

-- the errors of an instruction: of the moves before it, then of at most one early operand, then of at most one late operand
pub record InstReport {A : Type 0} (f : FunctionValue) (env : MachineValue) (o : OutputValue) (l : Location) (es : List (CheckerError A)) : Type 0 where
  pub of_moves : List (CheckerError A)
  pub of_early : Option (CheckerError A)
  pub of_late : Option (CheckerError A)
  pub moves : AreMoveFaults env (moves_at f o l) of_moves
  pub early : AreOperandsJudged env l.inst (inst_at f l.inst).operands (allocs_of o l.inst) Early (HoldsOnPaths f o l Early) of_early
  pub late : AreOperandsJudged env l.inst (inst_at f l.inst).operands (allocs_of o l.inst) Late (HoldsOnPaths f o l Late) of_late
  pub all : es ≡ of_moves ++ (option_to_list of_early ++ option_to_list of_late)

-- the errors of a block's first instructions, in turn
pub data InstReports {A : Type 0} (f : FunctionValue) (env : MachineValue) (o : OutputValue) (b : ℕ) : ℕ → List (CheckerError A) → Type 0 where
  none : InstReports f env o b 0 []
  next : (n : ℕ) (es fs : List (CheckerError A)) → InstReports f env o b n es → InstReport f env o (nth_of f b n) fs → InstReports f env o b (suc n) (es ++ fs)

-- the errors of a block: of its instructions where a path reaches it, else none
pub record BlockReport {A : Type 0} (f : FunctionValue) (env : MachineValue) (o : OutputValue) (b : ℕ) (es : List (CheckerError A)) : Type 0 where
  pub reached : IsReachedBlock f b → InstReports f env o b ((block_at f b).range.end - (block_at f b).range.first) es
  pub unreached : (IsReachedBlock f b → ⊥) → es ≡ []

-- the errors of the first blocks, in turn
pub data BlockReports {A : Type 0} (f : FunctionValue) (env : MachineValue) (o : OutputValue) : ℕ → List (CheckerError A) → Type 0 where
  none : BlockReports f env o 0 []
  next : (b : ℕ) (es fs : List (CheckerError A)) → BlockReports f env o b es → BlockReport f env o b fs → BlockReports f env o (suc b) (es ++ fs)

-- the errors of an output
abbrev pub IsReport : {A : Type 0} → FunctionValue → MachineValue → OutputValue → List (CheckerError A) → Type 0
IsReport f env o es = BlockReports f env o (length f.blocks) es

-- an output of a structurally valid function (`IsFramed`) has no errors exactly if it is faithful
abbrev pub NoneWhereFaithful : Type 0 → Type 0
NoneWhereFaithful A = (f : FunctionValue) (env : MachineValue) (o : OutputValue) (es : List (CheckerError A)) → IsFramed f → IsReport f env o es →
    (es ≡ []) ↔ IsFaithful f env o

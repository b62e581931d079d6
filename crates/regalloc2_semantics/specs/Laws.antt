-- Laws on the runs, and from reads that agree to a faithful output.
use Rattle.std.specs.Prelude.{ℕ, ◌≡◌, ◌<◌, ◌≤◌, true, List, length, Some, None, Option, All, IsSome}
use Rattle.regalloc2_names.specs.Operand.{OperandValue, is_reading}
use Rattle.regalloc2_names.specs.Register.{VirtualRegister}
use Rattle.regalloc2_names.specs.Place.{Place, NoPlace}
use Rattle.regalloc2_function.specs.FunctionValue.{FunctionValue, block_at, op_at}
use Rattle.regalloc2_function.specs.Machine.{MachineValue}
use Rattle.regalloc2_function.specs.OutputValue.{OutputValue, is_listed_at}
use Rattle.regalloc2_function.specs.WellFormed.{IsWellFormed}
use Rattle.regalloc2_semantics.specs.Runs.{Way, last_inst, Stamp, source_read, IsPath, source_before, cells_before, allocated_read}
use Rattle.regalloc2_semantics.specs.Faithful.{IsFaithful, ConstraintsMet, IsStackToStack}
use Rattle.regalloc2_semantics.specs.Values.{SameNumbers}

-- each edit is listed before or after an instruction of a block, and none after a block's last one
abbrev pub EditsAreListed : FunctionValue → OutputValue → Type 0
EditsAreListed f out = All (λ e. (b i : ℕ) × (b < length f.blocks) × ((block_at f b).range.first ≤ i) × (i < (block_at f b).range.end)
    × (is_listed_at (block_at f b).range.first i e.0 ≡ true)) out.edits

-- who wrote each vreg last, and each place, if anyone
abbrev pub Source : Type 0
Source = VirtualRegister → Option Stamp

abbrev pub Cells : Type 0
Cells = Place → Option Stamp

-- every use of the last step finds a write
abbrev pub UsesWritten : FunctionValue → List Way → Type 0
UsesWritten f ws = (k : ℕ) → k < length (last_inst f ws).operands →
    let o : OperandValue = op_at (last_inst f ws).operands k in
    is_reading o ≡ true → IsSome (source_read f ws o)

-- at the last step of a path each use finds in its place the write that its vreg has, and there is one
abbrev pub ReadsAgree : FunctionValue → OutputValue → List Way → Type 0
ReadsAgree f out ws = (k : ℕ) → k < length (last_inst f ws).operands →
    let o : OperandValue = op_at (last_inst f ws).operands k in
    is_reading o ≡ true → IsSome (source_read f ws o) × (allocated_read f out ws k o ≡ source_read f ws o)

-- every use of the last step finds a write of an earlier step
abbrev pub UsesFindEarlier : FunctionValue → List Way → Type 0
UsesFindEarlier f ws = (k : ℕ) → k < length (last_inst f ws).operands →
    let o : OperandValue = op_at (last_inst f ws).operands k in
    is_reading o ≡ true → (s : Stamp) × (source_read f ws o ≡ Some s) × (s.step < length ws)

-- each write that the function's run finds was made at an earlier step
abbrev pub SourceIsEarlier : Type 0
SourceIsEarlier = (f : FunctionValue) (ws : List Way) (v : VirtualRegister) (s : Stamp) → source_before f ws v ≡ Some s → s.step < length ws

-- each write that a place holds was made at an earlier step
abbrev pub CellsAreEarlier : Type 0
CellsAreEarlier = (f : FunctionValue) (o : OutputValue) (ws : List Way) (p : Place) (s : Stamp) → cells_before f o ws p ≡ Some s → s.step < length ws

-- a missing place holds nothing
abbrev pub MissingHoldsNothing : Type 0
MissingHoldsNothing = (f : FunctionValue) (o : OutputValue) (ws : List Way) → cells_before f o ws NoPlace ≡ None

-- a faithful output reads the function's own numbers
abbrev pub FaithfulGivesNumbers : Type 0
FaithfulGivesNumbers = (f : FunctionValue) (env : MachineValue) (out : OutputValue) → IsFaithful f env out → SameNumbers f out

-- where reads agree on every path, both runs read the same numbers, whatever the instructions compute
abbrev pub ReadsGiveNumbers : Type 0
ReadsGiveNumbers = (f : FunctionValue) (out : OutputValue) → ((ws : List Way) → IsPath f ws → ReadsAgree f out ws) → SameNumbers f out

-- the converse: if each use finds a write of an earlier step, and both runs read the same numbers, whatever the instructions compute, reads agree
abbrev pub NumbersGiveReads : Type 0
NumbersGiveReads = (f : FunctionValue) (out : OutputValue) → ((ws : List Way) → IsPath f ws → UsesFindEarlier f ws) → SameNumbers f out → (ws : List Way) →
    IsPath f ws → ReadsAgree f out ws

-- on every path all reads agree
abbrev pub ReadsAgreeOnPaths : FunctionValue → OutputValue → Type 0
ReadsAgreeOnPaths f out = (ws : List Way) → IsPath f ws → ReadsAgree f out ws

-- with the constraints of every instruction met, and no move between two stack places, the output is faithful
abbrev pub FaithfulWhereReadsAgree : Type 0
FaithfulWhereReadsAgree = (f : FunctionValue) (env : MachineValue) (out : OutputValue) →
    ((i : ℕ) → i < length f.insts → ConstraintsMet f env out i) → All (λ e. IsStackToStack env e.1 → ⊥) out.edits → ReadsAgreeOnPaths f out →
    IsFaithful f env out

-- in a well-formed function each use that finds a write finds one of an earlier step
abbrev pub WellFormedReadEarlier : Type 0
WellFormedReadEarlier = (env : MachineValue) (f : FunctionValue) → IsWellFormed env f → (ws : List Way) → IsPath f ws → UsesWritten f ws → UsesFindEarlier f ws

-- if reads agree, each finds on both sides a write of an earlier step, which has a number under every interpretation
abbrev pub AgreeingReadsFindEarlier : Type 0
AgreeingReadsFindEarlier = (env : MachineValue) (f : FunctionValue) (out : OutputValue) → IsWellFormed env f → ReadsAgreeOnPaths f out → (ws : List Way) →
    IsPath f ws → UsesFindEarlier f ws

-- if every use finds a write, and both runs read the same numbers whatever the instructions compute, reads agree
abbrev pub ReadsAgreeWhereNumbersDo : Type 0
ReadsAgreeWhereNumbersDo = (env : MachineValue) (f : FunctionValue) (out : OutputValue) → IsWellFormed env f →
    ((ws : List Way) → IsPath f ws → UsesWritten f ws) → SameNumbers f out → ReadsAgreeOnPaths f out

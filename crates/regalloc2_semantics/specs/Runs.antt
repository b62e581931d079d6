-- Paths through a function, and the two runs along them: who wrote each vreg last, and who wrote each place last.
-- Blocks and successors are as in upstream's trait `Function`; paths, and the names of writes, are this project's own. Operands are read and
-- written as upstream's `OperandKind` and `OperandPos` say, parameters take arguments as its `Function::branch_blockparams` says, and moves run
-- where its `OutputIter` lists them. That a move copies absence, and that early definitions empty their places before early uses are read, is
-- this project's own choice.
use Rattle.std.specs.Prelude.{ℕ, ◌≡◌, ◌+◌, ◌<◌, List, [], ◌∷◌, length, slice_index, true, if◌then◌else◌, slice_index_or, Option, None, Some, IsSome, ◌&&◌}
use Rattle.std.specs.Prelude.{not, All, map, filter}
use Rattle.regalloc2_names.specs.declared.OperandPos.{OperandPos}
use Rattle.regalloc2_names.specs.declared.OperandPos.TheVariants.{Early, Late}
use Rattle.regalloc2_names.specs.declared.sets.PRegSet.{PRegSet}
use Rattle.regalloc2_names.specs.Register.{VirtualRegister, is_vreg, has_register}
use Rattle.regalloc2_names.specs.Operand.{OperandValue, is_def, is_reading, is_late}
use Rattle.regalloc2_names.specs.Place.{Place, NoPlace, InRegister, InSlot, is_place}
use Rattle.regalloc2_function.specs.FunctionValue.{FunctionValue, block_at, inst_at, InstValue, op_at}
use Rattle.regalloc2_function.specs.OutputValue.{OutputValue, MoveValue, allocs_of, place_at, is_listed_at}

-- how a path goes on: to the next instruction of the block, or by the edge to the successor at a position
pub data Way : Type 0 where
  Onward : Way
  ToSuccessor : ℕ → Way

-- an instruction, with its block
pub record Location : Type 0 where
  pub block : ℕ
  pub inst : ℕ

-- the first instruction of a block
abbrev pub first_of : FunctionValue → ℕ → Location
first_of f b = record { block = b; inst = (block_at f b).range.first }

-- one step further
abbrev pub next_of : FunctionValue → Location → Way → Location
next_of f l Onward = record { block = l.block; inst = l.inst + 1 }
next_of f l (ToSuccessor k) = first_of f (slice_index (block_at f l.block).succs k)

-- A path is the list of the edges and fall-throughs (`Way`) from the entry, the last one first. Its last location:
abbrev pub end_of : FunctionValue → List Way → Location
end_of f [] = first_of f f.entry
end_of f (w ∷ ws) = next_of f (end_of f ws) w

-- the function has the edge or fall-through
abbrev pub HasWay : FunctionValue → Location → Way → Type 0
HasWay f l Onward = l.inst + 1 < (block_at f l.block).range.end
HasWay f l (ToSuccessor k) = (l.inst + 1 ≡ (block_at f l.block).range.end) × (k < length (block_at f l.block).succs)

-- the list is a path of the function
abbrev pub IsPath : FunctionValue → List Way → Type 0
IsPath f [] = Unit {0}
IsPath f (w ∷ ws) = IsPath f ws × HasWay f (end_of f ws) w

-- the instruction of the last location of a path; its step is the length of the list
abbrev pub last_inst : FunctionValue → List Way → InstValue
last_inst f ws = inst_at f (end_of f ws).inst

-- a path reaches a location
abbrev pub IsReached : FunctionValue → Location → Type 0
IsReached f l = (ws : List Way) × IsPath f ws × (end_of f ws ≡ l)

-- the name of one write: the step at which it was made, and the index of the operand that made it
pub record Stamp : Type 0 where
  pub step : ℕ
  pub operand : ℕ

-- A run keeps one thing for each vreg, of any type A: who wrote it last, or a number. The map with one vreg changed:
abbrev pub assigned : {A : Type 0} → (VirtualRegister → A) → VirtualRegister → A → VirtualRegister → A
assigned m v s q = if is_vreg v q then s else m q

-- the map after a step's definitions, in operand order from index k on; `written` is what an operand writes, by its index
unfoldable pub after_defs : {A : Type 0} → (ℕ → A) → ℕ → List OperandValue → (VirtualRegister → A) → VirtualRegister → A
after_defs written k [] m = m
after_defs written k (o ∷ os) m = after_defs written (k + 1) os (if is_def o.kind then assigned m o.vreg (written k) else m)

-- The parameters take what the arguments had before, all at once. Where a parameter is listed twice, the last listing counts.
unfoldable pub passed : {A : Type 0} → List VirtualRegister → List VirtualRegister → (VirtualRegister → A) → (VirtualRegister → A) → VirtualRegister → A
passed [] arguments before after = after
passed (p ∷ ps) [] before after = after
passed (p ∷ ps) (a ∷ rest) before after = passed ps rest before (assigned after p (before a))

-- the arguments for the successor at a position
abbrev pub arguments_at : FunctionValue → ℕ → ℕ → List VirtualRegister
arguments_at f b k = slice_index_or (block_at f b).arguments k []

-- the map after an edge or fall-through
unfoldable pub over_edge : {A : Type 0} → FunctionValue → Location → Way → (VirtualRegister → A) → VirtualRegister → A
over_edge f l Onward m = m
over_edge f l (ToSuccessor k) m = passed (block_at f (slice_index (block_at f l.block).succs k)).params (arguments_at f l.block k) m m

-- the write of an operand at a step
abbrev pub write_at : ℕ → ℕ → Option Stamp
write_at step k = Some (record { step = step; operand = k })

-- who wrote each vreg last, if anyone, before the last step of a path reads
unfoldable pub source_before : FunctionValue → List Way → VirtualRegister → Option Stamp
source_before f [] = λ v. None
source_before f (w ∷ ws) = over_edge f (end_of f ws) w (after_defs (write_at (length ws)) 0 (last_inst f ws).operands (source_before f ws))

-- the vregs after the definitions of the last instruction of a path
abbrev pub source_after : FunctionValue → List Way → VirtualRegister → Option Stamp
source_after f ws = after_defs (write_at (length ws)) 0 (last_inst f ws).operands (source_before f ws)

-- what the operand reads of the two maps, before and after the definitions
abbrev pub read_of : OperandPos → Option Stamp → Option Stamp → Option Stamp
read_of Early before after = before
read_of Late before after = after

abbrev pub source_read : FunctionValue → List Way → OperandValue → Option Stamp
source_read f ws o = read_of o.position (source_before f ws o.vreg) (source_after f ws o.vreg)

-- each vreg is definitely assigned: at the last step of every path each use, and each argument on an edge from there, finds a write
abbrev pub IsDefinitelyAssigned : FunctionValue → Type 0
IsDefinitelyAssigned f = (ws : List Way) → IsPath f ws →
    ((k : ℕ) → k < length (last_inst f ws).operands →
    let o : OperandValue = op_at (last_inst f ws).operands k in
    is_reading o ≡ true → IsSome (source_read f ws o))
    × ((k : ℕ) → HasWay f (end_of f ws) (ToSuccessor k) → All (λ v. IsSome (source_after f ws v)) (arguments_at f (end_of f ws).block k))

-- The run over places keeps one thing for each place. The map with one place changed; a missing place is never written:
unfoldable pub stored : {A : Type 0} → (Place → A) → Place → A → Place → A
stored c NoPlace s = c
stored c (InRegister r) s = λ q. if is_place (InRegister r) q then s else c q
stored c (InSlot n) s = λ q. if is_place (InSlot n) q then s else c q

-- a move copies, and empties its destination where its source holds nothing
unfoldable pub after_moves : {A : Type 0} → List MoveValue → (Place → A) → Place → A
after_moves [] c = c
after_moves (m ∷ ms) c = after_moves ms (stored c m.to (c m.from))

-- the places of early definitions hold what is left there while the instruction reads
unfoldable pub after_early_defs : {A : Type 0} → (Place → A) → List Place → ℕ → List OperandValue → (Place → A) → Place → A
after_early_defs left places k [] c = c
after_early_defs left places k (o ∷ os) c = after_early_defs left places (k + 1) os
    (if is_def o.kind && not (is_late o.position) then stored c (place_at places k) (left (place_at places k)) else c)

-- the definitions are written, in operand order
unfoldable pub after_writes : {A : Type 0} → (ℕ → A) → List Place → ℕ → List OperandValue → (Place → A) → Place → A
after_writes written places k [] c = c
after_writes written places k (o ∷ os) c = after_writes written places (k + 1) os (if is_def o.kind then stored c (place_at places k) (written k) else c)

-- the clobbered registers hold what is left there
unfoldable pub after_clobbers : {A : Type 0} → PRegSet → (Place → A) → (Place → A) → Place → A
after_clobbers clobbers left c NoPlace = c NoPlace
after_clobbers clobbers left c (InRegister r) = if has_register clobbers r then left (InRegister r) else c (InRegister r)
after_clobbers clobbers left c (InSlot n) = c (InSlot n)

-- the moves that run before the last step of a path
abbrev pub moves_at : FunctionValue → OutputValue → Location → List MoveValue
moves_at f o l = map (λ e. e.1) (filter (λ e. is_listed_at (block_at f l.block).range.first l.inst e.0) o.edits)

-- who wrote each place last, if anyone, where an instruction's early uses are read, from before its moves
abbrev pub cells_early : FunctionValue → OutputValue → Location → (Place → Option Stamp) → Place → Option Stamp
cells_early f o l c = after_early_defs (λ p. None) (allocs_of o l.inst) 0 (inst_at f l.inst).operands (after_moves (moves_at f o l) c)

-- the same where its late uses are read, from where its early uses are read
abbrev pub cells_late : FunctionValue → OutputValue → Location → ℕ → (Place → Option Stamp) → Place → Option Stamp
cells_late f o l step c =
    after_clobbers (inst_at f l.inst).clobbers (λ p. None) (after_writes (write_at step) (allocs_of o l.inst) 0 (inst_at f l.inst).operands c)

-- the cells before the moves of the last step of a path; an edge changes nothing
unfoldable pub cells_before : FunctionValue → OutputValue → List Way → Place → Option Stamp
cells_before f o [] = λ p. None
cells_before f o (w ∷ ws) = cells_late f o (end_of f ws) (length ws) (cells_early f o (end_of f ws) (cells_before f o ws))

-- what the operand of an index reads at the last step of a path
abbrev pub allocated_read : FunctionValue → OutputValue → List Way → ℕ → OperandValue → Option Stamp
allocated_read f o ws k op =
    let early : Place → Option Stamp = cells_early f o (end_of f ws) (cells_before f o ws) in
    let place : Place = place_at (allocs_of o (end_of f ws).inst) k in
    read_of op.position (early place) (cells_late f o (end_of f ws) (length ws) early place)

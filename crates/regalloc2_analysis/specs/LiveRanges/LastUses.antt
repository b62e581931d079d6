-- What the backward walk notes of a number's uses, instruction by instruction.
use Rattle.std.specs.Prelude.{ℕ, ◌≡◌, ◌+◌, ◌<◌, ◌≤◌, List, length, slice_index_or, true, Option, None, Some, nat_eq, if◌then◌else◌}
use Rattle.regalloc2_names.specs.declared.OperandPos.{OperandPos}
use Rattle.regalloc2_names.specs.declared.OperandPos.TheVariants.{Early, Late}
use Rattle.regalloc2_names.specs.Operand.{OperandValue, is_reading}
use Rattle.regalloc2_names.specs.Register.{VirtualRegister, no_vreg}
use Rattle.regalloc2_names.specs.Place.{after, before}
use Rattle.regalloc2_function.specs.FunctionValue.{FunctionValue, block_at, inst_at, last_of, op_at}
use Rattle.regalloc2_semantics.specs.Runs.{arguments_at}
use Rattle.regalloc2_analysis.specs.declared.live_ranges.ends.RangeEnd.{RangeEnd}

-- what a table says of a number; nothing past its end
abbrev pub end_at : List (Option RangeEnd) → ℕ → Option RangeEnd
end_at t n = slice_index_or t n None

-- what becomes of an entry: it stays where there is one; else it is one that fits, or none where nothing is found
abbrev pub NotesRangeEnd : Type 0 → (RangeEnd → Type 0) → Option RangeEnd → Option RangeEnd → Type 0
NotesRangeEnd Found Fits (Some e) new = new ≡ Some e
NotesRangeEnd Found Fits None None = Found → ⊥
NotesRangeEnd Found Fits None (Some e) = Fits e

-- an operand reads the number at a position
pub record ReadsNumber (ops : List OperandValue) (n : ℕ) (at : OperandPos) (k : ℕ) : Type 0 where
  pub within : k < length ops
  pub reading : is_reading (op_at ops k) ≡ true
  pub position : (op_at ops k).position ≡ at
  pub number : (op_at ops k).vreg.number ≡ n

-- the first operand that reads the number at a position
pub record ReadsFirst (ops : List OperandValue) (n : ℕ) (at : OperandPos) (k : ℕ) : Type 0 where
  pub reads : ReadsNumber ops n at k
  pub first : (j : ℕ) → j < k → ReadsNumber ops n at j → ⊥

-- the point at which a read of an instruction ends
abbrev pub read_end : OperandPos → ℕ → ℕ
read_end Early i = after i
read_end Late i = before (i + 1)

-- the end of a read by the operand at k
abbrev pub end_of_reader : OperandPos → ℕ → ℕ → RangeEnd
end_of_reader at i k = record { last = read_end at i; by = Some (record { inst = i; index = k }) }

-- the end of an argument that an instruction passes
abbrev pub end_of_argument : ℕ → RangeEnd
end_of_argument i = record { last = before i; by = None }

-- the reads at a position are noted of the first m operands
abbrev pub NotesReads : OperandPos → ℕ → List OperandValue → ℕ → ℕ → Option RangeEnd → Option RangeEnd → Type 0
NotesReads at i ops m n = NotesRangeEnd ((k : ℕ) × (k < m) × ReadsNumber ops n at k) (λ e. (k : ℕ) × (k < m) × ReadsFirst ops n at k
    × (e ≡ end_of_reader at i k))

-- one of the first m vregs has the number
abbrev pub HasNumber : List VirtualRegister → ℕ → ℕ → Type 0
HasNumber vs m n = (k : ℕ) × (k < m) × (k < length vs) × ((slice_index_or vs k no_vreg).number ≡ n)

-- the first m arguments are noted
abbrev pub NotesArguments : ℕ → List VirtualRegister → ℕ → ℕ → Option RangeEnd → Option RangeEnd → Type 0
NotesArguments i vs m n = NotesRangeEnd (HasNumber vs m n) (λ e. HasNumber vs m n × (e ≡ end_of_argument i))

-- one of the first m successors is passed the number
abbrev pub HasPassed : FunctionValue → ℕ → ℕ → ℕ → Type 0
HasPassed f b m n = (s : ℕ) × (s < m) × HasNumber (arguments_at f b s) (length (arguments_at f b s)) n

-- the arguments for the first m successors are noted
abbrev pub NotesPassed : FunctionValue → ℕ → ℕ → ℕ → ℕ → Option RangeEnd → Option RangeEnd → Type 0
NotesPassed f b i m n = NotesRangeEnd (HasPassed f b m n) (λ e. HasPassed f b m n × (e ≡ end_of_argument i))

-- the instruction passes the number to a successor of its block
abbrev pub PassesNumber : FunctionValue → ℕ → ℕ → Type 0
PassesNumber f n i = (b : ℕ) × (b < length f.blocks) × (i ≡ last_of (block_at f b)) × HasPassed f b (length (block_at f b).succs) n

-- no operand of the instruction reads the number at a position
abbrev pub Unread : FunctionValue → ℕ → OperandPos → ℕ → Type 0
Unread f n at i = (k : ℕ) → ReadsNumber (inst_at f i).operands n at k → ⊥

-- the instruction reads or passes the number
pub data UsesNumber (f : FunctionValue) (n i : ℕ) : Type 0 where
  reads : (at : OperandPos) (k : ℕ) → i < length f.insts → ReadsNumber (inst_at f i).operands n at k → UsesNumber f n i
  passes : PassesNumber f n i → UsesNumber f n i

-- the end of the number's uses at the instruction
pub data EndsUse (f : FunctionValue) (n i : ℕ) : RangeEnd → Type 0 where
  late : (k : ℕ) → i < length f.insts → ReadsFirst (inst_at f i).operands n Late k → EndsUse f n i (end_of_reader Late i k)
  early : (k : ℕ) → i < length f.insts → Unread f n Late i → ReadsFirst (inst_at f i).operands n Early k → EndsUse f n i (end_of_reader Early i k)
  passed : Unread f n Late i → Unread f n Early i → PassesNumber f n i → EndsUse f n i (end_of_argument i)

-- an instruction's uses are noted
abbrev pub NotesUses : FunctionValue → ℕ → ℕ → Option RangeEnd → Option RangeEnd → Type 0
NotesUses f i n = NotesRangeEnd (UsesNumber f n i) (EndsUse f n i)

-- the end of what an instruction defines, where its last use from there on was noted; a use at the instruction is an argument that it passes itself
abbrev pub end_behind : ℕ → Option RangeEnd → RangeEnd → RangeEnd
end_behind i None unused = unused
end_behind i (Some e) unused = if nat_eq e.last (before i) then unused else e

-- the last of the number's uses from an instruction on
abbrev pub EndsFrom : FunctionValue → ℕ → ℕ → Option RangeEnd → Type 0
EndsFrom f i n None = (j : ℕ) → i ≤ j → UsesNumber f n j → ⊥
EndsFrom f i n (Some e) = (j : ℕ) × (i ≤ j) × EndsUse f n j e × ((m : ℕ) → j < m → UsesNumber f n m → ⊥)

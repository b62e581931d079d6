-- The parts of the lists of definitions and uses, the table of definitions by number, and what the parts of the two tests
-- on definitions say.
use Rattle.std.specs.Prelude.{ℕ, ◌≡◌, ◌≢◌, ◌<◌, ◌≤◌, ◌⊎◌, List, [], ◌∷◌, ◌++◌, length, slice_index_or, slice_set, Option, None, Some}
use Rattle.std.specs.Prelude.{count_by, filter_map, flat_map, if◌then◌else◌, map, nat_eq}
use Rattle.regalloc2_index.specs.Range.{invalid_number, numbers_from, numbers_of}
use Rattle.regalloc2_names.specs.Register.{VirtualRegister}
use Rattle.regalloc2_names.specs.declared.RegAllocError.{RegAllocError}
use Rattle.regalloc2_names.specs.declared.RegAllocError.TheVariants.{SSA}
use Rattle.regalloc2_names.specs.Operand.{OperandValue, is_def, is_reading}
use Rattle.regalloc2_names.specs.Place.{before, after}
use Rattle.regalloc2_function.specs.FunctionValue.{FunctionValue, BlockValue, inst_at, last_of}
use Rattle.regalloc2_function.specs.Reasons.{Site, IsFirstIn}
use Rattle.regalloc2_function.specs.declared.ssa.Definition.{Definition}

-- a parameter of a block that begins at an instruction
abbrev pub param_definition : ℕ → VirtualRegister → Site
param_definition first v = record { vreg = v; inst = invalid_number; point = before first }

-- the definition that an operand of an instruction makes, if it does
abbrev pub operand_definition : ℕ → OperandValue → Option Site
operand_definition i o = if is_def o.kind then Some (record { vreg = o.vreg; inst = i; point = after i }) else None

-- an instruction's definitions, in operand order
abbrev pub inst_definitions : FunctionValue → ℕ → List Site
inst_definitions f i = filter_map (operand_definition i) (inst_at f i).operands

-- a block's definitions: its parameters, then the definitions of its instructions
abbrev pub block_definitions : FunctionValue → BlockValue → List Site
block_definitions f b = map (param_definition b.range.first) b.params ++ flat_map (inst_definitions f) (numbers_of b.range)

-- how many of the definitions are of a vreg of a number
abbrev pub definitions_among : List Site → ℕ → ℕ
definitions_among ds n = count_by (λ d. nat_eq d.vreg.number n) ds

-- the read that an operand of an instruction makes, if it does
abbrev pub operand_read : ℕ → OperandValue → Option Site
operand_read i o = if is_reading o then Some (record { vreg = o.vreg; inst = i; point = before i }) else None

-- an instruction's reads, in operand order
abbrev pub inst_reads : FunctionValue → ℕ → List Site
inst_reads f i = filter_map (operand_read i) (inst_at f i).operands

-- an argument that an instruction passes
abbrev pub argument_use : ℕ → VirtualRegister → Site
argument_use i v = record { vreg = v; inst = i; point = after i }

-- the arguments that a block passes to its successor at a position
abbrev pub passed_at : BlockValue → ℕ → List Site
passed_at b k = map (argument_use (last_of b)) (slice_index_or b.arguments k [])

-- a block's uses: what its instructions read, then what it passes to its successors in turn
abbrev pub block_uses : FunctionValue → BlockValue → List Site
block_uses f b = flat_map (inst_reads f) (numbers_of b.range) ++ flat_map (passed_at b) (numbers_from 0 (length b.succs))

-- the table by number
abbrev pub Table : Type 0
Table = List (Option Definition)

-- what a table says of a number; nothing past its end
abbrev pub entry_of : Table → ℕ → Option Definition
entry_of t n = slice_index_or t n None

-- what the table keeps of a definition
abbrev pub kept_of : Site → Definition
kept_of d = record { class = d.vreg.class; usable = d.point }

-- each of these definitions is noted in turn, at a number that is free
pub data NotesDefinitions (before : Table) : List Site → Table → Type 0 where
  none : NotesDefinitions before [] before
  more : {ds : List Site} {after : Table} (d : Site) → NotesDefinitions before ds after → d.vreg.number < length after →
      entry_of after d.vreg.number ≡ None →
      NotesDefinitions before (ds ++ d ∷ []) (slice_set after d.vreg.number (Some (kept_of d)))

-- a number is too large for the table, or is defined there
abbrev pub IsNumberTaken : Table → VirtualRegister → Type 0
IsNumberTaken t v = (length t ≤ v.number) ⊎ (entry_of t v.number ≢ None)

-- the first of these definitions whose number is taken when its turn comes
pub record IsFirstNumberTaken (before : Table) (ds : List Site) (d : Site) : Type 0 where
  pub earlier : List Site
  pub later : List Site
  pub marks : Table
  pub is : ds ≡ earlier ++ d ∷ later
  pub noted : NotesDefinitions before earlier marks
  pub taken : IsNumberTaken marks d.vreg

-- the error names that definition
abbrev pub NamesTaken : Table → List Site → RegAllocError → Type 0
NamesTaken before ds e = (d : Site) × (e ≡ SSA d.vreg d.inst) × IsFirstNumberTaken before ds d

-- by the table, the vreg is defined in number and class, by that point
abbrev pub IsDefinedInTable : Table → VirtualRegister → ℕ → Type 0
IsDefinedInTable t v point = (e : Definition) × (entry_of t v.number ≡ Some e) × (e.class ≡ v.class) × (e.usable ≤ point)

-- by the table, the used vreg is defined where it is used
abbrev pub IsUsable : Table → Site → Type 0
IsUsable t u = IsDefinedInTable t u.vreg u.point

-- the error names the first of these uses that isn't usable
abbrev pub NamesUnusable : Table → List Site → RegAllocError → Type 0
NamesUnusable t us e = (u : Site) × (e ≡ SSA u.vreg u.inst) × IsFirstIn (IsUsable t) us u

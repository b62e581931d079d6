-- Two plain interpreters of a function: one keeps a number for each vreg, the other a number for each place.
-- This project's own: what instructions compute and where branches go is left open.
use Rattle.std.specs.Prelude.{ℕ, zero, suc, ◌+◌, ◌&&◌, nat_eq, nat_lt, if◌then◌else◌, Bool, List, [], ◌∷◌, length, Option, None, Some}
use Rattle.std.specs.Prelude.{option_map, option_and_then}
use Rattle.regalloc2_names.specs.Register.{VirtualRegister}
use Rattle.regalloc2_names.specs.Operand.{OperandValue, is_late, is_reading}
use Rattle.regalloc2_names.specs.Place.{Place}
use Rattle.regalloc2_function.specs.FunctionValue.{FunctionValue, block_at, inst_at}
use Rattle.regalloc2_function.specs.OutputValue.{OutputValue, allocs_of, place_at}
use Rattle.regalloc2_semantics.specs.Runs.{Way, Onward, ToSuccessor, Location, first_of, next_of, moves_at, after_clobbers, after_defs, after_early_defs, after_moves, after_writes, over_edge}

-- what a run has read so far: each step's instruction and the numbers that it read, the last step first
abbrev pub History : Type 0
History = List (ℕ × List ℕ)

-- An interpretation: what instructions do, given what was read up to their step and at it. writes gives the number written to the operand of an index; takes
-- gives the position of the successor that a branch takes, or none where the run ends. Memory and other state are functions of what was read.
pub record InstMeaning : Type 0 where
  pub writes : History → ℕ → ℕ
  pub takes : History → Option ℕ

-- where a run is, what it has read, and its numbers
pub record State (Key : Type 0) : Type 0 where
  pub at : Location
  pub history : History
  pub numbers : Key → ℕ

-- the numbers of the operands that are read, in operand order from index k on
unfoldable pub read_by : (OperandValue → Bool) → (ℕ → OperandValue → ℕ) → ℕ → List OperandValue → List ℕ
read_by is_read number k [] = []
read_by is_read number k (o ∷ os) = if is_read o then number k o ∷ read_by is_read number (k + 1) os else read_by is_read number (k + 1) os

abbrev pub is_late_use : OperandValue → Bool
is_late_use o = is_reading o && is_late o.position

-- the edge from a block's last instruction to the successor taken, if there is that successor
abbrev pub edge_to : ℕ → Option ℕ → Option Way
edge_to count None = None
edge_to count (Some k) = if nat_lt k count then Some (ToSuccessor k) else None

-- how a run goes on from an instruction: to the next one of the block, or from the last one to the successor taken
abbrev pub way_on : FunctionValue → Location → Option ℕ → Option Way
way_on f l taken =
    if nat_lt (l.inst + 1) (block_at f l.block).range.end then Some Onward
    else if nat_eq (l.inst + 1) (block_at f l.block).range.end then edge_to (length (block_at f l.block).succs) taken else None

-- The interpreter over vregs.
module _ (f : FunctionValue) (meaning : InstMeaning) where
  -- the numbers that an instruction reads, and the history with them
  abbrev pub vreg_reads : State VirtualRegister → List ℕ
  vreg_reads c = read_by is_reading (λ k o. c.numbers o.vreg) 0 (inst_at f c.at.inst).operands

  abbrev pub source_told : State VirtualRegister → History
  source_told c = (c.at.inst, vreg_reads c) ∷ c.history

  -- the numbers after the instruction's definitions
  abbrev pub vreg_written : State VirtualRegister → VirtualRegister → ℕ
  vreg_written c = after_defs (meaning.writes (source_told c)) 0 (inst_at f c.at.inst).operands c.numbers

  -- one step further; an edge passes what the arguments have after the definitions
  abbrev pub source_step : State VirtualRegister → Option (State VirtualRegister)
  source_step c = option_map (λ w. record { at = next_of f c.at w; history = source_told c; numbers = over_edge f c.at w (vreg_written c) })
      (way_on f c.at (meaning.takes (source_told c)))

  -- the state after a number of steps from the entry, with any initial numbers in the vregs; none once the run has ended
  unfoldable pub source_run : (VirtualRegister → ℕ) → ℕ → Option (State VirtualRegister)
  source_run start zero = Some (record { at = first_of f f.entry; history = []; numbers = start })
  source_run start (suc n) = option_and_then source_step (source_run start n)

-- The interpreter over places. Noise is what an instruction may leave in the places of early definitions while it reads, and in clobbered registers.
module _ (f : FunctionValue) (out : OutputValue) (meaning : InstMeaning) (noise : History → Place → ℕ) where
  -- the numbers that an instruction finds: its moves have run, and early definitions may have been written
  abbrev pub place_found : State Place → Place → ℕ
  place_found c = after_early_defs (noise c.history) (allocs_of out c.at.inst) 0 (inst_at f c.at.inst).operands (after_moves (moves_at f out c.at) c.numbers)

  -- the numbers that it reads, in the places of its uses, and the history with them
  abbrev pub place_reads : State Place → List ℕ
  place_reads c = read_by is_reading (λ k o. place_found c (place_at (allocs_of out c.at.inst) k)) 0 (inst_at f c.at.inst).operands

  abbrev pub place_told : State Place → History
  place_told c = (c.at.inst, place_reads c) ∷ c.history

  -- the numbers after its definitions and clobbers
  abbrev pub place_written : State Place → Place → ℕ
  place_written c = after_clobbers (inst_at f c.at.inst).clobbers (noise (place_told c))
      (after_writes (meaning.writes (place_told c)) (allocs_of out c.at.inst) 0 (inst_at f c.at.inst).operands (place_found c))

  -- one step further; on an edge no place changes
  abbrev pub place_step : State Place → Option (State Place)
  place_step c = option_map (λ w. record { at = next_of f c.at w; history = place_told c; numbers = place_written c })
      (way_on f c.at (meaning.takes (place_told c)))

  -- the state after a number of steps from the entry, with any initial numbers in the places; none once the run has ended
  unfoldable pub place_run : (Place → ℕ) → ℕ → Option (State Place)
  place_run start zero = Some (record { at = first_of f f.entry; history = []; numbers = start })
  place_run start (suc n) = option_and_then place_step (place_run start n)

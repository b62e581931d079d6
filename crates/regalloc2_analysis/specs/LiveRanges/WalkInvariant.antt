-- What holds of both tables while the walk goes backward.
use Rattle.std.specs.Prelude.{ℕ, ◌≡◌, ◌≢◌, ◌<◌, ◌≤◌, ◌⊎◌, List, length, slice_index_or, Contains, Option, None, Some, nat_eq, if◌then◌else◌}
use Rattle.regalloc2_names.specs.declared.OperandPos.{OperandPos}
use Rattle.regalloc2_names.specs.Register.{VirtualRegister}
use Rattle.regalloc2_function.specs.FunctionValue.{FunctionValue, block_at, inst_at, op_at}
use Rattle.regalloc2_semantics.specs.Live.{DefinesAt}
use Rattle.regalloc2_semantics.specs.Debug.{UsesAt}
use Rattle.regalloc2_function.specs.Inside.TableLength.{CoversDefinitions}
use Rattle.regalloc2_analysis.specs.declared.live_ranges.ends.RangeEnd.{RangeEnd}
use Rattle.regalloc2_analysis.specs.declared.live_ranges.LiveRange.{LiveRange}
use Rattle.regalloc2_analysis.specs.LiveRanges.LiveRanges.{IsLiveRange, range_at}
use Rattle.regalloc2_analysis.specs.LiveRanges.LastUses.{EndsFrom, ReadsNumber, UsesNumber, end_at}

-- each entry is the live range of a vreg of its number
abbrev pub AreRight : FunctionValue → List (Option LiveRange) → Type 0
AreRight f t = (n : ℕ) (r : LiveRange) → range_at t n ≡ Some r → (r.vreg.number ≡ n) × IsLiveRange f r

-- entries stay
abbrev pub Stay : List (Option LiveRange) → List (Option LiveRange) → Type 0
Stay old new = (n : ℕ) → range_at old n ≢ None → range_at new n ≢ None

-- for each requested number, its last use from an instruction on is noted
abbrev pub AreEndsFrom : FunctionValue → (ℕ → Type 0) → ℕ → List (Option RangeEnd) → Type 0
AreEndsFrom f Asked i t = (n : ℕ) → n < length t → Asked n → EndsFrom f i n (end_at t n)

-- the instructions from i on are walked, and the beginnings of the blocks from b on
pub record AreRangesWalked (f : FunctionValue) (Asked : ℕ → Type 0) (i b : ℕ) (ends : List (Option RangeEnd)) (ranges : List (Option LiveRange)) : Type 0 where
  pub ends_room : CoversDefinitions f (length ends)
  pub ranges_room : CoversDefinitions f (length ranges)
  pub noted : AreEndsFrom f Asked i ends
  pub right : AreRight f ranges
  pub defined : (v : VirtualRegister) (j : ℕ) → i ≤ j → Asked v.number → DefinesAt f v j → range_at ranges v.number ≢ None
  pub taken : (v : VirtualRegister) (c j : ℕ) → b ≤ c → c < length f.blocks → Asked v.number → Contains (block_at f c).params v → UsesAt f v j →
      range_at ranges v.number ≢ None

-- no operand of an instruction names a requested number
abbrev pub NamesNoAsked : FunctionValue → (ℕ → Type 0) → ℕ → Type 0
NamesNoAsked f Asked i = (k : ℕ) → k < length (inst_at f i).operands → Asked (op_at (inst_at f i).operands k).vreg.number → ⊥

-- the instructions below i that name a requested number are the first `many` of a list, in order
pub record AreNamers (f : FunctionValue) (Asked : ℕ → Type 0) (named : List ℕ) (many i : ℕ) : Type 0 where
  pub within : many ≤ length named
  pub rising : (j k : ℕ) → j < k → k < many → slice_index_or named j 0 < slice_index_or named k 0
  pub below : (j : ℕ) → j < many → slice_index_or named j 0 < i
  pub names : (j : ℕ) → j < many → NamesNoAsked f Asked (slice_index_or named j 0) → ⊥
  pub all : (k : ℕ) → k < i → NamesNoAsked f Asked k ⊎ ((j : ℕ) × (j < many) × (slice_index_or named j 0 ≡ k))

-- an instruction adds nothing to the live ranges of requested numbers: it defines none of them, and each that its operands read is used later, too
pub record AddsNothing (f : FunctionValue) (Asked : ℕ → Type 0) (i : ℕ) : Type 0 where
  pub defines : (v : VirtualRegister) → Asked v.number → DefinesAt f v i → ⊥
  pub reads : (n : ℕ) (at : OperandPos) (k : ℕ) → Asked n → ReadsNumber (inst_at f i).operands n at k → ((j : ℕ) → i < j → UsesNumber f n j → ⊥) → ⊥

-- the instructions below i that may add something are among the first `many` of a list, in order; others may be among them
pub record ListsAdding (f : FunctionValue) (Asked : ℕ → Type 0) (named : List ℕ) (many i : ℕ) : Type 0 where
  pub within : many ≤ length named
  pub rising : (j k : ℕ) → j < k → k < many → slice_index_or named j 0 < slice_index_or named k 0
  pub below : (j : ℕ) → j < many → slice_index_or named j 0 < i
  pub all : (k : ℕ) → k < i → AddsNothing f Asked k ⊎ ((j : ℕ) × (j < many) × (slice_index_or named j 0 ≡ k))

-- where a block begins, and past the last block where the instructions end
abbrev pub begin_of : FunctionValue → ℕ → ℕ
begin_of f b = if nat_eq b (length f.blocks) then length f.insts else (block_at f b).range.first

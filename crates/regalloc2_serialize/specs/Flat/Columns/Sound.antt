-- The tests of columns, and the error for columns that fail one.
use Rattle.std.specs.Prelude.{ℕ, ◌≡◌, ◌+◌, ◌-◌, ◌*◌, ◌/◌, ◌%◌, ◌<◌, ◌≤◌, ◌^◌, List, ◌∷◌, length, slice_index, All}
use Rattle.regalloc2_names.specs.Packing.{IsRegisterIndex, IsVRegBits, IsOperandBits}
use Rattle.regalloc2_function.specs.declared.serialize.StoredFault.{StoredFault}
use Rattle.regalloc2_function.specs.declared.serialize.StoredFault.TheVariants.{Lengths, Index, Bits, Limit, Memory, Shape}
use Rattle.regalloc2_serialize.specs.Flat.Columns.Layout.{AreInColumns, header_of, scratch_words, slot_words, kind_words, operand_ends, operand_words, inst_ends}
use Rattle.regalloc2_serialize.specs.Flat.Columns.Layout.{pred_ends, succ_ends, param_ends, pred_words, succ_words, param_words, argument_ends, argument_words}
use Rattle.regalloc2_serialize.specs.Flat.Columns.Layout.{label_words, int_log, float_log, vector_log, most_log}
use Rattle.regalloc2_serialize.specs.Flat.Columns.Value.{long_at}

-- ends don't fall, and the last one, or 0 where there is none, is a column's length
pub record Covers (ends : List ℕ) (count : ℕ) : Type 0 where
  pub rises : (k : ℕ) → k < length ends → slice_index (0 ∷ ends) k ≤ slice_index (0 ∷ ends) (k + 1)
  pub last : slice_index (0 ∷ ends) (length ends) ≡ count

-- each column of ends covers its column
pub record AllCovered (words : List ℕ) : Type 0 where
  pub operands : Covers (operand_ends words) (header_of words).operands
  pub insts : Covers (inst_ends words) (header_of words).insts
  pub preds : Covers (pred_ends words) (header_of words).preds
  pub succs : Covers (succ_ends words) (header_of words).edges
  pub params : Covers (param_ends words) (header_of words).params
  pub arguments : Covers (argument_ends words) (header_of words).arguments

-- blocks, sets of clobbers and labelled vregs are in range
pub record AreColumnsWithin (words : List ℕ) : Type 0 where
  pub entry : (header_of words).entry < (header_of words).blocks
  pub preds : All (λ b. b < (header_of words).blocks) (pred_words words)
  pub succs : All (λ b. b < (header_of words).blocks) (succ_words words)
  pub sets : All (λ k. k / 4 ≤ (header_of words).sets) (kind_words words)
  pub labels : (k : ℕ) → k < (header_of words).labels → slice_index (label_words words) (4 * k) / 4 < (header_of words).vregs

-- a machine's numbers are indexes of registers
pub record ColumnsNameRegisters (words : List ℕ) : Type 0 where
  pub scratch : All (λ r. r ≤ 192) (scratch_words words)
  pub slots : All IsRegisterIndex (slot_words words)

-- the numbers of parameters, arguments and labels encode vregs
pub record ColumnsNameVRegs (words : List ℕ) : Type 0 where
  pub params : All IsVRegBits (param_words words)
  pub arguments : All IsVRegBits (argument_words words)
  pub labels : (k : ℕ) → k < (header_of words).labels → IsVRegBits (slice_index (label_words words) (4 * k))

-- each number that should be a name is one
pub record ColumnsNameAll (words : List ℕ) : Type 0 where
  pub registers : ColumnsNameRegisters words
  pub kinds : All (λ k. k % 4 < 3) (kind_words words)
  pub operands : (k : ℕ) → k < (header_of words).operands → IsOperandBits (long_at (operand_words words) k)
  pub vregs : ColumnsNameVRegs words

-- the limits of each function
pub record ColumnsKeepLimits (words : List ℕ) : Type 0 where
  pub insts : (header_of words).insts < 2 ^ 30
  pub blocks : (header_of words).blocks < 2 ^ 32 - 1
  pub vregs : (header_of words).vregs < 2 ^ 30
  pub int : int_log (header_of words).sizes ≤ most_log
  pub float : float_log (header_of words).sizes ≤ most_log
  pub vector : vector_log (header_of words).sizes ≤ most_log

-- what lays out a function
pub record AreSoundColumns (words : List ℕ) : Type 0 where
  pub laid_out : AreInColumns words
  pub covered : AllCovered words
  pub within : AreColumnsWithin words
  pub names : ColumnsNameAll words
  pub limits : ColumnsKeepLimits words

-- the error for `words`: the first of five tests that fails, or out of memory if they pass all
abbrev pub IsColumnsFault : List ℕ → StoredFault → Type 0
IsColumnsFault words Shape = AreInColumns words → ⊥
IsColumnsFault words Lengths = AreInColumns words × (AllCovered words → ⊥)
IsColumnsFault words Index = AreInColumns words × AllCovered words × (AreColumnsWithin words → ⊥)
IsColumnsFault words Bits = AreInColumns words × AllCovered words × AreColumnsWithin words × (ColumnsNameAll words → ⊥)
IsColumnsFault words Limit = AreInColumns words × AllCovered words × AreColumnsWithin words × ColumnsNameAll words × (ColumnsKeepLimits words → ⊥)
IsColumnsFault words Memory = AreSoundColumns words

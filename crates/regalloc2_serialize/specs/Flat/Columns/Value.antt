-- The function and the machine that columns lay out.
use Rattle.std.specs.Prelude.{ℕ, zero, suc, ◌≡◌, ◌+◌, ◌-◌, ◌*◌, ◌/◌, ◌%◌, ◌<◌, ◌^◌, Bool, false, ◌&&◌, nat_eq, nat_lt, Option, None, Some, List, ◌∷◌, length}
use Rattle.std.specs.Prelude.{map, slice_index, slice_index_or, slice_range}
use Rattle.std.specs.Int.{bit_at}
use Rattle.std.specs.List.{range_with_len}
use Rattle.regalloc2_names.specs.Register.{Register, VirtualRegister, has_register, empty_set}
use Rattle.regalloc2_names.specs.RegisterBits.{register_of_bits, bits_of_register, vreg_of_bits}
use Rattle.regalloc2_names.specs.Packing.{operand_of_bits}
use Rattle.regalloc2_names.specs.Operand.{OperandValue}
use Rattle.regalloc2_names.specs.declared.sets.PRegSet.{PRegSet}
use Rattle.regalloc2_function.specs.FunctionValue.{FunctionValue, BlockValue, InstValue, SlotSizes, Label}
use Rattle.regalloc2_function.specs.Machine.{MachineValue}
use Rattle.regalloc2_serialize.specs.Flat.Columns.Layout.{header_of, preferred_words, non_preferred_words, scratch_words, slot_words, set_words, kind_words}
use Rattle.regalloc2_serialize.specs.Flat.Columns.Layout.{operand_ends, operand_words, inst_ends, pred_ends, succ_ends, param_ends, pred_words, succ_words}
use Rattle.regalloc2_serialize.specs.Flat.Columns.Layout.{param_words, argument_ends, argument_words, label_words, int_log, float_log, vector_log}

-- what columns list, and the bounds between which the members of an instruction, a block or an edge lie: from bound
-- `k` up to bound `k + 1` for number `k`
pub record Columns : Type 0 where
  pub kinds : List ℕ
  pub sets : List PRegSet
  pub operands : List OperandValue
  pub operand_bounds : List ℕ
  pub inst_bounds : List ℕ
  pub preds : List ℕ
  pub pred_bounds : List ℕ
  pub succs : List ℕ
  pub succ_bounds : List ℕ
  pub params : List VirtualRegister
  pub param_bounds : List ℕ
  pub arguments : List VirtualRegister
  pub argument_bounds : List ℕ

-- part `k`
abbrev pub part : {X : Type 0} → List X → List ℕ → ℕ → List X
part items bounds k = slice_range items (slice_index bounds k) (slice_index bounds (k + 1))

-- the numbers of the members of part `k`
abbrev pub part_numbers : List ℕ → ℕ → List ℕ
part_numbers bounds k = range_with_len (slice_index bounds k) (slice_index bounds (k + 1) - slice_index bounds k)

-- an instruction
abbrev pub column_inst : Columns → ℕ → InstValue
column_inst c i = record {
  operands = part c.operands c.operand_bounds i;
  clobbers = slice_index_or c.sets (slice_index c.kinds i / 4) empty_set;
  is_branch = nat_eq (slice_index c.kinds i % 4) 2;
  is_ret = nat_eq (slice_index c.kinds i % 4) 1;
}

-- a block; each of its edges has its arguments
abbrev pub column_block : Columns → ℕ → BlockValue
column_block c b = record {
  range = record { first = slice_index c.inst_bounds b; end = slice_index c.inst_bounds (b + 1) };
  succs = part c.succs c.succ_bounds b;
  preds = part c.preds c.pred_bounds b;
  params = part c.params c.param_bounds b;
  arguments = map (part c.arguments c.argument_bounds) (part_numbers c.succ_bounds b);
}

abbrev pub column_blocks : Columns → List BlockValue
column_blocks c = map (column_block c) (range_with_len 0 (length c.inst_bounds - 1))

abbrev pub column_insts : Columns → List InstValue
column_insts c = map (column_inst c) (range_with_len 0 (length c.kinds))

-- a number of 64 bits is two words, the lower one first
abbrev pub long_at : List ℕ → ℕ → ℕ
long_at words k = slice_index words (2 * k) + slice_index words (2 * k + 1) * 2 ^ 32

abbrev pub longs : List ℕ → ℕ → List ℕ
longs words count = map (long_at words) (range_with_len 0 count)

-- a label is four words
abbrev pub label_at : List ℕ → ℕ → Label
label_at words k = record {
  vreg = vreg_of_bits (slice_index words (4 * k));
  start = slice_index words (4 * k + 1);
  end = slice_index words (4 * k + 2);
  label = slice_index words (4 * k + 3);
}

-- the columns of `words`, with the sets of clobbers `sets`
abbrev pub columns_of : List ℕ → List PRegSet → Columns
columns_of words sets = record {
  kinds = kind_words words;
  sets = sets;
  operands = map operand_of_bits (longs (operand_words words) (header_of words).operands);
  operand_bounds = 0 ∷ operand_ends words;
  inst_bounds = 0 ∷ inst_ends words;
  preds = pred_words words;
  pred_bounds = 0 ∷ pred_ends words;
  succs = succ_words words;
  succ_bounds = 0 ∷ succ_ends words;
  params = map vreg_of_bits (param_words words);
  param_bounds = 0 ∷ param_ends words;
  arguments = map vreg_of_bits (argument_words words);
  argument_bounds = 0 ∷ argument_ends words;
}

-- the sizes of slots by class
abbrev pub column_sizes : ℕ → SlotSizes
column_sizes sizes = record { int = 2 ^ int_log sizes; float = 2 ^ float_log sizes; vector = 2 ^ vector_log sizes }

-- the function that `words` lay out, with the sets of clobbers `sets`
abbrev pub function_in_columns : List ℕ → List PRegSet → FunctionValue
function_in_columns words sets = record {
  blocks = column_blocks (columns_of words sets);
  insts = column_insts (columns_of words sets);
  entry = (header_of words).entry;
  num_vregs = (header_of words).vregs;
  slot_sizes = column_sizes (header_of words).sizes;
  named_by_last_slot = nat_eq ((header_of words).flags % 2) 1;
  labels = map (label_at (label_words words)) (range_with_len 0 (header_of words).labels);
  allows_multiple_defs = nat_eq ((header_of words).flags / 2) 1;
}

-- whether the bit of the register `index` is 1 in six words: the bit is in word `index / 32`
abbrev pub is_bit_set : List ℕ → ℕ → Bool
is_bit_set bits index = nat_eq (bit_at (slice_index bits (index / 32)) (index % 32)) 1

abbrev pub HasBits : List ℕ → PRegSet → Type 0
HasBits bits s = (r : Register) → has_register s r ≡ nat_lt r.number 64 && is_bit_set bits (bits_of_register r)

-- the six words of set `k`
abbrev pub set_words_at : List ℕ → ℕ → List ℕ
set_words_at words k = slice_range words (6 * k) (6 * k + 6)

-- `sets` are the `count` sets of `words`, six words each
pub record HaveBits (words : List ℕ) (count : ℕ) (sets : List PRegSet) : Type 0 where
  pub count_is : length sets ≡ count
  pub each : (k : ℕ) → k < count → HasBits (set_words_at words k) (slice_index_or sets k empty_set)

-- `sets` are the empty set, with the number 0, and the `count` sets of `words`, six words each
pub record AreNumbered (words : List ℕ) (count : ℕ) (sets : List PRegSet) : Type 0 where
  pub count_is : length sets ≡ count + 1
  pub none : (r : Register) → has_register (slice_index_or sets 0 empty_set) r ≡ false
  pub each : (k : ℕ) → k < count → HasBits (set_words_at words k) (slice_index_or sets (k + 1) empty_set)

-- the function that words lay out
pub record IsLaidOutAs (words : List ℕ) (f : FunctionValue) : Type 0 where
  pub sets : List PRegSet
  pub numbered : AreNumbered (set_words words) (header_of words).sets sets
  pub is : f ≡ function_in_columns words sets

abbrev pub scratch_of_word : ℕ → Option Register
scratch_of_word zero = None
scratch_of_word (suc n) = Some (register_of_bits n)

-- the machine that words lay out
pub record IsMachineOf (words : List ℕ) (m : MachineValue) : Type 0 where
  pub preferred : HaveBits (preferred_words words) 3 m.preferred
  pub non_preferred : HaveBits (non_preferred_words words) 3 m.non_preferred
  pub scratch : m.scratch ≡ map scratch_of_word (scratch_words words)
  pub fixed_stack_slots : m.fixed_stack_slots ≡ map register_of_bits (slot_words words)

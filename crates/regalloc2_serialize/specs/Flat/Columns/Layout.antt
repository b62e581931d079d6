-- Where the columns of a function lie among its words: a header, and then 18 columns that follow one another.
use Rattle.std.specs.Prelude.{ℕ, ◌≡◌, ◌+◌, ◌*◌, ◌/◌, ◌%◌, ◌<◌, ◌^◌, List, [], ◌∷◌, length, take, slice_index, slice_range, sum}
use Rattle.regalloc2_serialize.specs.declared.flat.columns.cut.Header.{Header}

-- the header: 2, the number of this layout, and 14 numbers
abbrev pub header_of : List ℕ → Header
header_of words = record {
  entry = slice_index words 1;
  insts = slice_index words 2;
  blocks = slice_index words 3;
  operands = slice_index words 4;
  sets = slice_index words 5;
  edges = slice_index words 6;
  preds = slice_index words 7;
  params = slice_index words 8;
  arguments = slice_index words 9;
  vregs = slice_index words 10;
  labels = slice_index words 11;
  slots = slice_index words 12;
  flags = slice_index words 13;
  sizes = slice_index words 14;
}

-- the logarithms of the sizes of slots by class, in bits 0 to 7, 8 to 15 and 16 to 23 of `sizes`
abbrev pub int_log : ℕ → ℕ
int_log sizes = sizes % 256

abbrev pub float_log : ℕ → ℕ
float_log sizes = sizes / 256 % 256

abbrev pub vector_log : ℕ → ℕ
vector_log sizes = sizes / 65536

-- the logarithm of the largest size
abbrev pub most_log : ℕ
most_log = 24

-- how many words the header takes, and then each column
abbrev pub widths : Header → List ℕ
widths h = 15 ∷ 18 ∷ 18 ∷ 3 ∷ h.slots ∷ (6 * h.sets) ∷ h.insts ∷ h.insts ∷ (2 * h.operands) ∷ h.blocks ∷ h.blocks ∷ h.blocks ∷ h.blocks ∷ h.preds ∷ h.edges
    ∷ h.params ∷ h.edges ∷ h.arguments ∷ (4 * h.labels) ∷ []

-- column `k`, which begins where column `k - 1` ends
abbrev pub column : List ℕ → ℕ → List ℕ
column words k = slice_range words (sum (take k (widths (header_of words)))) (sum (take (k + 1) (widths (header_of words))))

-- the machine: for each class a set of preferred registers, and one of non-preferred ones, six words each
abbrev pub preferred_words : List ℕ → List ℕ
preferred_words words = column words 1

abbrev pub non_preferred_words : List ℕ → List ℕ
non_preferred_words words = column words 2

-- for each class its scratch register: 0 for none, or 1 more than an index
abbrev pub scratch_words : List ℕ → List ℕ
scratch_words words = column words 3

-- fixed stack slots, as indexes of registers
abbrev pub slot_words : List ℕ → List ℕ
slot_words words = column words 4

-- sets of clobbered registers, six words each
abbrev pub set_words : List ℕ → List ℕ
set_words words = column words 5

-- for each instruction what it is (0, or 1 for a return, 2 for a branch), and 4 times the number of its set of
-- clobbers, from 1, or 0 for none
abbrev pub kind_words : List ℕ → List ℕ
kind_words words = column words 6

-- for each instruction where its operands end, and the operands, two words each, the lower one first
abbrev pub operand_ends : List ℕ → List ℕ
operand_ends words = column words 7

abbrev pub operand_words : List ℕ → List ℕ
operand_words words = column words 8

-- for each block where its instructions end, its predecessors, its edges (its successors) and its parameters
abbrev pub inst_ends : List ℕ → List ℕ
inst_ends words = column words 9

abbrev pub pred_ends : List ℕ → List ℕ
pred_ends words = column words 10

abbrev pub succ_ends : List ℕ → List ℕ
succ_ends words = column words 11

abbrev pub param_ends : List ℕ → List ℕ
param_ends words = column words 12

-- the predecessors, the successors and the parameters of all blocks
abbrev pub pred_words : List ℕ → List ℕ
pred_words words = column words 13

abbrev pub succ_words : List ℕ → List ℕ
succ_words words = column words 14

abbrev pub param_words : List ℕ → List ℕ
param_words words = column words 15

-- for each edge where its arguments end, and the arguments
abbrev pub argument_ends : List ℕ → List ℕ
argument_ends words = column words 16

abbrev pub argument_words : List ℕ → List ℕ
argument_words words = column words 17

-- labels, four words each: a vreg, the first instruction, the end, and the label
abbrev pub label_words : List ℕ → List ℕ
label_words words = column words 18

-- `words` are a header and its columns, and no more
pub record AreInColumns (words : List ℕ) : Type 0 where
  pub layout : slice_index words 0 ≡ 2
  pub count : length words ≡ sum (widths (header_of words))
  pub flags : (header_of words).flags < 4
  pub sizes : (header_of words).sizes < 2 ^ 24

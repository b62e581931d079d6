-- What the tables hold that are read from columns.
use Rattle.std.specs.Prelude.{ℕ, List, ◌≡◌, ◌∷◌, map}
use Rattle.regalloc2_names.specs.Packing.{operand_of_bits, vreg_of_bits}
use Rattle.regalloc2_serialize.specs.Flat.Columns.Layout.{header_of, set_words, kind_words, operand_ends, operand_words, pred_ends, succ_ends}
use Rattle.regalloc2_serialize.specs.Flat.Columns.Layout.{param_ends, pred_words, succ_words, param_words, argument_ends, argument_words}
use Rattle.regalloc2_serialize.specs.Flat.Columns.Value.{AreNumbered, longs}
use Rattle.regalloc2_serialize.specs.declared.flat.columns.read.InstTables.{InstTables}
use Rattle.regalloc2_serialize.specs.declared.flat.columns.read.EdgeTables.{EdgeTables}

-- `t` holds the columns of instructions of `words`
pub record AreInstTables {A : Type 0} (words : List ℕ) (t : InstTables A) : Type 0 where
  pub kinds : t.kinds.items ≡ kind_words words
  pub sets : AreNumbered (set_words words) (header_of words).sets t.sets.items
  pub operands : t.operands.items.items ≡ map operand_of_bits (longs (operand_words words) (header_of words).operands)
  pub operand_bounds : t.operands.bounds.items ≡ 0 ∷ operand_ends words

-- `t` holds the columns of edges of `words`
pub record AreEdgeTables {A : Type 0} (words : List ℕ) (t : EdgeTables A) : Type 0 where
  pub preds : t.preds.items.items ≡ pred_words words
  pub pred_bounds : t.preds.bounds.items ≡ 0 ∷ pred_ends words
  pub succs : t.succs.items.items ≡ succ_words words
  pub succ_bounds : t.succs.bounds.items ≡ 0 ∷ succ_ends words
  pub params : t.params.items.items ≡ map vreg_of_bits (param_words words)
  pub param_bounds : t.params.bounds.items ≡ 0 ∷ param_ends words
  pub arguments : t.arguments.items.items ≡ map vreg_of_bits (argument_words words)
  pub argument_bounds : t.arguments.bounds.items ≡ 0 ∷ argument_ends words

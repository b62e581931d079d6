-- The numbers of a function and its machine, part by part.
use Rattle.std.specs.Prelude.{◌≡◌, List, [], All, length, map}
use Rattle.regalloc2_names.specs.Packing.{IsVRegBits}
use Rattle.regalloc2_names.specs.RegisterBits.{vreg_of_bits}
use Rattle.regalloc2_function.specs.FunctionValue.{IsSlotSize, label_of}
use Rattle.regalloc2_function.specs.Views.{machine_of}
use Rattle.regalloc2_serialize.specs.Decoded.{NamesFunction, NamesMachine, stored_range, stored_label}
use Rattle.regalloc2_serialize.specs.TableFunction.Table.{block_of_table}
use Rattle.regalloc2_serialize.specs.Tables.{function_of_serializable}
use Rattle.regalloc2_serialize.specs.Validity.{HasThreeClasses, NamesAll}
use Rattle.regalloc2_serialize.specs.declared.data.StoredFunction.{StoredFunction}
use Rattle.regalloc2_serialize.specs.declared.json_outputs.BlockLists.{BlockLists}
use Rattle.regalloc2_serialize.specs.declared.table_function.table.TableBlock.{TableBlock}
use Rattle.regalloc2_serialize.specs.declared.tables.SerializableFunction.{SerializableFunction}

-- the five lists by block of `s` have the parts of the blocks `bs`
pub record AreListsOf {A B : Type 0} (s : StoredFunction A) (bs : List (TableBlock B)) : Type 0 where
  pub ranges : map stored_range s.blocks.items ≡ map (λ b. (block_of_table b).range) bs
  pub succs : map (λ l. l.items) s.block_succs.items ≡ map (λ b. (block_of_table b).succs) bs
  pub preds : map (λ l. l.items) s.block_preds.items ≡ map (λ b. (block_of_table b).preds) bs
  pub params : map (λ l. map vreg_of_bits l.items) s.block_params_in.items ≡ map (λ b. (block_of_table b).params) bs
  pub arguments : map (λ l. map (λ k. map vreg_of_bits k.items) l.items) s.block_params_out.items ≡ map (λ b. (block_of_table b).arguments) bs

-- the lists by block are empty
pub record AreEmpty {A : Type 0} (l : BlockLists A) : Type 0 where
  pub ranges : l.blocks.items ≡ []
  pub preds : l.preds.items ≡ []
  pub succs : l.succs.items ≡ []
  pub params : l.params_in.items ≡ []
  pub arguments : l.params_out.items ≡ []

-- the lists by block have the parts of the blocks `bs`, and their words of vregs encode vregs
pub record AreBlockLists {A B : Type 0} (l : BlockLists A) (bs : List (TableBlock B)) : Type 0 where
  pub ranges : map stored_range l.blocks.items ≡ map (λ b. (block_of_table b).range) bs
  pub succs : map (λ k. k.items) l.succs.items ≡ map (λ b. (block_of_table b).succs) bs
  pub preds : map (λ k. k.items) l.preds.items ≡ map (λ b. (block_of_table b).preds) bs
  pub params : map (λ k. map vreg_of_bits k.items) l.params_in.items ≡ map (λ b. (block_of_table b).params) bs
  pub arguments : map (λ k. map (λ j. map vreg_of_bits j.items) k.items) l.params_out.items ≡ map (λ b. (block_of_table b).arguments) bs
  pub param_names : All (λ k. All IsVRegBits k.items) l.params_in.items
  pub argument_names : All (λ k. All (λ j. All IsVRegBits j.items) k.items) l.params_out.items

-- what the tests of stored functions read are the parts of a function
pub record HasPartsOf {A B : Type 0} (s : StoredFunction A) (f : SerializableFunction B) : Type 0 where
  pub lists : AreListsOf s f.function.blocks.items
  pub insts : length s.insts.items ≡ length f.function.insts.items
  pub entry : s.entry_block ≡ f.function.entry
  pub num_vregs : s.num_vregs ≡ f.function.num_vregs
  pub labels : map stored_label s.debug_value_labels.items ≡ map label_of f.function.labels.items
  pub classes : HasThreeClasses s.machine_env
  pub names : NamesAll s
  pub sizes : length s.spillslot_size.items ≡ 3
  pub slot_sizes : All IsSlotSize s.spillslot_size.items

-- numbers name a function and its machine, and are their parts
pub record AreNumbersOf {A B : Type 0} (s : StoredFunction A) (f : SerializableFunction B) : Type 0 where
  pub function : NamesFunction s (function_of_serializable f)
  pub machine : NamesMachine s.machine_env (machine_of f.machine)
  pub parts : HasPartsOf s f

-- What stored functions and machines name.
use Rattle.std.specs.Prelude.{ℕ, ◌≡◌, ◌↔◌, true, List, [], length, map, slice_index, slice_index_or, Contains}
use Rattle.std.specs.Option.{option_map}
use Rattle.std.specs.List.{AllZip, range_with_len}
use Rattle.regalloc2_index.specs.Range.{Span}
use Rattle.regalloc2_names.specs.Register.{Register, has_register}
use Rattle.regalloc2_names.specs.RegisterBits.{register_of_bits, vreg_of_bits}
use Rattle.regalloc2_names.specs.Packing.{operand_of_bits}
use Rattle.regalloc2_names.specs.declared.sets.PRegSet.{PRegSet}
use Rattle.regalloc2_function.specs.FunctionValue.{FunctionValue, BlockValue, InstValue, SlotSizes, Label}
use Rattle.regalloc2_function.specs.Machine.{MachineValue}
use Rattle.regalloc2_serialize.specs.Opcode.{is_branch, is_ret}
use Rattle.regalloc2_serialize.specs.declared.data.StoredInst.{StoredInst}
use Rattle.regalloc2_serialize.specs.declared.data.StoredMachine.{StoredMachine}
use Rattle.regalloc2_serialize.specs.declared.data.StoredFunction.{StoredFunction}

-- the members of `s` are the registers with the indexes `indexes`; a set has a word for each class
pub record HasIndexes (indexes : List ℕ) (s : PRegSet) : Type 0 where
  pub words : length s.bits ≡ 3
  pub members : (r : Register) → (has_register s r ≡ true) ↔ Contains (map register_of_bits indexes) r

-- the instruction of stored numbers
pub record NamesInst {A : Type 0} (s : StoredInst A) (i : InstValue) : Type 0 where
  pub operands : i.operands ≡ map operand_of_bits s.operands.items
  pub clobbers : HasIndexes s.clobbers.items i.clobbers
  pub is_branch : i.is_branch ≡ is_branch s.op
  pub is_ret : i.is_ret ≡ is_ret s.op

-- the instructions from the first up to the end
abbrev pub stored_range : (ℕ × ℕ) → Span
stored_range r = record { first = r.0; end = r.1 }

-- a block's part of five lists: its instructions, successors, predecessors, parameters and arguments
abbrev pub stored_block : {A : Type 0} → StoredFunction A → ℕ → BlockValue
stored_block s b = record {
  range = stored_range (slice_index_or s.blocks.items b (0, 0));
  succs = slice_index_or (map (λ l. l.items) s.block_succs.items) b [];
  preds = slice_index_or (map (λ l. l.items) s.block_preds.items) b [];
  params = map vreg_of_bits (slice_index_or (map (λ l. l.items) s.block_params_in.items) b []);
  arguments = map (λ l. map vreg_of_bits l.items) (slice_index_or (map (λ l. l.items) s.block_params_out.items) b []);
}

abbrev pub stored_label : (ℕ × ℕ × ℕ × ℕ) → Label
stored_label l = record { vreg = vreg_of_bits l.0; start = l.1; end = l.2; label = l.3 }

-- sizes of slots by class
abbrev pub stored_sizes : List ℕ → SlotSizes
stored_sizes sizes = record { int = slice_index sizes 0; float = slice_index sizes 1; vector = slice_index sizes 2 }

-- the function of stored numbers
pub record NamesFunction {A : Type 0} (s : StoredFunction A) (f : FunctionValue) : Type 0 where
  pub blocks : f.blocks ≡ map (stored_block s) (range_with_len 0 (length s.blocks.items))
  pub insts : AllZip (λ x i. NamesInst x i) s.insts.items f.insts
  pub entry : f.entry ≡ s.entry_block
  pub num_vregs : f.num_vregs ≡ s.num_vregs
  pub slot_sizes : f.slot_sizes ≡ stored_sizes s.spillslot_size.items
  pub named_by_last_slot : f.named_by_last_slot ≡ s.multi_spillslot_named_by_last_slot
  pub labels : f.labels ≡ map stored_label s.debug_value_labels.items
  pub allows_multiple_defs : f.allows_multiple_defs ≡ s.allow_multiple_vreg_defs

-- the machine of stored numbers
pub record NamesMachine {A : Type 0} (s : StoredMachine A) (m : MachineValue) : Type 0 where
  pub preferred : AllZip (λ l set. HasIndexes l.items set) s.preferred_regs_by_class.items m.preferred
  pub non_preferred : AllZip (λ l set. HasIndexes l.items set) s.non_preferred_regs_by_class.items m.non_preferred
  pub scratch : m.scratch ≡ map (option_map register_of_bits) s.scratch_by_class.items
  pub fixed_stack_slots : m.fixed_stack_slots ≡ map register_of_bits s.fixed_stack_slots.items

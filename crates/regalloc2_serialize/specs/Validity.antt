-- The tests of stored functions, and the error for a stored function that fails one.
use Rattle.std.specs.Prelude.{ℕ, ◌≡◌, ◌<◌, ◌≤◌, ◌-◌, ◌^◌, ◌/◌, length, map, All, IfSome}
use Rattle.regalloc2_names.specs.Packing.{IsRegisterIndex, IsVRegBits, IsOperandBits}
use Rattle.regalloc2_function.specs.FunctionValue.{FunctionValue, IsSlotSize}
use Rattle.regalloc2_function.specs.declared.serialize.StoredFault.{StoredFault}
use Rattle.regalloc2_function.specs.declared.serialize.StoredFault.TheVariants.{Lengths, Index, Bits, Limit, Memory, Shape}
use Rattle.regalloc2_serialize.specs.declared.data.StoredInst.{StoredInst}
use Rattle.regalloc2_serialize.specs.declared.data.StoredMachine.{StoredMachine}
use Rattle.regalloc2_serialize.specs.declared.data.StoredFunction.{StoredFunction}

-- lists by class have three members
pub record HasThreeClasses {A : Type 0} (m : StoredMachine A) : Type 0 where
  pub preferred : length m.preferred_regs_by_class.items ≡ 3
  pub non_preferred : length m.non_preferred_regs_by_class.items ≡ 3
  pub scratch : length m.scratch_by_class.items ≡ 3

-- the five lists by block are equally long, as are a block's successors and arguments
pub record HasAllOfEachBlock {A : Type 0} (s : StoredFunction A) : Type 0 where
  pub preds : length s.block_preds.items ≡ length s.blocks.items
  pub succs : length s.block_succs.items ≡ length s.blocks.items
  pub params : length s.block_params_in.items ≡ length s.blocks.items
  pub arguments : map (λ l. length l.items) s.block_params_out.items ≡ map (λ l. length l.items) s.block_succs.items

-- lists are of the lengths that they should have
pub record HasLengths {A : Type 0} (s : StoredFunction A) : Type 0 where
  pub blocks : HasAllOfEachBlock s
  pub machine : HasThreeClasses s.machine_env
  pub slot_sizes : length s.spillslot_size.items ≡ 3

-- a range that doesn't fall, within `count` instructions
abbrev pub IsRangeWithin : ℕ → (ℕ × ℕ) → Type 0
IsRangeWithin count r = (r.0 ≤ r.1) × (r.1 ≤ count)

-- blocks, instructions and labelled vregs are in range
pub record AreNumbersWithin {A : Type 0} (s : StoredFunction A) : Type 0 where
  pub entry : s.entry_block < length s.blocks.items
  pub preds : All (λ l. All (λ b. b < length s.blocks.items) l.items) s.block_preds.items
  pub succs : All (λ l. All (λ b. b < length s.blocks.items) l.items) s.block_succs.items
  pub ranges : All (IsRangeWithin (length s.insts.items)) s.blocks.items
  pub labels : All (λ l. l.0 / 4 < s.num_vregs) s.debug_value_labels.items

-- an instruction's numbers encode operands and are indexes of registers
pub record NamesOperands {A : Type 0} (i : StoredInst A) : Type 0 where
  pub operands : All IsOperandBits i.operands.items
  pub clobbers : All IsRegisterIndex i.clobbers.items

-- a machine's numbers are indexes of registers
pub record NamesRegisters {A : Type 0} (m : StoredMachine A) : Type 0 where
  pub preferred : All (λ l. All IsRegisterIndex l.items) m.preferred_regs_by_class.items
  pub non_preferred : All (λ l. All IsRegisterIndex l.items) m.non_preferred_regs_by_class.items
  pub scratch : All (λ o. IfSome o IsRegisterIndex) m.scratch_by_class.items
  pub fixed_stack_slots : All IsRegisterIndex m.fixed_stack_slots.items

-- the numbers of parameters, arguments and labels encode vregs
pub record NamesVRegs {A : Type 0} (s : StoredFunction A) : Type 0 where
  pub params : All (λ l. All IsVRegBits l.items) s.block_params_in.items
  pub arguments : All (λ l. All (λ k. All IsVRegBits k.items) l.items) s.block_params_out.items
  pub labels : All (λ l. IsVRegBits l.0) s.debug_value_labels.items

-- each number that should be a name is one
pub record NamesAll {A : Type 0} (s : StoredFunction A) : Type 0 where
  pub machine : NamesRegisters s.machine_env
  pub insts : All (λ i. NamesOperands i) s.insts.items
  pub vregs : NamesVRegs s

-- the limits of each function
pub record KeepsLimits {A : Type 0} (s : StoredFunction A) : Type 0 where
  pub insts : length s.insts.items < 2 ^ 30
  pub blocks : length s.blocks.items < 2 ^ 32 - 1
  pub vregs : s.num_vregs < 2 ^ 30
  pub slot_sizes : All IsSlotSize s.spillslot_size.items

-- a stored function that passes all tests
pub record IsSoundStored {A : Type 0} (s : StoredFunction A) : Type 0 where
  pub lengths : HasLengths s
  pub within : AreNumbersWithin s
  pub names : NamesAll s
  pub limits : KeepsLimits s

-- a function's entry, and what its blocks name as predecessors and successors, are blocks of the function
pub record NamesItsBlocks (f : FunctionValue) : Type 0 where
  pub entry : f.entry < length f.blocks
  pub preds : All (λ b. All (λ p. p < length f.blocks) b.preds) f.blocks
  pub succs : All (λ b. All (λ n. n < length f.blocks) b.succs) f.blocks

-- the error for a stored function: the first of four tests that fails, or out of memory if it passes all
abbrev pub IsFaultOf : {A : Type 0} → StoredFunction A → StoredFault → Type 0
IsFaultOf s Lengths = HasLengths s → ⊥
IsFaultOf s Index = HasLengths s × (AreNumbersWithin s → ⊥)
IsFaultOf s Bits = HasLengths s × AreNumbersWithin s × (NamesAll s → ⊥)
IsFaultOf s Limit = HasLengths s × AreNumbersWithin s × NamesAll s × (KeepsLimits s → ⊥)
IsFaultOf s Memory = IsSoundStored s
IsFaultOf s Shape = ⊥

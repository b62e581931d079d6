-- What a builder was given, call by call.
use Rattle.std.specs.Prelude.{ℕ, ◌≡◌, ◌-◌, ◌<◌, ◌≤◌, ◌^◌, Bool, false, List, [], ◌∷◌, ◌++◌, length, map, slice_set, slice_index_or}
use Rattle.regalloc2_names.specs.Register.{Register, VirtualRegister, has_register}
use Rattle.regalloc2_names.specs.Operand.{OperandValue}
use Rattle.regalloc2_function.specs.FunctionValue.{InstValue}
use Rattle.regalloc2_serialize.specs.TableFunction.Table.{inst_of_table}
use Rattle.regalloc2_serialize.specs.declared.table_function.builder.BlockDraft.{BlockDraft}
use Rattle.regalloc2_serialize.specs.declared.table_function.builder.TableBuilder.{TableBuilder}
use Rattle.regalloc2_serialize.specs.declared.table_function.builder.BuildError.{BuildError}
use Rattle.regalloc2_serialize.specs.declared.table_function.builder.BuildError.TheVariants.{Memory, NoBlock, TooManyBlocks, TooManyInsts, TooManyVRegs}

-- a partial block
pub record DraftValue : Type 0 where
  pub params : List VirtualRegister
  pub insts : List InstValue
  pub succs : List ℕ
  pub arguments : List (List VirtualRegister)

abbrev pub draft_of : {A : Type 0} → BlockDraft A → DraftValue
draft_of d = record {
  params = d.params.items;
  insts = map inst_of_table d.insts.items;
  succs = d.succs.items;
  arguments = map (λ v. v.items) d.arguments.items;
}

-- the blocks that a builder was given, by number
abbrev pub drafts_of : {A : Type 0} → TableBuilder A → List DraftValue
drafts_of b = map draft_of b.blocks.items

-- a block that was declared with the parameters `params`
abbrev pub declared_with : List VirtualRegister → DraftValue
declared_with params = record { params = params; insts = []; succs = []; arguments = [] }

-- block `b`
abbrev pub draft_at : List DraftValue → ℕ → DraftValue
draft_at drafts b = slice_index_or drafts b (declared_with [])

-- block `b` was declared, and `change` is made to it alone
pub record IsChanged (old : List DraftValue) (b : ℕ) (change : DraftValue → DraftValue) (new : List DraftValue) : Type 0 where
  pub declared : b < length old
  pub changed : new ≡ slice_set old b (change (draft_at old b))

-- with one more instruction
abbrev pub with_inst : InstValue → DraftValue → DraftValue
with_inst i d = record d { insts = d.insts ++ i ∷ [] }

-- with one more successor and the arguments for it
abbrev pub with_succ : ℕ → List VirtualRegister → DraftValue → DraftValue
with_succ to arguments d = record d { succs = d.succs ++ to ∷ []; arguments = d.arguments ++ arguments ∷ [] }

-- block `b` has one more instruction, which has the operands `os` and no clobbers
pub record HasMore (old : List DraftValue) (b : ℕ) (os : List OperandValue) (branches returns : Bool) (new : List DraftValue) : Type 0 where
  pub inst : InstValue
  pub operands : inst.operands ≡ os
  pub clobbers : (r : Register) → has_register inst.clobbers r ≡ false
  pub is_branch : inst.is_branch ≡ branches
  pub is_ret : inst.is_ret ≡ returns
  pub added : IsChanged old b (with_inst inst) new

-- why no block is declared
abbrev pub IsUndeclared : List DraftValue → BuildError → Type 0
IsUndeclared drafts Memory = Unit {0}
IsUndeclared drafts TooManyBlocks = 2 ^ 32 - 2 ≤ length drafts
IsUndeclared drafts (NoBlock c) = ⊥
IsUndeclared drafts TooManyInsts = ⊥
IsUndeclared drafts TooManyVRegs = ⊥

-- why nothing is added to block `b` of `count` blocks
abbrev pub IsUnadded : ℕ → ℕ → BuildError → Type 0
IsUnadded count b Memory = Unit {0}
IsUnadded count b (NoBlock c) = (c ≡ b) × (count ≤ b)
IsUnadded count b TooManyBlocks = ⊥
IsUnadded count b TooManyInsts = ⊥
IsUnadded count b TooManyVRegs = ⊥

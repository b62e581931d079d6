-- What the walk requires of a function, and a block that it has walked.
use Rattle.std.proofs.Common.{ℕ, ◌+◌, ◌<◌, List, length}
use Rattle.regalloc2_names.specs.Register.{VirtualRegister}
use Rattle.regalloc2_names.specs.Place.{Place}
use Rattle.regalloc2_function.specs.FunctionValue.{FunctionValue, block_at, EachBlock}
use Rattle.regalloc2_function.specs.WellFormed.{BlocksFollow, DefinedOnce, UsesAreDefined, CountedAt, EndsAt}
use Rattle.regalloc2_carry.proofs.SingleDef.{Made}
use Rattle.regalloc2_fastalloc_proofs.specs.InstSteps.{StateValue}
use Rattle.regalloc2_fastalloc_proofs.specs.BlockSteps.{AllocsBlockInsts, BeginsBlock, AllocsBlocks}
use Rattle.regalloc2_fastalloc_proofs.proofs.Walk.InstBoundaries.{BranchKept}
use Rattle.regalloc2_fastalloc_proofs.proofs.Inst.ProperInsts.{ProperInsts}

-- A function whose vregs are defined once and before they are used, whose blocks follow one another and end in a branch
-- or a return, with an argument for each parameter; its instructions are proper, and branches keep what holds between
-- instructions.
pub record FunctionLaws : Type 0 where
  pub f : FunctionValue
  pub once : DefinedOnce f
  pub follow : BlocksFollow f
  pub ends : EachBlock f (EndsAt f)
  pub uses : UsesAreDefined f
  pub counted : EachBlock f (CountedAt f)
  pub proper : ProperInsts (Made f) f
  pub kept : BranchKept f

-- the record, built from its parts
abbrev pub laws_of : (f : FunctionValue) → DefinedOnce f → BlocksFollow f → EachBlock f (EndsAt f) → UsesAreDefined f → EachBlock f (CountedAt f) → ProperInsts (Made f) f →
    BranchKept f → FunctionLaws
laws_of f once follow ends uses counted proper kept =
    record { f = f; once = once; follow = follow; ends = ends; uses = uses; counted = counted; proper = proper; kept = kept }

-- A function and the places of its operands. Known: the vregs, one for each number. Its instructions are proper,
-- branches keep what holds between instructions, and blocks follow one another and end in a branch or a return.
pub record PlacedCode : Type 1 where
  pub Known : VirtualRegister → Type 0
  pub f : FunctionValue
  pub proper : ProperInsts Known f
  pub kept : BranchKept f
  pub follow : BlocksFollow f
  pub ends : EachBlock f (EndsAt f)
  pub placesf : ℕ → List Place

-- the record, built from its parts
abbrev pub code_of : (Known : VirtualRegister → Type 0) (f : FunctionValue) → ProperInsts Known f → BranchKept f → BlocksFollow f → EachBlock f (EndsAt f) →
    (ℕ → List Place) → PlacedCode
code_of Known f proper kept follow ends placesf =
    record { Known = Known; f = f; proper = proper; kept = kept; follow = follow; ends = ends; placesf = placesf }

-- A block in the walk from the tables begin: p and s are the places and the tables after it, q and u the places and
-- tables before its first instruction, and w the tables at its start.
pub record BlockInWalk (f : FunctionValue) (blank : List Place) (begin : StateValue) : Type 0 where
  pub b : ℕ
  pub lb : b < length f.blocks
  pub p : List Place
  pub q : List Place
  pub s : StateValue
  pub u : StateValue
  pub w : StateValue
  pub prev : AllocsBlocks f blank begin (b + 1) p s
  pub walk : AllocsBlockInsts f b p s (block_at f b).range.first q u
  pub begins : BeginsBlock f b u w

-- What the steps of `finish` do.
use Rattle.std.specs.Prelude.{ℕ, ◌≡◌, ◌<◌, ◌≤◌, ◌^◌, if◌then◌else◌, nat_eq, List, [], ◌∷◌, ◌++◌, length, map, slice_index_or, Contains}
use Rattle.regalloc2_function.specs.FunctionValue.{BlockValue, no_block}
use Rattle.regalloc2_serialize.specs.TableFunction.Built.{without_preds, IsAstray}
use Rattle.regalloc2_serialize.specs.declared.table_function.builder.BuildError.{BuildError}
use Rattle.regalloc2_serialize.specs.declared.table_function.builder.BuildError.TheVariants.{Memory, NoBlock, TooManyBlocks, TooManyInsts, TooManyVRegs}

abbrev pub preds_at : List BlockValue → ℕ → List ℕ
preds_at blocks b = (slice_index_or blocks b no_block).preds

abbrev pub succs_at : List BlockValue → ℕ → List ℕ
succs_at blocks b = (slice_index_or blocks b no_block).succs

-- nothing but predecessors differs, of which each block has more
pub record HasPreds (old : List BlockValue) (more : ℕ → List ℕ) (new : List BlockValue) : Type 0 where
  pub others : map without_preds new ≡ map without_preds old
  pub preds : (b : ℕ) → b < length old → preds_at new b ≡ preds_at old b ++ more b

-- the edge from `pred` to `to`
abbrev pub one_edge : ℕ → ℕ → ℕ → List ℕ
one_edge to pred b = if nat_eq to b then pred ∷ [] else []

-- why `count` instructions aren't laid out
abbrev pub IsUnplaced : ℕ → BuildError → Type 0
IsUnplaced count Memory = Unit {0}
IsUnplaced count TooManyInsts = 2 ^ 30 ≤ count
IsUnplaced count (NoBlock c) = ⊥
IsUnplaced count TooManyBlocks = ⊥
IsUnplaced count TooManyVRegs = ⊥

-- why a block isn't made a predecessor of its successors
abbrev pub IsUnlinked : List ℕ → ℕ → BuildError → Type 0
IsUnlinked succs count Memory = Unit {0}
IsUnlinked succs count (NoBlock s) = (count ≤ s) × Contains succs s
IsUnlinked succs count TooManyBlocks = ⊥
IsUnlinked succs count TooManyInsts = ⊥
IsUnlinked succs count TooManyVRegs = ⊥

-- why blocks have no predecessors
abbrev pub AreUnlinked : List BlockValue → BuildError → Type 0
AreUnlinked blocks Memory = Unit {0}
AreUnlinked blocks (NoBlock s) = IsAstray (map (λ b. b.succs) blocks) s
AreUnlinked blocks TooManyBlocks = ⊥
AreUnlinked blocks TooManyInsts = ⊥
AreUnlinked blocks TooManyVRegs = ⊥

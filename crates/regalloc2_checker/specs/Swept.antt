-- What is known at the blocks' beginnings while tables of blocks that are checked are dropped.
use Rattle.std.specs.Prelude.{ℕ, ◌≡◌, ◌+◌, ◌<◌, Bool, true, false, List, [], ◌∷◌, length, slice_index, get_or}
use Rattle.std.specs.declared.cmp.Reverse.{Reverse}
use Rattle.regalloc2_function.specs.FunctionValue.{FunctionValue, block_at}
use Rattle.regalloc2_function.specs.Machine.{MachineValue}
use Rattle.regalloc2_function.specs.OutputValue.{OutputValue}
use Rattle.regalloc2_names.specs.declared.sets.PRegSet.{PRegSet}
use Rattle.regalloc2_checker.specs.Showing.{Showing, table_count}
use Rattle.regalloc2_checker.specs.Blocks.{IsBlockJudged}
use Rattle.regalloc2_checker.specs.CheckInputs.{AreStackSlots}
use Rattle.regalloc2_checker.specs.Facts.{Facts}
use Rattle.regalloc2_checker.specs.Propagation.{IsPropagatedOver, AreReached, IsReady, IsUnderWay}
use Rattle.regalloc2_checker.specs.TableFacts.{AreNamed}
use Rattle.regalloc2_checker.specs.Tables.{BlockView, view_at, facts_at, ListTheSame, views}

-- views of tables; for a block that is done, the view that is known of it instead
unfoldable pub laid : List Bool → List BlockView → List BlockView → List BlockView
laid [] vs ts = ts
laid (d ∷ ds) [] ts = ts
laid (d ∷ ds) (v ∷ vs) [] = []
laid (true ∷ ds) (v ∷ vs) (t ∷ ts) = v ∷ laid ds vs ts
laid (false ∷ ds) (v ∷ vs) (t ∷ ts) = t ∷ laid ds vs ts

-- whether a block is done
abbrev pub done_at : List Bool → ℕ → Bool
done_at done b = get_or done b false

-- an edge is passed on over, whatever is known of blocks that are done
pub record IsPassedOver (f : FunctionValue) (b k : ℕ) (F : Facts) (done : List Bool) (vs ts us : List BlockView) (marks after : List Bool)
    (entries later : List (Reverse (ℕ × ℕ))) : Type 0 where
  pub changed : Bool
  pub over : IsPropagatedOver f b k F (laid done vs ts) (laid done vs us) marks after changed
  pub reached : AreReached (laid done vs ts) entries → AreReached (laid done vs us) later

-- neither a block nor one of its successors is done
pub record LeadsToNoneDone (f : FunctionValue) (done : List Bool) (b : ℕ) : Type 0 where
  pub here : done_at done b ≡ false
  pub succs : (k : ℕ) → k < length (block_at f b).succs → done_at done (slice_index (block_at f b).succs k) ≡ false

-- the tables of blocks that aren't done have what is known of these
pub record AreKnown (done : List Bool) (vs ts : List BlockView) : Type 0 where
  pub size : length ts ≡ length vs
  pub left : (b : ℕ) → done_at done b ≡ false → view_at vs b ≡ view_at ts b

-- facts at a block's beginning lead to no error there
abbrev pub IsClean : Type 0 → FunctionValue → OutputValue → PRegSet → ℕ → Facts → Type 0
IsClean A f o slots b F = (env : MachineValue) → AreStackSlots env slots → IsBlockJudged {A = A} f env o b F [] []

-- what is known of blocks: a block that is done has no error, of another block the view of its table is known
pub record IsSwept (A : Type 0) (f : FunctionValue) (o : OutputValue) (slots : PRegSet) (done : List Bool) (vs ts : List BlockView) : Type 0 where
  pub known : AreKnown done vs ts
  pub clean : (b : ℕ) → done_at done b ≡ true → IsClean A f o slots b (facts_at vs b)

-- more blocks are done, of which the same is known
abbrev pub IsSweptOn : Type 0 → FunctionValue → OutputValue → PRegSet → List Bool → List Bool → List BlockView → List BlockView → Type 0
IsSweptOn A f o slots done after ts us = (vs : List BlockView) → IsSwept A f o slots done vs ts → IsSwept A f o slots after vs us

-- what a sweep works on is of one function: a table for each block and one beside them, whether a path reaches it, whether it is done
pub record AreSweepTables (f : FunctionValue) (o : OutputValue) (t : Showing) (rs ds : List Bool) : Type 0 where
  pub named : AreNamed f o t
  pub count : table_count t ≡ length f.blocks + 1
  pub reached : length rs ≡ length f.blocks
  pub done : length ds ≡ length f.blocks

-- a sweep goes on: tables list the same, the same blocks are reached, and blocks that were done are done
pub record IsFurther (t u : Showing) (rs now ds after : List Bool) : Type 0 where
  pub alike : ListTheSame t u
  pub reached : now ≡ rs
  pub size : length after ≡ length ds
  pub kept : (b : ℕ) → done_at ds b ≡ true → done_at after b ≡ true

-- a block was taken from the queue, and what is known of all blocks is ready for it to be passed on
pub record IsSweepReady (A : Type 0) (f : FunctionValue) (o : OutputValue) (slots : PRegSet) (t : Showing) (rs ds marks : List Bool)
    (entries : List (Reverse (ℕ × ℕ))) (b : ℕ) : Type 0 where
  pub tables : AreSweepTables f o t rs ds
  pub known : List BlockView
  pub swept : IsSwept A f o slots ds known (views t rs)
  pub ready : IsReady f o known marks entries b

-- what stays true while a sweep passes blocks on
pub record IsSweepUnderWay (A : Type 0) (f : FunctionValue) (o : OutputValue) (slots : PRegSet) (t : Showing) (rs ds marks : List Bool)
    (entries : List (Reverse (ℕ × ℕ))) : Type 0 where
  pub tables : AreSweepTables f o t rs ds
  pub known : List BlockView
  pub swept : IsSwept A f o slots ds known (views t rs)
  pub on_way : IsUnderWay f o known marks entries

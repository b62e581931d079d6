-- What is known at the blocks' beginnings.
use Rattle.std.specs.Prelude.{ℕ, zero, suc, ◌≡◌, ◌+◌, ◌<◌, ◌↔◌, Bool, true, false, ◌&&◌, if◌then◌else◌, List, [], ◌∷◌, length, slice_index, get_or, sum_by}
use Rattle.regalloc2_names.specs.Register.{VirtualRegister}
use Rattle.regalloc2_names.specs.Place.{Place}
use Rattle.regalloc2_function.specs.FunctionValue.{FunctionValue, block_at}
use Rattle.regalloc2_function.specs.OutputValue.{OutputValue}
use Rattle.regalloc2_semantics.specs.Runs.{first_of}
use Rattle.regalloc2_checker.specs.Showing.{Showing, shows_in, table_count}
use Rattle.regalloc2_checker.specs.Facts.{Facts}
use Rattle.regalloc2_checker.specs.Fixpoint.{IsReachedBlock, facts_passed, IsRefuted, IsFixpoint, IsRefutedElsewhere}
use Rattle.regalloc2_checker.specs.TableFacts.{facts_table}

-- what is known at a block's beginning: whether a path was found there, the facts that are left, and how much may still be dropped
pub record BlockView : Type 0 where
  pub reached : Bool
  pub facts : Facts
  pub left : ℕ

abbrev pub no_view : BlockView
no_view = record { reached = false; facts = λ p v. false; left = 0 }

abbrev pub view_at : List BlockView → ℕ → BlockView
view_at t b = get_or t b no_view

abbrev pub facts_at : List BlockView → ℕ → Facts
facts_at t b = (view_at t b).facts

-- how many numbers below a bound pass a test, and sums over them
unfoldable pub count_passing : ℕ → (ℕ → Bool) → ℕ
count_passing zero test = 0
count_passing (suc n) test = (if test n then 1 else 0) + count_passing n test

unfoldable pub sum_below : ℕ → (ℕ → ℕ) → ℕ
sum_below zero g = 0
sum_below (suc n) g = g n + sum_below n g

-- the bound of bits
unfoldable pub bits_end : ℕ
bits_end = 4294967296

-- how many pairs of a position and bits are held, and how many there are
abbrev pub pairs_held : ℕ → (ℕ → ℕ → Bool) → ℕ
pairs_held size has = sum_below size (λ i. count_passing bits_end (has i))

abbrev pub all_pairs : ℕ → ℕ
all_pairs size = sum_below size (λ i. count_passing bits_end (λ y. true))

-- how much may still be dropped where a path was found, or where none was
abbrev pub left_in : ℕ → Bool → (ℕ → ℕ → Bool) → ℕ
left_in size reached has = if reached then pairs_held size has else all_pairs size + 1

abbrev pub weight : BlockView → ℕ
weight x = x.left

-- the view of a table
abbrev pub view_of : Showing → ℕ → Bool → BlockView
view_of t k reached = record { reached = reached; facts = facts_table t k; left = left_in (length t.places) reached (shows_in t k) }

-- the views of tables from a number on
unfoldable pub views_from : Showing → ℕ → List Bool → List BlockView
views_from t k [] = []
views_from t k (r ∷ rs) = view_of t k r ∷ views_from t (k + 1) rs

-- each block's view
abbrev pub views : Showing → List Bool → List BlockView
views t reached = views_from t 0 reached

-- what is marked is reached, and what was dropped there fails on a path
pub record AreSoundViews (f : FunctionValue) (o : OutputValue) (t : List BlockView) : Type 0 where
  pub size : length t ≡ length f.blocks
  pub started : (view_at t f.entry).reached ≡ true
  pub nothing : (p : Place) (v : VirtualRegister) → facts_at t f.entry p v ≡ false
  pub reached : (b : ℕ) → (view_at t b).reached ≡ true → IsReachedBlock f b
  pub refuted : (b : ℕ) (p : Place) (v : VirtualRegister) → (view_at t b).reached ≡ true → facts_at t b p v ≡ false → IsRefuted f o (first_of f b) p v

-- an edge requires nothing more
pub record EdgeSolved (f : FunctionValue) (o : OutputValue) (t : List BlockView) (b k : ℕ) : Type 0 where
  pub reached : (view_at t (slice_index (block_at f b).succs k)).reached ≡ true
  pub within : (p : Place) (v : VirtualRegister) → facts_at t (slice_index (block_at f b).succs k) p v ≡ true → facts_passed f o b k (facts_at t b) p v ≡ true

-- the first n edges of a marked block require nothing more
abbrev pub EdgesSolved : FunctionValue → OutputValue → List BlockView → ℕ → ℕ → Type 0
EdgesSolved f o t b n = (view_at t b).reached ≡ true → (k : ℕ) → k < n → EdgeSolved f o t b k

abbrev pub BlockSolved : FunctionValue → OutputValue → List BlockView → ℕ → Type 0
BlockSolved f o t b = EdgesSolved f o t b (length (block_at f b).succs)

abbrev pub AllSolved : FunctionValue → OutputValue → List BlockView → Type 0
AllSolved f o t = (b : ℕ) → b < length f.blocks → BlockSolved f o t b

-- what is passed to a block is met with what it has
pub record IsUpdated (old new : List BlockView) (target : ℕ) (passed : Facts) : Type 0 where
  pub size : length new ≡ length old
  pub others : (b : ℕ) → (b ≡ target → ⊥) → view_at new b ≡ view_at old b
  pub reached : (view_at new target).reached ≡ true
  pub first : (view_at old target).reached ≡ false → facts_at new target ≡ passed
  pub met : (view_at old target).reached ≡ true → (p : Place) (v : VirtualRegister) → facts_at new target p v ≡ (facts_at old target p v && passed p v)

-- what an update returns: whether anything changed
pub record IsMeet (old new : List BlockView) (target : ℕ) (passed : Facts) (changed : Bool) : Type 0 where
  pub same : changed ≡ false → (new ≡ old) × ((view_at old target).reached ≡ true)
      × ((p : Place) (v : VirtualRegister) → facts_at old target p v ≡ true → passed p v ≡ true)
  pub updated : changed ≡ true → IsUpdated old new target passed
  pub falls : changed ≡ true → sum_by weight new < sum_by weight old

-- the facts of a table are what the checker requires
pub record IsSolved (f : FunctionValue) (o : OutputValue) (t : List BlockView) : Type 0 where
  pub size : length t ≡ length f.blocks
  pub reached : (b : ℕ) → ((view_at t b).reached ≡ true) ↔ IsReachedBlock f b
  pub settled : IsFixpoint f o (facts_at t)
  pub refuted : IsRefutedElsewhere f o (facts_at t)

-- tables list what they listed before, and there are as many
pub record ListTheSame (old new : Showing) : Type 0 where
  pub places : new.places ≡ old.places
  pub vregs : new.vregs ≡ old.vregs
  pub count : table_count new ≡ table_count old

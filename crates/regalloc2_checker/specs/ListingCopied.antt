-- How far a listing is copied.
use Rattle.std.specs.Prelude.{ℕ, ◌≡◌, ◌+◌, ◌<◌, ◌≤◌, List, [], ◌∷◌, ◌++◌, length, get_or, map}
use Rattle.regalloc2_function.specs.FunctionValue.{FunctionValue, block_at}
use Rattle.regalloc2_function.specs.OutputValue.{OutputValue}
use Rattle.regalloc2_semantics.specs.Runs.{moves_at}
use Rattle.regalloc2_function.specs.declared.listing.Edit.{Edit}
use Rattle.regalloc2_checker.specs.declared.listing.Listed.{Listed}
use Rattle.regalloc2_checker.specs.Listing.{listed_move, edits_in, IsPart}

-- the first n edits are before a point
abbrev pub AreBeforePoint : List (ℕ × Edit) → ℕ → ℕ → Type 0
AreBeforePoint edits n point = (k : ℕ) (d : ℕ × Edit) → k < n → (get_or edits k d).0 < point

-- the first n edits are before a point, and no others
pub record IsSplit (edits : List (ℕ × Edit)) (n point : ℕ) : Type 0 where
  pub within : n ≤ length edits
  pub passed : AreBeforePoint edits n point
  pub left : (k : ℕ) (d : ℕ × Edit) → n ≤ k → k < length edits → point ≤ (get_or edits k d).0

-- one instruction more is listed
pub record IsAdded (old new : List Listed) (from end : ℕ) : Type 0 where
  pub last : Listed
  pub whole : new ≡ old ++ (last ∷ [])
  pub from_is : last.from ≡ from
  pub end_is : last.end ≡ end

-- the instructions of the blocks before one are listed
pub record IsListedBefore (f : FunctionValue) (o : OutputValue) (es : List (ℕ × Edit)) (b : ℕ) (ls : List Listed) : Type 0 where
  pub none : b ≡ 0 → length ls ≡ 0
  pub size : (c : ℕ) → c + 1 ≡ b → length ls ≡ (block_at f c).range.end
  pub within : (c : ℕ) → c < b → (block_at f c).range.end ≤ length ls
  pub moves : (c i : ℕ) (d : Listed) → c < b → (block_at f c).range.first ≤ i → i < (block_at f c).range.end →
      map listed_move (edits_in es (get_or ls i d)) ≡ moves_at f o (record { block = c; inst = i })
  pub parts : (i : ℕ) (d : Listed) → i < length ls → IsPart es (get_or ls i d)

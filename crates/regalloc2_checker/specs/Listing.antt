-- What is listed before each instruction.
use Rattle.std.specs.Prelude.{ℕ, ◌≡◌, ◌<◌, ◌≤◌, List, [], length, get_or, map}
use Rattle.std.specs.List.{slice_range}
use Rattle.regalloc2_function.specs.FunctionValue.{FunctionValue, block_at}
use Rattle.regalloc2_function.specs.OutputValue.{OutputValue, MoveValue, OffsetsInOrder}
use Rattle.regalloc2_semantics.specs.Runs.{moves_at}
use Rattle.regalloc2_function.specs.Views.{move_of}
use Rattle.regalloc2_function.specs.declared.listing.Edit.{Edit}
use Rattle.regalloc2_checker.specs.declared.listing.Listed.{Listed}
use Rattle.regalloc2_checker.specs.declared.listing.Listing.{Listing}

-- the move of an edit, without its point
abbrev pub listed_move : (ℕ × Edit) → MoveValue
listed_move e = move_of e.1

-- the edits that are listed at an instruction
abbrev pub edits_in : List (ℕ × Edit) → Listed → List (ℕ × Edit)
edits_in es x = slice_range es x.from x.end

-- a part of the edits
abbrev pub IsPart : List (ℕ × Edit) → Listed → Type 0
IsPart es x = (x.from ≤ x.end) × (x.end ≤ length es)

-- each of these is
abbrev pub AreParts : List (ℕ × Edit) → List Listed → Type 0
AreParts es ls = (i : ℕ) (d : Listed) → i < length ls → IsPart es (get_or ls i d)

-- an output with the places of a listing alone
abbrev pub listed_output : Listing → OutputValue
listed_output l = record { num_spillslots = 0; edits = []; allocs = l.allocs.now; offsets = l.offsets.now; debug_locations = [] }

-- an output's moves, by instructions
pub record AreMovesListed (f : FunctionValue) (o : OutputValue) (es : List (ℕ × Edit)) (ls : List Listed) : Type 0 where
  pub size : length ls ≡ length f.insts
  pub parts : AreParts es ls
  pub moves : (b i : ℕ) (d : Listed) → b < length f.blocks → (block_at f b).range.first ≤ i → i < (block_at f b).range.end →
      map listed_move (edits_in es (get_or ls i d)) ≡ moves_at f o (record { block = b; inst = i })

-- an output's moves and places, by instructions
pub record IsListing (f : FunctionValue) (o : OutputValue) (l : Listing) : Type 0 where
  pub moves : AreMovesListed f o l.edits.now l.listed.now
  pub allocs : l.allocs.now ≡ o.allocs
  pub offsets : l.offsets.now ≡ o.offsets
  pub one_offset_each : length l.offsets.now ≡ length f.insts
  pub in_order : OffsetsInOrder (listed_output l)

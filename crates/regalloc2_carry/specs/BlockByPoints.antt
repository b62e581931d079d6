-- A block's listing, built from the program points of its moves.
use Rattle.std.specs.Prelude.{ℕ, zero, suc, ◌≡◌, ◌+◌, ◌-◌, ◌≤◌, nat_eq, List, [], ◌∷◌, filter, map, reverse}
use Rattle.regalloc2_names.specs.Place.{Place, before, after}
use Rattle.regalloc2_function.specs.FunctionValue.{FunctionValue, InstValue, block_at, inst_at}
use Rattle.regalloc2_function.specs.OutputValue.{OutputValue, MoveValue, allocs_of}
use Rattle.regalloc2_carry.specs.Listing.{Item, exec_item, with_moves}

-- the moves at a point, in their order
abbrev pub at_point : List (ℕ × MoveValue) → ℕ → List MoveValue
at_point edits q = map (λ e. e.1) (filter (λ e. nat_eq e.0 q) edits)

-- count instructions from an index on, each with the moves before and after it
unfoldable pub walked : (ℕ → InstValue) → (ℕ → List MoveValue) → (ℕ → List Place) → ℕ → ℕ → List Item
walked insts at places i zero = []
walked insts at places i (suc count) = with_moves (at (before i)) (exec_item (insts i) (places i) ∷ with_moves (at (after i))
    (walked insts at places (i + 1) count))

-- the listing of a block
abbrev pub block_walked : FunctionValue → OutputValue → ℕ → List Item
block_walked f out b = walked (inst_at f) (at_point out.edits) (allocs_of out) (block_at f b).range.first
    ((block_at f b).range.end - (block_at f b).range.first)

-- each point is at least n
unfoldable pub AllFrom : ℕ → List (ℕ × MoveValue) → Type 0
AllFrom n [] = Unit {0}
AllFrom n (e ∷ es) = (n ≤ e.0) × AllFrom n es

-- points never fall
unfoldable pub Rising : List (ℕ × MoveValue) → Type 0
Rising [] = Unit {0}
Rising (e ∷ es) = AllFrom e.0 es × Rising es

-- no move is after the last instruction of a block
abbrev pub EndsQuiet : FunctionValue → OutputValue → ℕ → Type 0
EndsQuiet f out b = at_point out.edits (after ((block_at f b).range.end - 1)) ≡ []

-- The walk goes backward through a block, and pushes moves in front. What runs after the instruction i, with n more
-- instructions behind it:
abbrev pub after_part : (ℕ → InstValue) → List (ℕ × MoveValue) → (ℕ → List Place) → ℕ → ℕ → List Item
after_part insts edits places i n = with_moves (at_point edits (after i)) (walked insts (at_point edits) places (i + 1) n)

-- what runs from the moves before the instruction on, where item stands for the instruction
abbrev pub before_part : (ℕ → InstValue) → List (ℕ × MoveValue) → (ℕ → List Place) → ℕ → ℕ → Item → List Item
before_part insts edits places i n item = with_moves (at_point edits (before i)) (item ∷ after_part insts edits places i n)

-- the edits as listed, from the order in which they were pushed
abbrev pub listed : List (ℕ × MoveValue) → List (ℕ × MoveValue)
listed pushed = reverse pushed

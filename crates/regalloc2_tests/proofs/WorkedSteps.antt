-- Tests of the definitions of both runs on one step or one edge each: what an operand reads beside early definitions,
-- late definitions, clobbers and moves, and which value a parameter takes.
use Rattle.std.proofs.Common.{ℕ, ◌≡◌, false, List, [], ◌∷◌, refl}
use Rattle.std.specs.Prelude.{None, map}
use Rattle.regalloc2_names.specs.declared.OperandConstraint.TheVariants.{Any}
use Rattle.regalloc2_names.specs.declared.OperandKind.{OperandKind}
use Rattle.regalloc2_names.specs.declared.OperandKind.TheVariants.{Def, Use}
use Rattle.regalloc2_names.specs.declared.OperandPos.{OperandPos}
use Rattle.regalloc2_names.specs.declared.OperandPos.TheVariants.{Early, Late}
use Rattle.regalloc2_names.specs.declared.RegClass.TheVariants.{Float}
use Rattle.regalloc2_names.specs.Register.{has_register}
use Rattle.regalloc2_names.specs.Operand.{OperandValue}
use Rattle.regalloc2_names.specs.Place.{Place, before, after}
use Rattle.regalloc2_function.specs.FunctionValue.{FunctionValue, InstValue}
use Rattle.regalloc2_function.specs.Listing.{moves_before}
use Rattle.regalloc2_function.specs.OutputValue.{OutputValue, MoveValue}
use Rattle.regalloc2_semantics.specs.Runs.{Onward, ToSuccessor, source_before, after_defs, passed, over_edge, cells_before, stored, after_moves}
use Rattle.regalloc2_semantics.specs.Runs.{after_early_defs, after_writes, after_clobbers, allocated_read}
use Rattle.regalloc2_tests.proofs.WorkedPaths.{v, op, block, with_blocks, p, move, at_step}

abbrev any : ℕ → OperandKind → OperandPos → OperandValue
any n k q = record { vreg = v n; constraint = Any; kind = k; position = q }

-- an instruction that clobbers p0i
abbrev clobbering : List OperandValue → InstValue
clobbering os = record { operands = os; clobbers = record { bits = 1 ∷ 0 ∷ 0 ∷ [] }; is_branch = false; is_ret = false }

-- one block: an instruction that defines v0, and one that reads it
abbrev defined_before : InstValue → FunctionValue
defined_before i = with_blocks (block 0 2 [] [] [] ∷ []) (op (any 0 Def Late ∷ []) ∷ i ∷ [])

-- the places of the first instruction's operand and of the second's
abbrev places : Place → List Place → OutputValue
places x ys = record { num_spillslots = 0; edits = []; allocs = x ∷ ys; offsets = 0 ∷ 1 ∷ []; debug_locations = [] }

abbrev moved : List (ℕ × MoveValue) → OutputValue
moved moves = record { num_spillslots = 0; edits = moves; allocs = p 0 ∷ p 0 ∷ []; offsets = 0 ∷ 1 ∷ []; debug_locations = [] }

-- a use in the place of an early definition of its own instruction reads nothing
beside_early_definition : allocated_read (defined_before (op (any 1 Def Early ∷ any 0 Use Early ∷ []))) (places (p 0) (p 0 ∷ p 0 ∷ [])) (Onward ∷ []) 1
    (any 0 Use Early) ≡ None
unfolding cells_before stored after_moves after_early_defs after_writes after_clobbers has_register
beside_early_definition = refl

-- a move from a place that holds nothing empties the place that it goes to
moved_from_nothing : allocated_read (defined_before (op (any 0 Use Early ∷ []))) (moved (move (before 1) (p 1) (p 0) ∷ [])) (Onward ∷ []) 0
    (any 0 Use Early) ≡ None
unfolding cells_before stored after_moves after_early_defs after_writes after_clobbers has_register
moved_from_nothing = refl

-- in a clobbered register an early use reads its value, and a late use nothing
in_clobbered : map (λ q. allocated_read (defined_before (clobbering (any 0 Use q ∷ []))) (places (p 0) (p 0 ∷ [])) (Onward ∷ []) 0 (any 0 Use q))
    (Early ∷ Late ∷ []) ≡ at_step 0 ∷ None ∷ []
unfolding cells_before stored after_moves after_early_defs after_writes after_clobbers has_register
in_clobbered = refl

-- in the place of a late definition of its own instruction an early use reads its value, and a late use that definition
in_place_of_definition : map (λ q. allocated_read (defined_before (op (any 1 Def Late ∷ any 0 Use q ∷ []))) (places (p 0) (p 0 ∷ p 0 ∷ [])) (Onward ∷ []) 1
    (any 0 Use q)) (Early ∷ Late ∷ []) ≡ at_step 0 ∷ at_step 1 ∷ []
unfolding cells_before stored after_moves after_early_defs after_writes after_clobbers has_register
in_place_of_definition = refl

-- a block with a parameter that is listed twice, and a branch that defines its second argument
abbrev listing_twice : FunctionValue
listing_twice = with_blocks (block 0 2 (1 ∷ []) [] ((v 0 ∷ v 1 ∷ []) ∷ []) ∷ block 2 3 [] (v 2 ∷ v 2 ∷ []) [] ∷ [])
    (op (any 0 Def Late ∷ []) ∷ op (any 1 Def Late ∷ []) ∷ op [] ∷ [])

-- a parameter that is listed twice takes the last argument, also one that the branch itself defines
listed_twice : source_before listing_twice (ToSuccessor 0 ∷ Onward ∷ []) (v 2) ≡ at_step 1
unfolding source_before after_defs passed over_edge
listed_twice = refl

-- a vreg of the parameter's number and another class takes nothing
of_another_class : source_before listing_twice (ToSuccessor 0 ∷ Onward ∷ []) (record { number = 2; class = Float }) ≡ None
unfolding source_before after_defs passed over_edge
of_another_class = refl

-- a block that goes on to itself and passes v1, which it defines; the entry passes v1 too
abbrev passing_unwritten : FunctionValue
passing_unwritten = with_blocks (block 0 1 (1 ∷ []) [] ((v 1 ∷ []) ∷ []) ∷ block 1 2 (1 ∷ []) (v 2 ∷ []) ((v 1 ∷ []) ∷ []) ∷ [])
    (op (any 0 Def Late ∷ []) ∷ op (any 1 Def Late ∷ []) ∷ [])

-- a parameter takes nothing from an argument that isn't written yet, and its value from one that is
from_unwritten : map (λ ws. source_before passing_unwritten ws (v 2)) ((ToSuccessor 0 ∷ []) ∷ (ToSuccessor 0 ∷ ToSuccessor 0 ∷ []) ∷ []) ≡
    None ∷ at_step 1 ∷ []
unfolding source_before after_defs passed over_edge
from_unwritten = refl

-- moves at four points of two instructions
abbrev at_points : OutputValue
at_points = moved (move (after 0) (p 1) (p 2) ∷ move (before 1) (p 3) (p 4) ∷ move (after 1) (p 5) (p 6) ∷ move (before 2) (p 7) (p 8) ∷ [])

-- within a block the moves after an instruction come first, then the moves before the next one
within_block : moves_before at_points 0 1 ≡ record { from = p 1; to = p 2 } ∷ record { from = p 3; to = p 4 } ∷ []
within_block = refl

-- at a block's beginning only the moves before its first instruction count
at_beginning : map (λ i. moves_before at_points i i) (1 ∷ 2 ∷ []) ≡ (record { from = p 3; to = p 4 } ∷ []) ∷ (record { from = p 7; to = p 8 } ∷ []) ∷ []
at_beginning = refl

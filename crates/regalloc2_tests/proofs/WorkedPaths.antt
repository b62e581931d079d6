-- Tests of the definitions of both runs: which write a use reads on worked paths, in a function and in its output.
use Rattle.std.proofs.Common.{ℕ, ◌≡◌, false, List, [], ◌∷◌, refl}
use Rattle.std.specs.Prelude.{◌++◌, Option, None, Some, map}
use Rattle.regalloc2_names.specs.declared.OperandConstraint.TheVariants.{Reg}
use Rattle.regalloc2_names.specs.declared.OperandKind.TheVariants.{Def, Use}
use Rattle.regalloc2_names.specs.declared.OperandPos.TheVariants.{Early, Late}
use Rattle.regalloc2_names.specs.declared.RegClass.TheVariants.{Int}
use Rattle.regalloc2_names.specs.Register.{VirtualRegister, has_register}
use Rattle.regalloc2_names.specs.Operand.{OperandValue}
use Rattle.regalloc2_names.specs.Place.{Place, InRegister, InSlot, before, after}
use Rattle.regalloc2_function.specs.FunctionValue.{FunctionValue, BlockValue, InstValue}
use Rattle.regalloc2_function.specs.OutputValue.{OutputValue, MoveValue}
use Rattle.regalloc2_semantics.specs.Runs.{Way, Onward, ToSuccessor, Stamp, source_before, after_defs, passed, over_edge, source_read, cells_before, stored}
use Rattle.regalloc2_semantics.specs.Runs.{after_moves, after_early_defs, after_writes, after_clobbers, allocated_read}

abbrev pub v : ℕ → VirtualRegister
v n = record { number = n; class = Int }

abbrev pub def_reg : ℕ → OperandValue
def_reg n = record { vreg = v n; constraint = Reg; kind = Def; position = Late }

abbrev pub use_reg : ℕ → OperandValue
use_reg n = record { vreg = v n; constraint = Reg; kind = Use; position = Early }

abbrev pub op : List OperandValue → InstValue
op os = record { operands = os; clobbers = record { bits = 0 ∷ 0 ∷ 0 ∷ [] }; is_branch = false; is_ret = false }

abbrev pub block : ℕ → ℕ → List ℕ → List VirtualRegister → List (List VirtualRegister) → BlockValue
block i j ss ps as_passed = record { range = record { first = i; end = j }; succs = ss; preds = []; params = ps; arguments = as_passed }

abbrev pub with_blocks : List BlockValue → List InstValue → FunctionValue
with_blocks blocks insts = record {
  blocks = blocks;
  insts = insts;
  entry = 0;
  num_vregs = 4;
  slot_sizes = record { int = 1; float = 1; vector = 1 };
  named_by_last_slot = false;
  labels = [];
  allows_multiple_defs = false;
}

abbrev pub p : ℕ → Place
p n = InRegister (record { number = n; class = Int })

abbrev pub move : ℕ → Place → Place → ℕ × MoveValue
move at x y = (at, record { from = x; to = y })

-- a read of what the first operand of a step's instruction wrote
abbrev pub at_step : ℕ → Option Stamp
at_step n = Some (record { step = n; operand = 0 })

-- a loop whose two parameters change places on each turn, then a return that reads both
abbrev the_loop : FunctionValue
the_loop = with_blocks
    (block 0 3 (1 ∷ []) [] ((v 0 ∷ v 1 ∷ []) ∷ []) ∷ block 3 5 (2 ∷ 3 ∷ []) (v 2 ∷ v 3 ∷ []) ([] ∷ [] ∷ []) ∷ block 5 6 (1 ∷ []) []
    ((v 3 ∷ v 2 ∷ []) ∷ []) ∷ block 6 7 [] [] [] ∷ [])
    (op (def_reg 0 ∷ []) ∷ op (def_reg 1 ∷ []) ∷ op [] ∷ op (use_reg 2 ∷ []) ∷ op [] ∷ op [] ∷ op (use_reg 2 ∷ use_reg 3 ∷ []) ∷ [])

-- the output for the loop, but for the moves at the branch back
abbrev moved_back_by : List (ℕ × MoveValue) → OutputValue
moved_back_by moves = record {
  num_spillslots = 4;
  edits = move (after 0) (p 5) (InSlot 2) ∷ move (after 1) (p 6) (InSlot 3) ∷ move (before 2) (InSlot 3) (p 6) ∷ move (before 2) (p 6) (InSlot 0)
      ∷ move (before 2) (InSlot 2) (p 6) ∷ move (before 2) (p 6) (InSlot 1) ∷ move (before 3) (InSlot 1) (p 7)
      ∷ moves ++ move (before 6) (InSlot 1) (p 9) ∷ move (before 6) (InSlot 0) (p 8) ∷ [];
  allocs = p 5 ∷ p 6 ∷ p 7 ∷ p 9 ∷ p 8 ∷ [];
  offsets = 0 ∷ 1 ∷ 2 ∷ 2 ∷ 3 ∷ 3 ∷ 3 ∷ [];
  debug_locations = [];
}

abbrev the_output : OutputValue
the_output = moved_back_by
    (move (before 5) (InSlot 0) (p 7) ∷ move (before 5) (InSlot 1) (p 6) ∷ move (before 5) (p 6) (InSlot 0) ∷ move (before 5) (p 7) (InSlot 1) ∷ [])

-- slot 1 is copied to slot 0 before slot 0 is read
abbrev one_after_another : OutputValue
one_after_another = moved_back_by
    (move (before 5) (InSlot 1) (p 6) ∷ move (before 5) (p 6) (InSlot 0) ∷ move (before 5) (InSlot 0) (p 7) ∷ move (before 5) (p 7) (InSlot 1) ∷ [])

-- to the first use for the first, the second and the third time, and then to the return
abbrev first_turn : List Way
first_turn = ToSuccessor 0 ∷ Onward ∷ Onward ∷ []

abbrev second_turn : List Way
second_turn = ToSuccessor 0 ∷ ToSuccessor 0 ∷ Onward ∷ first_turn

abbrev third_turn : List Way
third_turn = ToSuccessor 0 ∷ ToSuccessor 0 ∷ Onward ∷ second_turn

abbrev to_return : List Way
to_return = ToSuccessor 1 ∷ Onward ∷ third_turn

-- over three turns the loop reads what steps 0, 1 and 0 wrote
source_turns : map (λ ws. source_read the_loop ws (use_reg 2)) (first_turn ∷ second_turn ∷ third_turn ∷ []) ≡ at_step 0 ∷ at_step 1 ∷ at_step 0 ∷ []
unfolding source_before after_defs passed over_edge
source_turns = refl

-- the return then reads what steps 0 and 1 wrote
source_return : source_read the_loop to_return (use_reg 2) ∷ source_read the_loop to_return (use_reg 3) ∷ [] ≡ at_step 0 ∷ at_step 1 ∷ []
unfolding source_before after_defs passed over_edge
source_return = refl

-- the loop's output reads the same over three turns
found_turns : map (λ ws. allocated_read the_loop the_output ws 0 (use_reg 2)) (first_turn ∷ second_turn ∷ third_turn ∷ []) ≡
    at_step 0 ∷ at_step 1 ∷ at_step 0 ∷ []
unfolding cells_before stored after_moves after_early_defs after_writes after_clobbers has_register
found_turns = refl

-- the loop's output reads the same at the return
found_return : allocated_read the_loop the_output to_return 0 (use_reg 2) ∷ allocated_read the_loop the_output to_return 1 (use_reg 3) ∷ [] ≡
    at_step 0 ∷ at_step 1 ∷ []
unfolding cells_before stored after_moves after_early_defs after_writes after_clobbers has_register
found_return = refl

-- copied one after another, both slots hold one value: the second turn reads what the first did
found_wrong : allocated_read the_loop one_after_another second_turn 0 (use_reg 2) ≡ at_step 0
unfolding cells_before stored after_moves after_early_defs after_writes after_clobbers has_register
found_wrong = refl

-- a fork that passes its value to a parameter on one edge; the parameter is read on either
abbrev the_fork : FunctionValue
the_fork = with_blocks (block 0 2 (1 ∷ 2 ∷ []) [] ((v 0 ∷ []) ∷ [] ∷ []) ∷ block 2 3 [] (v 1 ∷ []) [] ∷ block 3 4 [] [] [] ∷ [])
    (op (def_reg 0 ∷ []) ∷ op [] ∷ op (use_reg 1 ∷ []) ∷ op (use_reg 1 ∷ []) ∷ [])

abbrev output_of_the_fork : OutputValue
output_of_the_fork = record {
  num_spillslots = 2;
  edits = move (after 0) (p 7) (InSlot 1) ∷ move (before 1) (InSlot 1) (p 7) ∷ move (before 1) (p 7) (InSlot 0) ∷ move (before 2) (InSlot 0) (p 8)
      ∷ move (before 3) (InSlot 0) (p 9) ∷ [];
  allocs = p 7 ∷ p 8 ∷ p 9 ∷ [];
  offsets = 0 ∷ 1 ∷ 1 ∷ 2 ∷ [];
  debug_locations = [];
}

-- the edge that passes the value leads to a read of it, the other edge to a read of nothing
source_fork : map (λ k. source_read the_fork (ToSuccessor k ∷ Onward ∷ []) (use_reg 1)) (0 ∷ 1 ∷ []) ≡ at_step 0 ∷ None ∷ []
unfolding source_before after_defs passed over_edge
source_fork = refl

-- the fork's output reads the value on both edges
found_fork : map (λ k. allocated_read the_fork output_of_the_fork (ToSuccessor k ∷ Onward ∷ []) 0 (use_reg 1)) (0 ∷ 1 ∷ []) ≡ at_step 0 ∷ at_step 0 ∷ []
unfolding cells_before stored after_moves after_early_defs after_writes after_clobbers has_register
found_fork = refl

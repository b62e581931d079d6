-- The listing of an allocated function, as the programs write it.
use Rattle.std.specs.Prelude.{ℕ, ◌+◌, codes, List, [], ◌∷◌, ◌++◌, length, flat_map, nat_eq, if◌then◌else◌}
use Rattle.std.specs.Fmt.{decimal}
use Rattle.std.specs.List.{range_with_len}
use Rattle.regalloc2_names.specs.Operand.{OperandValue}
use Rattle.regalloc2_names.specs.Place.{Place}
use Rattle.regalloc2_names.specs.Text.{operand_text, place_text}
use Rattle.regalloc2_function.specs.FunctionValue.{FunctionValue, InstValue, inst_at}
use Rattle.regalloc2_function.specs.OutputValue.{OutputValue, MoveValue, DebugLocation, allocs_of, place_at}
use Rattle.regalloc2_function.specs.Listing.{Listed, ListedInst, ListedMove, block_listing}
use Rattle.regalloc2_text.specs.Point.{point_text}

-- an instruction's kind
abbrev pub opcode_text : InstValue → List ℕ
opcode_text i = if i.is_branch then codes "branch" else (if i.is_ret then codes "ret" else codes "op")

-- the text before the kth operand
abbrev pub separator_text : ℕ → List ℕ
separator_text k = if nat_eq k 0 then codes ": " else codes ", "

-- the kth operand with its place, as : Use: v0i reg [p9i]
unfoldable pub placed_text : ℕ → OperandValue → Place → List ℕ
placed_text k o p = separator_text k ++ operand_text o ++ codes " [" ++ place_text p ++ codes "]"

-- an instruction's operands from the kth on, with its places
unfoldable pub operands_text : List Place → ℕ → List OperandValue → List ℕ
operands_text places k [] = []
operands_text places k (o ∷ os) = placed_text k o (place_at places k) ++ operands_text places (k + 1) os

-- an instruction with its operands, as   inst1 ret: Use: v0i reg [p9i]
unfoldable pub inst_line : FunctionValue → OutputValue → ℕ → List ℕ
inst_line f o i = codes "  inst" ++ decimal i ++ codes " " ++ opcode_text (inst_at f i) ++ operands_text (allocs_of o i) 0 (inst_at f i).operands ++ codes "\n"

-- as   move p9i -> stack0
unfoldable pub move_line : MoveValue → List ℕ
move_line m = codes "  move " ++ place_text m.from ++ codes " -> " ++ place_text m.to ++ codes "\n"

abbrev pub item_line : FunctionValue → OutputValue → Listed → List ℕ
item_line f o (ListedInst i) = inst_line f o i
item_line f o (ListedMove m) = move_line m

-- a block's number, and its instructions, each after the moves that run before it
unfoldable pub block_text : FunctionValue → OutputValue → ℕ → List ℕ
block_text f o b = codes "block" ++ decimal b ++ codes ":\n" ++ flat_map (item_line f o) (block_listing f o b)

-- the units of the slots
unfoldable pub slots_line : ℕ → List ℕ
slots_line n = codes "slots " ++ decimal n ++ codes "\n"

-- the location of a labelled value, as debug 3 inst1-pre inst4-post p9i
unfoldable pub debug_line : DebugLocation → List ℕ
debug_line d = codes "debug " ++ decimal d.label ++ codes " " ++ point_text d.start ++ codes " " ++ point_text d.end ++ codes " " ++ place_text d.place
    ++ codes "\n"

-- block by block the instructions and moves
unfoldable pub blocks_text : FunctionValue → OutputValue → List ℕ
blocks_text f o = flat_map (block_text f o) (range_with_len 0 (length f.blocks))

-- the locations of labelled values
unfoldable pub debug_text : OutputValue → List ℕ
debug_text o = flat_map debug_line o.debug_locations

-- the blocks, the units of slots, and the locations of labelled values
unfoldable pub listing_text : FunctionValue → OutputValue → List ℕ
listing_text f o = blocks_text f o ++ slots_line o.num_spillslots ++ debug_text o

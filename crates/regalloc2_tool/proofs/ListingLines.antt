-- The lines of a listing, one after another.
use Rattle.std.proofs.Common.{◌≡◌, ℕ, suc, ◌+◌, ◌-◌, ◌<◌, ◌≤◌, List, [], ◌∷◌, ◌++◌, length, drop, map, get_or, Option, Result, Bor, refl, sym, ap}
use Rattle.std.proofs.Common.{◌∙◌, append_assoc, arith}
use Rattle.std.specs.Prelude.{OnOk, codes, flat_map}
use Rattle.std.specs.Fmt.{decimal}
use Rattle.std.specs.List.{range_with_len}
use Rattle.std.specs.Io.KnownBytes.{Appends}
use Rattle.std.proofs.KnownBytes.{Appends-trans}
use Rattle.std.proofs.lemmas.List.{at_drop_more, at_drop_all}
use Rattle.regalloc2_names.specs.Operand.{OperandValue}
use Rattle.regalloc2_names.specs.Place.{Place}
use Rattle.regalloc2_function.specs.FunctionValue.{FunctionValue, inst_at}
use Rattle.regalloc2_function.specs.Listing.{Listed, block_listing}
use Rattle.regalloc2_function.specs.OutputValue.{OutputValue, DebugLocation, allocs_of, place_at}
use Rattle.regalloc2_function.specs.Views.{item_of, move_of}
use Rattle.regalloc2_function.specs.declared.listing.Edit.{Edit}
use Rattle.regalloc2_function.specs.declared.listing.InstOrEdit.{InstOrEdit}
use Rattle.regalloc2_function.specs.declared.listing.InstOrEdit.TheVariants.{Inst, Edit as AnEdit}
use Rattle.regalloc2_tool.specs.Listing.{opcode_text, placed_text, operands_text, inst_line, item_line, move_line, block_text, blocks_text}
use Rattle.regalloc2_tool.specs.Listing.{slots_line, debug_line, debug_text, listing_text}
use Rattle.regalloc2_tool.proofs.WrittenInParts.{written_on_ok}

-- one more operand
pub next_operand : (places : List Place) (os : List OperandValue) (k : ℕ) (o : OperandValue) (p : Place) → k < length os → o ≡ get_or os k o →
    p ≡ place_at places k →
    operands_text places k (drop k os) ≡ placed_text k o p ++ operands_text places (k + 1) (drop (k + 1) os)
unfolding operands_text
next_operand places os k o p h e q = at_drop_more (operands_text places k) os k o h ∙
    (ap (λ x. placed_text k x (place_at places k) ++ operands_text places (k + 1) (drop (k + 1) os)) (sym e)
    ∙ ap (λ x. placed_text k o x ++ operands_text places (k + 1) (drop (k + 1) os)) (sym q))

-- if no operand is left, no text of operands is left
pub no_more_operands : (places : List Place) (os : List OperandValue) (k : ℕ) → length os ≤ k → operands_text places k (drop k os) ≡ []
unfolding operands_text
no_more_operands places os k h = at_drop_all (operands_text places k) os k h

-- an instruction's number, kind, places and operands, as they were read
pub record IsInstRead (f : FunctionValue) (o : OutputValue) (i n : ℕ) (name : List ℕ) (places : List Place) (os : List OperandValue) : Type 0 where
  pub number : n ≡ i
  pub opcode : name ≡ opcode_text (inst_at f i)
  pub places_are : places ≡ allocs_of o i
  pub operands : os ≡ (inst_at f i).operands

-- an instruction's line is its number and its kind, its operands, and the line's end
pub inst_written : {X E : Type 0} (r : Result X E) (a b c d : Option (List ℕ)) (f : FunctionValue) (o : OutputValue) (i n : ℕ) (name : List ℕ)
    (places : List Place) (os : List OperandValue) → IsInstRead f o i n name places os →
    Appends a b (codes "  inst" ++ (decimal n ++ (codes " " ++ name))) → Appends b c (operands_text places 0 os) → OnOk r (Appends c d (codes "\n")) →
    OnOk r (Appends a d (inst_line f o i))
unfolding inst_line
inst_written r a b c d f o i n name places os read w v u =
    let head : List ℕ = codes "  inst" ++ (decimal n ++ (codes " " ++ name)) in
    written_on_ok r a c d (inst_line f o i) (head ++ operands_text places 0 os) (codes "\n") (Appends-trans a b c head (operands_text places 0 os) w v) u
    (simp (read.number, read.opcode, read.places_are, read.operands, append_assoc))

-- a block's text begins with its number
pub block_begun : (f : FunctionValue) (o : OutputValue) (b n : ℕ) (rest : List Listed) → n ≡ b → rest ≡ block_listing f o b →
    block_text f o b ≡ (codes "block" ++ (decimal n ++ codes ":\n")) ++ flat_map (item_line f o) rest
unfolding block_text
block_begun f o b n rest en er = simp (en, er, append_assoc)

-- an instruction of a listing
pub next_inst : (f : FunctionValue) (o : OutputValue) (xs ys : List Listed) (x : InstOrEdit) (i : ℕ) → xs ≡ item_of x ∷ ys → x ≡ Inst i →
    flat_map (item_line f o) xs ≡ inst_line f o i ++ flat_map (item_line f o) ys
next_inst f o xs ys x i e s = ap (flat_map (item_line f o)) (e ∙ ap (λ v. item_of v ∷ ys) s)

-- a move of a listing
pub next_move : (f : FunctionValue) (o : OutputValue) (xs ys : List Listed) (x : InstOrEdit) (e : Bor Edit) → xs ≡ item_of x ∷ ys → x ≡ AnEdit e →
    flat_map (item_line f o) xs ≡ move_line (move_of e.now) ++ flat_map (item_line f o) ys
next_move f o xs ys x d e s = ap (flat_map (item_line f o)) (e ∙ ap (λ v. item_of v ∷ ys) s)

-- one more block
pub next_block : (f : FunctionValue) (o : OutputValue) (b : ℕ) → b < length f.blocks →
    flat_map (block_text f o) (range_with_len b (length f.blocks - b)) ≡ block_text f o b
    ++ flat_map (block_text f o) (range_with_len (b + 1) (length f.blocks - (b + 1)))
next_block f o b h =
    let n : length f.blocks - b ≡ suc (length f.blocks - (b + 1)) = omega arith in
    rw n refl

-- if no block is left, no text of blocks is left
pub no_more_blocks : (f : FunctionValue) (o : OutputValue) (b : ℕ) → length f.blocks ≤ b →
    flat_map (block_text f o) (range_with_len b (length f.blocks - b)) ≡ []
no_more_blocks f o b h =
    let n : length f.blocks - b ≡ 0 = omega arith in
    rw n refl

-- the text of a function's blocks is that of the blocks from number 0 on
pub all_blocks : (f : FunctionValue) (o : OutputValue) → blocks_text f o ≡ flat_map (block_text f o) (range_with_len 0 (length f.blocks - 0))
unfolding blocks_text
all_blocks f o =
    let n : length f.blocks - 0 ≡ length f.blocks = omega arith in
    rw n refl

-- one more labelled value
pub next_location : {D : Type 0} (v : D → DebugLocation) (ds : List D) (k : ℕ) (d : D) → k < length ds → d ≡ get_or ds k d →
    flat_map debug_line (map v (drop k ds)) ≡ debug_line (v d) ++ flat_map debug_line (map v (drop (k + 1) ds))
next_location v ds k d h e = at_drop_more (λ xs. flat_map debug_line (map v xs)) ds k d h
    ∙ ap (λ x. debug_line (v x) ++ flat_map debug_line (map v (drop (k + 1) ds))) (sym e)

-- if no labelled value is left, no line of labelled values is left
pub no_more_locations : {D : Type 0} (v : D → DebugLocation) (ds : List D) (k : ℕ) → length ds ≤ k → flat_map debug_line (map v (drop k ds)) ≡ []
no_more_locations v ds k h = at_drop_all (λ xs. flat_map debug_line (map v xs)) ds k h

-- if a list shows as an output's labelled values, their text is a line for each of its items
pub all_locations : {D : Type 0} (v : D → DebugLocation) (o : OutputValue) (ds : List D) → o.debug_locations ≡ map v ds →
    debug_text o ≡ flat_map debug_line (map v ds)
unfolding debug_text
all_locations v o ds e = ap (flat_map debug_line) e

-- the blocks, the units of slots, and the labelled values
pub listing_written : {X E : Type 0} (r : Result X E) (a b c d : Option (List ℕ)) (f : FunctionValue) (o : OutputValue) → Appends a b (blocks_text f o) →
    Appends b c (codes "slots " ++ (decimal o.num_spillslots ++ codes "\n")) → OnOk r (Appends c d (debug_text o)) → OnOk r (Appends a d (listing_text f o))
unfolding listing_text slots_line
listing_written r a b c d f o w v u =
    let line : List ℕ = codes "slots " ++ (decimal o.num_spillslots ++ codes "\n") in
    written_on_ok r a c d (listing_text f o) (blocks_text f o ++ line) (debug_text o) (Appends-trans a b c (blocks_text f o) line w v) u refl

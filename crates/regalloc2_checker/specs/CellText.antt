-- The texts of faults in the places that an output names.
use Rattle.std.specs.Prelude.{ℕ, codes, List, [], ◌++◌}
use Rattle.std.specs.Fmt.{decimal}
use Rattle.regalloc2_checker.specs.declared.cells.CellFault.{CellFault}
use Rattle.regalloc2_checker.specs.declared.cells.CellFault.TheVariants.{Operand, MoveEnd, OtherClass, Location, Slot, Shared, Memory}

-- the number of a kind of fault
abbrev pub cell_code : CellFault → ℕ
cell_code (Operand i k) = 14
cell_code (MoveEnd k) = 14
cell_code (OtherClass k) = 15
cell_code (Location k) = 14
cell_code (Slot n) = 16
cell_code (Shared m n) = 17
cell_code Memory = 13

-- the operand, move, debug location or slots at fault, as  inst3 operand 1
abbrev pub cell_subject : CellFault → List ℕ
cell_subject (Operand i k) = codes " inst" ++ decimal i ++ codes " operand " ++ decimal k
cell_subject (MoveEnd k) = codes " move " ++ decimal k
cell_subject (OtherClass k) = codes " move " ++ decimal k
cell_subject (Location k) = codes " debug " ++ decimal k
cell_subject (Slot n) = codes " stack" ++ decimal n
cell_subject (Shared m n) = codes " stack" ++ decimal m ++ codes " stack" ++ decimal n
cell_subject Memory = []

-- what is wrong
abbrev pub cell_words : CellFault → List ℕ
cell_words (Operand i k) = codes "no register for its class, and no slot of the frame"
cell_words (MoveEnd k) = codes "an end is no place of the machine, and no slot of the frame"
cell_words (OtherClass k) = codes "it goes from a register to one of another class"
cell_words (Location k) = codes "no place of the machine, and no slot of the frame"
cell_words (Slot n) = codes "it isn't within the frame"
cell_words (Shared m n) = codes "they share a unit"
cell_words Memory = codes "out of memory"

-- as error 16 stack5: it isn't within the frame
abbrev pub cell_text : CellFault → List ℕ
cell_text e = codes "error " ++ decimal (cell_code e) ++ cell_subject e ++ codes ": " ++ cell_words e

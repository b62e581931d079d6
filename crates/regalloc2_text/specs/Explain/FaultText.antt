-- The texts of the causes of errors in stored numbers, and the words in them.
use Rattle.std.specs.Prelude.{ℕ, codes, List, [], ◌++◌, nat_eq, if◌then◌else◌}
use Rattle.std.specs.Fmt.{decimal}
use Rattle.regalloc2_names.specs.declared.RegClass.{RegClass}
use Rattle.regalloc2_names.specs.declared.RegClass.TheVariants.{Int, Float, Vector}
use Rattle.regalloc2_function.specs.FaultText.{fault_reason}
use Rattle.regalloc2_text.specs.declared.explain.stored_cause.EncodingCause.{EncodingCause}
use Rattle.regalloc2_text.specs.declared.explain.stored_cause.EncodingCause.TheVariants.{Register, OperandWord, Clobber, VRegWord, LabelWord}
use Rattle.regalloc2_text.specs.declared.explain.stored_cause.IndexCause.{IndexCause}
use Rattle.regalloc2_text.specs.declared.explain.stored_cause.IndexCause.TheVariants.{Entry, Neighbour, Range, LabelPastCount}
use Rattle.regalloc2_text.specs.declared.explain.stored_cause.LengthCause.{LengthCause}
use Rattle.regalloc2_text.specs.declared.explain.stored_cause.LengthCause.TheVariants.{BlockList, ArgumentLists, ClassList}
use Rattle.regalloc2_text.specs.declared.explain.stored_cause.LimitCause.{LimitCause}
use Rattle.regalloc2_text.specs.declared.explain.stored_cause.LimitCause.TheVariants.{TooMany, SlotSize}
use Rattle.regalloc2_text.specs.declared.explain.stored_cause.OutputCause.{OutputCause}
use Rattle.regalloc2_text.specs.declared.explain.stored_cause.OutputCause.TheVariants.{Move, Place, Location}
use Rattle.regalloc2_text.specs.declared.explain.stored_cause.StoredCause.{StoredCause}
use Rattle.regalloc2_text.specs.declared.explain.stored_cause.StoredCause.TheVariants.{Length, Index, Encoding, Limit, Output, Known}

-- as a text names a class
abbrev pub class_word : RegClass → List ℕ
class_word Int = codes "int"
class_word Float = codes "float"
class_word Vector = codes "vector"

-- a count with its noun, as 1 register or 2 registers
abbrev pub counted_text : ℕ → List ℕ → List ℕ
counted_text n noun = decimal n ++ codes " " ++ noun ++ (if nat_eq n 1 then [] else codes "s")

-- a list's length
abbrev pub length_cause_text : LengthCause → List ℕ
length_cause_text (BlockList list n blocks) = list.now ++ codes " has " ++ counted_text n (codes "member") ++ codes " for "
    ++ counted_text blocks (codes "block")
length_cause_text (ArgumentLists b lists succs) = codes "block" ++ decimal b ++ codes " has " ++ counted_text lists (codes "list")
    ++ codes " of arguments for " ++ counted_text succs (codes "successor")
length_cause_text (ClassList list n) = list.now ++ codes " has " ++ counted_text n (codes "member") ++ codes " for 3 classes"

-- a number that is out of range
abbrev pub index_cause_text : IndexCause → List ℕ
index_cause_text (Entry b blocks) = codes "the entry is block" ++ decimal b ++ codes ", and the function has " ++ counted_text blocks (codes "block")
index_cause_text (Neighbour b role named blocks) = codes "block" ++ decimal b ++ codes " lists block" ++ decimal named ++ codes " as a " ++ role.now
    ++ codes ", and the function has " ++ counted_text blocks (codes "block")
index_cause_text (Range b first end insts) = codes "block" ++ decimal b ++ codes " goes from instruction " ++ decimal first ++ codes " up to "
    ++ decimal end ++ codes " of " ++ decimal insts
index_cause_text (LabelPastCount i v n) = codes "label " ++ decimal i ++ codes ", counted from 0, is of v" ++ decimal v
    ++ codes ", and only numbers below " ++ decimal n ++ codes " are defined"

-- an encoding or a register's index that names nothing
abbrev pub encoding_cause_text : EncodingCause → List ℕ
encoding_cause_text (Register list index) = list.now ++ codes " has " ++ decimal index ++ codes ", which is no register's index"
encoding_cause_text (OperandWord inst i word) = codes "operand " ++ decimal i ++ codes " of inst" ++ decimal inst ++ codes ", counted from 0, is "
    ++ decimal word ++ codes ", which is no operand's word"
encoding_cause_text (Clobber inst index) = codes "inst" ++ decimal inst ++ codes " clobbers " ++ decimal index
    ++ codes ", which is no register's index"
encoding_cause_text (VRegWord b role word) = codes "block" ++ decimal b ++ codes " has " ++ decimal word ++ codes " as " ++ role.now
    ++ codes ", which is no virtual register's word"
encoding_cause_text (LabelWord i word) = codes "label " ++ decimal i ++ codes ", counted from 0, is of " ++ decimal word
    ++ codes ", which is no virtual register's word"

-- a limit that is exceeded
abbrev pub limit_cause_text : LimitCause → List ℕ
limit_cause_text (TooMany n what limit) = codes "there are " ++ decimal n ++ codes " " ++ what.now ++ codes ", and the limit is " ++ limit.now
limit_cause_text (SlotSize c size) = codes "a slot of the class " ++ class_word c ++ codes " takes " ++ decimal size
    ++ codes " units, which is no power of two from 1 to 2^24"

-- an output's entry
abbrev pub output_cause_text : OutputCause → List ℕ
output_cause_text (Move i) = codes "move " ++ decimal i ++ codes ", counted from 0, has a word of no point or place"
output_cause_text (Place i word) = codes "place " ++ decimal i ++ codes ", counted from 0, is " ++ decimal word ++ codes ", which is no place's word"
output_cause_text (Location i) = codes "debug location " ++ decimal i ++ codes ", counted from 0, has a word of no point or place"

abbrev pub stored_cause_text : StoredCause → List ℕ
stored_cause_text (Length c) = length_cause_text c
stored_cause_text (Index c) = index_cause_text c
stored_cause_text (Encoding c) = encoding_cause_text c
stored_cause_text (Limit c) = limit_cause_text c
stored_cause_text (Output c) = output_cause_text c
stored_cause_text (Known e) = fault_reason e

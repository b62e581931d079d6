-- The texts of names.
use Rattle.std.specs.Prelude.{ℕ, zero, suc, ◌%◌, codes, List, [], ◌∷◌, ◌++◌, nat_eq, if◌then◌else◌, Option, None, Some}
use Rattle.std.specs.Fmt.{decimal}
use Rattle.regalloc2_names.specs.declared.OperandConstraint.{OperandConstraint}
use Rattle.regalloc2_names.specs.declared.OperandConstraint.TheVariants.{Any, Reg, Stack, FixedReg, Reuse, Limit}
use Rattle.regalloc2_names.specs.declared.OperandKind.{OperandKind}
use Rattle.regalloc2_names.specs.declared.OperandKind.TheVariants.{Def, Use}
use Rattle.regalloc2_names.specs.declared.OperandPos.{OperandPos}
use Rattle.regalloc2_names.specs.declared.OperandPos.TheVariants.{Early, Late}
use Rattle.regalloc2_names.specs.declared.RegAllocError.{RegAllocError}
use Rattle.regalloc2_names.specs.declared.RegAllocError.TheVariants.{CritEdge, SSA, BB, Branch, EntryLivein, DisallowedBranchArg, TooManyLiveRegs}
use Rattle.regalloc2_names.specs.declared.RegAllocError.TheVariants.{TooManyOperands, Unsupported, TooManySpillSlots, Memory}
use Rattle.regalloc2_names.specs.declared.RegAllocErrorKind.{RegAllocErrorKind}
use Rattle.regalloc2_names.specs.declared.RegAllocErrorKind.TheVariants as kind
use Rattle.regalloc2_names.specs.declared.RegClass.{RegClass}
use Rattle.regalloc2_names.specs.declared.RegClass.TheVariants.{Int, Float, Vector}
use Rattle.regalloc2_names.specs.declared.InstPosition.{InstPosition}
use Rattle.regalloc2_names.specs.declared.InstPosition.TheVariants.{Before, After}
use Rattle.regalloc2_names.specs.ErrorKind.{kind_of}
use Rattle.regalloc2_names.specs.Operand.{OperandValue, nonallocatable_register}
use Rattle.regalloc2_names.specs.Place.{Place, NoPlace, InRegister, InSlot, inst_of_point, position_of_point}
use Rattle.regalloc2_names.specs.Register.{Register, VirtualRegister}
use Rattle.regalloc2_names.specs.RegisterBits.{bits_of_register}

abbrev pub class_letter : RegClass → List ℕ
class_letter Int = codes "i"
class_letter Float = codes "f"
class_letter Vector = codes "v"

-- as p3i
abbrev pub register_text : Register → List ℕ
register_text r = codes "p" ++ decimal r.number ++ class_letter r.class

-- as v7
abbrev pub vreg_text : VirtualRegister → List ℕ
vreg_text v = codes "v" ++ decimal v.number

-- a virtual register (vreg) with its class, as v7i
abbrev pub class_vreg_text : VirtualRegister → List ℕ
class_vreg_text v = vreg_text v ++ class_letter v.class

-- as stack5; the invalid slot has the greatest number
abbrev pub slot_text : ℕ → List ℕ
slot_text n = codes "stack" ++ decimal (n % 16777216)

abbrev pub place_text : Place → List ℕ
place_text NoPlace = codes "none"
place_text (InRegister r) = register_text r
place_text (InSlot n) = slot_text n

-- a limit names the numbers below it
abbrev pub limit_text : ℕ → List ℕ
limit_text zero = codes "limit(none)"
limit_text (suc n) = codes "limit(0..=" ++ decimal n ++ codes ")"

abbrev pub constraint_text : OperandConstraint → List ℕ
constraint_text Any = codes "any"
constraint_text Reg = codes "reg"
constraint_text Stack = codes "stack"
constraint_text (FixedReg r) = codes "fixed(" ++ register_text r ++ codes ")"
constraint_text (Reuse i) = codes "reuse(" ++ decimal i ++ codes ")"
constraint_text (Limit n) = limit_text n

-- the position is named where it isn't the usual one
abbrev pub kind_text : OperandKind → OperandPos → List ℕ
kind_text Def Late = codes "Def"
kind_text Def Early = codes "Def@Early"
kind_text Use Early = codes "Use"
kind_text Use Late = codes "Use@Late"

abbrev pub vreg_operand_text : OperandValue → List ℕ
vreg_operand_text o = kind_text o.kind o.position ++ codes ": " ++ vreg_text o.vreg ++ class_letter o.vreg.class ++ codes " " ++ constraint_text o.constraint

abbrev pub text_of_operand : OperandValue → Option Register → List ℕ
text_of_operand o None = vreg_operand_text o
text_of_operand o (Some r) = codes "Fixed: " ++ register_text r

-- as Use: v0i reg, or Fixed: p63i
abbrev pub operand_text : OperandValue → List ℕ
operand_text o = text_of_operand o (nonallocatable_register o)

-- each register followed by a comma and a space
unfoldable pub members_text : List Register → List ℕ
members_text [] = []
members_text (r ∷ rs) = register_text r ++ codes ", " ++ members_text rs

abbrev pub set_text : List Register → List ℕ
set_text rs = codes "{" ++ members_text rs ++ codes "}"

-- The texts for programmers.
abbrev pub class_name : RegClass → List ℕ
class_name Int = codes "Int"
class_name Float = codes "Float"
class_name Vector = codes "Vector"

-- as PReg(hw = 3, class = Int, index = 3)
abbrev pub register_debug_text : Register → List ℕ
register_debug_text r = codes "PReg(hw = " ++ decimal r.number ++ codes ", class = " ++ class_name r.class ++ codes ", index = " ++ decimal (bits_of_register r)
    ++ codes ")"

-- as VReg(vreg = 7, class = Int)
abbrev pub vreg_debug_text : VirtualRegister → List ℕ
vreg_debug_text v = codes "VReg(vreg = " ++ decimal v.number ++ codes ", class = " ++ class_name v.class ++ codes ")"

abbrev pub position_ending : InstPosition → List ℕ
position_ending Before = codes "-pre"
position_ending After = codes "-post"

-- as progpoint3-pre
abbrev pub point_debug_text : ℕ → List ℕ
point_debug_text p = codes "progpoint" ++ decimal (inst_of_point p) ++ position_ending (position_of_point p)

-- where a definition or a use is; the greatest number stands for no instruction
abbrev pub site_text : ℕ → List ℕ
site_text i = if nat_eq i 4294967295 then codes "a block's parameter" else codes "inst" ++ decimal i

-- what an error names, followed by a colon: an edge, a vreg with its site, a block, an instruction or nothing
abbrev pub refusal_heading : RegAllocError → List ℕ
refusal_heading (CritEdge a b) = codes "block" ++ decimal a ++ codes " to block" ++ decimal b ++ codes ": "
refusal_heading (SSA v i) = class_vreg_text v ++ codes " at " ++ site_text i ++ codes ": "
refusal_heading (BB b) = codes "block" ++ decimal b ++ codes ": "
refusal_heading (Branch i) = codes "inst" ++ decimal i ++ codes ": "
refusal_heading EntryLivein = []
refusal_heading (DisallowedBranchArg i) = codes "inst" ++ decimal i ++ codes ": "
refusal_heading TooManyLiveRegs = []
refusal_heading TooManyOperands = []
refusal_heading (Unsupported i) = codes "inst" ++ decimal i ++ codes ": "
refusal_heading TooManySpillSlots = []
refusal_heading Memory = []

-- the cause of an error in words; the function's start counts as an incoming edge of the entry
abbrev pub cause_text : RegAllocErrorKind → List ℕ
cause_text kind.CritEdge = codes "an edge is critical (its block has several successors, and the successor several incoming edges, counting the start)"
cause_text kind.SSA = codes "a vreg is defined twice, isn't below the count of vregs, or is used without an earlier definition"
cause_text kind.BB = codes
    "a block doesn't exist, has a wrong instruction range, wrong predecessors or wrong terminators, or is the entry but not block 0"
cause_text kind.Branch = codes "a branch passes arguments that don't fit the parameters"
cause_text kind.EntryLivein = codes "the entry has parameters"
cause_text kind.DisallowedBranchArg = codes "a branch with operands leads to a block with several incoming edges, counting the start"
cause_text kind.TooManyLiveRegs = codes "an instruction needs more registers than there are"
cause_text kind.TooManyOperands = codes "there are 2^32 operands or more"
cause_text kind.Unsupported = codes
    "an operand isn't supported: a limit, an unsound reuse, a definition or late use fixed to a clobber, or a branch's definition in any register or by a reuse"
cause_text kind.TooManySpillSlots = codes "spill slots would take more than 2^24 units"
cause_text kind.Memory = codes "out of memory"

-- an error's whole text: what it names, and the cause
abbrev pub refusal_text : RegAllocError → List ℕ
refusal_text e = refusal_heading e ++ cause_text (kind_of e)

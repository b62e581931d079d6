-- A branch passes its arguments: each is spilled to its slot, then all are moved in parallel to their parameters'
-- slots.
-- Read first: `branch_carries` in `BranchCarries`, the theorem for one vreg and any block, with its premises.
-- Depends on `Operands`, `BlockEnd` and `Walk`, and on `SingleDef` of regalloc2_carry and `Soundness` of
-- regalloc2_semantics.
-- Main theorem: `branches_carry` in `BranchInWalk`. In a well-formed function the last instruction of a block, if it
-- is a branch, carries each used vreg to where it is needed after the block: in its own slot, or in the slot of a
-- parameter to which it is passed.
-- `branch_carries` has two halves. Arguments are spilled: `ArgsSpilled` (`argument_spilled`, one argument),
-- `EdgeArgsGathered` (`arguments_gathered`), `BranchInParts` (`carries_after_spills`). They are moved: `ArgMovesPushed`
-- (`after_made`), `ArgMovesByClass` (`class_moves_done`), `ArgMovesEffect` (`relied_kept`, `passed_moved`).
-- `Arrivals` says where vregs are at a block's start, with what the branch into it defines, and `PlacesOnArrival`
-- has a function that gives this location (`vregs_arrive`). `DefinitionsCarry` is what a branch defines, `EdgesInto`
-- that no other branch leads into the successors of a branch that defines something.
-- `BlockEnd/BranchEndsBlock` adds the branch itself; `WellFormedBranch` gives premises for well-formed functions.
-- `LocationsAfterBranch` (`branch_kept`) says for `Walk` what a branch keeps of slots and locations.
-- `ArgMovesAreParallel` and `WellFormedMayBranch` serve contracts of the code: no file here imports them.
pub mod ArgMovesAreParallel
pub mod ArgMovesByClass
pub mod ArgMovesEffect
pub mod ArgMovesPushed
pub mod ArgsSpilled
pub mod Arrivals
pub mod BranchCarries
pub mod BranchInParts
pub mod BranchInWalk
pub mod DefinitionsCarry
pub mod EdgeArgsGathered
pub mod EdgesInto
pub mod LocationsAfterBranch
pub mod PlacesOnArrival
pub mod WellFormedBranch
pub mod WellFormedMayBranch

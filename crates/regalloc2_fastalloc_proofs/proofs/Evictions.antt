-- Registers that an instruction takes are evicted: their vregs go to their slots, and are reloaded after it.
-- Read first: `evicts_vreg_step` in `EvictVReg` (one allocatable register), and `Kept` there: what no eviction changes.
-- Depends on `Operands` for the record of an instruction's operands, and on `Moves` for scratch registers.
-- Main theorem: `ready_evicts_preg` in `EvictKeepsRecord` (`ready_evicts_other_vregs`, where the operand's own vreg may
-- stay): an eviction keeps the record of the instruction's operands, so the listing still carries each vreg from its
-- location, which is now its slot.
-- `EvictPReg` adds fixed stack slots, whose reload goes through a scratch register (`evicts_preg_step`,
-- `evicts_other_vregs_step`); `EvictKeepsRecord` puts either into the record; `EvictFixed` does so for all fixed
-- registers, which their operands then claim (`evicts_fixed_done`). Clobbers are evicted in
-- `Inst/BoundaryToFirstOperand`, by `ready_evicts_preg`. `FixedAvoidClobbers` gives its premise for well-formed
-- instructions. `EvictClobbers`, `FixedUsed`, `NewestLeaves` and `PushedAndRemoved` serve other crates: no file here
-- imports them.
pub mod EvictClobbers
pub mod EvictFixed
pub mod EvictKeepsRecord
pub mod EvictPReg
pub mod EvictVReg
pub mod FixedAvoidClobbers
pub mod FixedUsed
pub mod NewestLeaves
pub mod PushedAndRemoved

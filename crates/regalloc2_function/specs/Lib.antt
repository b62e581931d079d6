-- The definitions that all contracts share: functions, machines, outputs, listings, well-formed functions.
-- Tables of blocks and of definitions, the order of a depth-first walk, and sets of numbers.
-- Read first: `FunctionValue`, `Machine`, `OutputValue`, `WellFormed`, `Reasons`. Then `Leaves`, the order; `Numbers`,
-- the sets. `Inside`: for this crate's own loops.
-- Depends on regalloc2_names: registers, vregs, places, operands and program points.
pub mod FunctionValue
pub mod OutputValue
pub mod Machine
pub mod Listing
pub mod Views
pub mod WellFormed
pub mod Fitting
pub mod Reasons
pub mod Stored
pub mod FaultText
pub mod Misfit
pub mod MisfitText
pub mod RoleText
pub mod SingleUnits
pub mod Leaves
pub mod Listed
pub mod Tables
pub mod Numbers
pub mod Inside

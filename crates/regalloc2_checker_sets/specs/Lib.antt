-- Sets of vregs by number, arrays of such numbers with saved copies in shared chunks, and the places where a vreg may be.
-- Read first: `EntrySets`, then `SavedNumbers` and `Held`, what an array of set numbers holds.
-- Depends on the sets of numbers of regalloc2_function alone: places and vregs are numbers here.
pub mod SavedCopies
pub mod SavedNumbers
pub mod EntrySets
pub mod Held
pub mod Homes
pub mod PlaceEntries
pub mod Renumbering
pub mod PassedSets

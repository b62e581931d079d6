-- First and last points of vregs, and the debug labels that are kept, are as their definitions have them.
-- Read first: `FirstAndLastPoints` (`range_of_definition`, `used_ends`), then `UsesNoted` (`uses_last`, `uses_inside`).
-- Depends on `Debug` of regalloc2_semantics, and on `SingleDef` and `Order` of regalloc2_carry.
-- Main theorems: `walked_all` in `LiveRangeTable`, the table after the walk has each vreg's live range; `kept_from` in
-- `KeptLabels`.
-- `UsesNoted` is what the walk notes at one instruction. `UsesInSSA` says which instructions may use a vreg; `ItemsPastEnd` serves all. `Spread`: tables with
-- entries of the requested numbers alone are read as tables by number (`set_spread`), as all other files do. `Labelled`: which numbers are requested. The
-- walk passes over an instruction that adds nothing to their live ranges (`walked_over` in `LiveRangeTable`); `Named`: one that names none of them adds
-- nothing (`lists_adding`); `Listed`: the list that the walk follows.
pub mod ItemsPastEnd
pub mod Spread
pub mod UsesNoted
pub mod UsesInSSA
pub mod FirstAndLastPoints
pub mod LiveRangeTable
pub mod Named
pub mod Listed
pub mod KeptLabels
pub mod Labelled

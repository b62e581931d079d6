-- Which vregs each place holds, by block: tables by number, of which blocks share the chunks in which they agree. Facts (which write
-- a place holds), their fixpoint, and the errors reported. What a checker holds, and what it found; the places that an output names,
-- apart, and the faults of places that aren't.
-- Read first: `Showing`, what tables show, over `Holding`; `Facts`, then `AcceptedIsFaithful` in `Fixpoint`, then `IsReport` in
-- `Report`; `Prepared`; `Cells`.
-- Depends on regalloc2_function (paths, both runs, faithful outputs), and on regalloc2_checker_sets: the sets, the saved copies, and
-- the places where vregs may be.
pub mod Holding
pub mod Showing
pub mod Facts
pub mod Fixpoint
pub mod TableFacts
pub mod Renamed
pub mod NamedPlaces
pub mod NamedBits
pub mod Tables
pub mod Propagation
pub mod Swept
pub mod Listing
pub mod ListingCopied
pub mod Report
pub mod CheckInputs
pub mod Blocks
pub mod Text
pub mod NamedSlots
pub mod FramedIsProp
pub mod Prepared
pub mod ErrorsFound
pub mod ErrorsText
pub mod Beginning
pub mod CellRegisters
pub mod Cells
pub mod CellFaults
pub mod CellText

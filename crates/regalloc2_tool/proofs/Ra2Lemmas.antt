-- Lemmas for the status and the text of `ra2`: each outcome is an outcome of the specs.
-- Read first: `verdict` and `outcome` in `Outcomes`; `FindingsWritten` writes reports, `TextReadings` reads input.
-- Depends on `Input`, `Outcome` and `Findings` of the specs.
pub mod FindingsWritten
pub mod Outcomes
pub mod TextReadings

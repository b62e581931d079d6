-- Lemmas for writing a listing part by part.
-- Read first: `listing_written` in `ListingLines`, over `WrittenInParts`. `Ra2Lemmas` is apart. `Accepting`: what
-- accepted calls say.
-- Depends on `Listing` of the specs. `ListedInsts`: the instructions of a block's listing are the function's.
pub mod ListedInsts
pub mod ListingLines
pub mod Ra2Lemmas
pub mod WrittenInParts
pub mod Accepting

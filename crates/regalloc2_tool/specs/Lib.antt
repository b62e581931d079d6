-- Texts that the programs share: the listing of an allocated function, and errors with their numbers.
-- Read first: `listing_text` in `Listing`; `Text`; `Framed`.
-- `Calls`: what an accepted call of `ra2_text` says of its input.
-- `Ra2`: what each status of the program says of the function that its input names.
-- Depends on regalloc2_names (texts of names) and regalloc2_function (listings).
pub mod Calls
pub mod Framed
pub mod Listing
pub mod Ra2
pub mod Text

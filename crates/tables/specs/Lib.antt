-- What a call on a table that lists cubes refuses.
pub mod Listing

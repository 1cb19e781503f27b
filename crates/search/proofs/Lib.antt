-- What the answers of the search follow from.
pub mod Branches

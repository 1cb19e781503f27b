-- Why the rows that are gathered are a cover.
pub mod Gathering

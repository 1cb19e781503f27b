-- What is gathered from a list of rows.
pub mod Gathered

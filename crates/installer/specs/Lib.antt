-- The numbers that C gets, and what else their proofs need.
pub mod Numbers
pub mod Steps

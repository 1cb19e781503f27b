-- The list file, what Write and Read refuse and give, the file by positions, the round trips, and what a step asks for.
pub mod File
pub mod Write
pub mod Read
pub mod Theorems
pub mod Steps

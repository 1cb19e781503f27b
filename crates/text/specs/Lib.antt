-- The characters, the grammar of the input, what is printed, and the theorems; what the functions promise step by step, and what a reader stands for.
pub mod Characters
pub mod Input
pub mod Output
pub mod Theorems
pub mod Steps
pub mod Readers

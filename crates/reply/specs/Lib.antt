-- What is printed for a whole input, and document 01's example.
pub mod Reply
pub mod Theorems

-- The laws of words, of sets of columns and of sets of rows, and of an array that a closure makes.
pub mod Bits
pub mod Sets
pub mod Made
pub mod Members
pub mod Loops
pub mod Without

-- What `sums` prints for a whole input, what its line means, and document 02's example.
pub mod Sums
pub mod Theorems

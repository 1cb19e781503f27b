-- The cube of the bits that a code keeps, what the steps of the call hold, and document 02's theorem about essential primes.
pub mod Vicinity
pub mod Steps
pub mod Theorems

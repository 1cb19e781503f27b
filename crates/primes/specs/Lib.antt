-- What the steps of Primes leave, and what its promise says about McCluskey's prime implicants. What it refuses is what every call that lists cubes refuses.
pub mod Steps
pub mod Theorems

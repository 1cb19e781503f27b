-- The flipping of bits, the vicinity of a code and the theorems about essential primes; what the steps need: the vicinity read bit by bit, a number put into
-- an ascending list, and the cubes that are found at the codes, one code after the other; and the wrong answers that the promise shuts out.
pub mod Flipping
pub mod Vicinity
pub mod Theorems
pub mod Reading
pub mod Inserting
pub mod Finding
pub mod Refuted

-- The laws of tests, of the numbers below a bound, of numbers whose bits tell which of them pass, of those of a list that pass and of lists that are written
-- from the front; and the definitions on one example.
pub mod Bools
pub mod Flags
pub mod Below
pub mod Bits
pub mod Kept
pub mod Fronts
pub mod Lent
pub mod Loops
pub mod Closures
pub mod Examples

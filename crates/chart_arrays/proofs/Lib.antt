-- The words of codes, the tested bits, the primes as they are listed for the rows and how many rows there are, values that are written one by one, and what a
-- chart row's word tells.
pub mod Columns
pub mod Literals
pub mod Rows
pub mod Written
pub mod Theorems

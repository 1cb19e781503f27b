-- The words of the primes, why a prime with a sole entry is essential, and that McCluskey's single asterisk rows are reported.
pub mod Words
pub mod SoleEntries
pub mod Theorems

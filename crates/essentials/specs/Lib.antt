-- What the steps of Essentials hold, and what its promise says of McCluskey's single asterisk rows. What it refuses is what Primes refuses.
pub mod Steps
pub mod Theorems

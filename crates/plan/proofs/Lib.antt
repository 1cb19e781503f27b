-- From the weights to the chosen list, how Plan ends, what follows from its promise, lists that hold all primes, and the wrong answers that the promise
-- shuts out.
pub mod Picked
pub mod Weights
pub mod Selections
pub mod Refusals
pub mod Endings
pub mod Choice
pub mod Answers
pub mod Theorems
pub mod Sole
pub mod Refuted

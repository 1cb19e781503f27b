-- What the exchange of wanted and barred codes does, what follows from the call's promise, and the wrong answers that the promise shuts out.
pub mod Exchanging
pub mod Theorems
pub mod Refuted

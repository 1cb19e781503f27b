-- What the call that builds both lists promises, what follows for the arrays, and what its steps promise.
pub mod Better
pub mod Theorems
pub mod Steps

-- What Plan promises, what follows for the arrays, and what its steps leave.
pub mod Plan
pub mod Theorems
pub mod Steps

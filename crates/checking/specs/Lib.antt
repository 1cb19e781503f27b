-- What Check answers, what each answer says, and what its steps tell.
pub mod Check
pub mod Theorems
pub mod Steps

-- The verdict by the lowest wrong code, what each answer says, and the wrong answers that the promise shuts out.
pub mod Verdicts
pub mod Theorems
pub mod Refuted

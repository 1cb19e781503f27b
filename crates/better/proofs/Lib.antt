-- Which of two counts are better, how the call ends, what it tells, and the wrong answers that its promise shuts out.
pub mod Counting
pub mod Endings
pub mod Theorems
pub mod Refuted

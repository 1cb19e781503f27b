-- What Cells refuses, then what its steps leave.
pub mod Cells
pub mod Steps

-- The columns of a chart row and what its word tells, then the chart.
pub mod Columns
pub mod Rows
pub mod Theorems
pub mod Steps

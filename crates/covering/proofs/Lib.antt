-- The laws of weighted covers.
pub mod Sums
pub mod Bounds
pub mod Sets
pub mod Reductions
pub mod Choices
pub mod Inequalities
pub mod Exchanges

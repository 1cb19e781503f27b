-- What the reductions of a covering problem promise, and what their steps show.
pub mod Reduction
pub mod Steps

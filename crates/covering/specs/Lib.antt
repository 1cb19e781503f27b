-- What a weighted cover is, what bounds it from below, and what a reduction keeps.
pub mod Sum
pub mod Weighted
pub mod Search
pub mod Inequalities

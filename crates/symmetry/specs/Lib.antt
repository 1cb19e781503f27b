-- What the symmetries of a covering problem on slices are, and what an orbit of rows promises.
pub mod Symmetry
pub mod Steps

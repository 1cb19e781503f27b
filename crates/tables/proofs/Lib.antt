-- How a call on a table that lists cubes ends, and the wrong refusals that its promise shuts out.
pub mod Listing
pub mod Refuted

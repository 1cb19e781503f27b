-- What the search promises, and what its steps show.
pub mod Search
pub mod Steps

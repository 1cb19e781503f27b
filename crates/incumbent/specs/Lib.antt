-- What a first cover promises, and what the check of it shows on the way.
pub mod Incumbent
pub mod Steps

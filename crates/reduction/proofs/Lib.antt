-- What each step of a reduction shows.
pub mod Narrowing
pub mod Steps

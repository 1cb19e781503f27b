-- What a bound promises, and what prices for the columns show on the way to it.
pub mod Bound
pub mod Steps

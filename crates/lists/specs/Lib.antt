-- The conditions of a list that come before its rows, and what the iterator over its rows has left.
pub mod Steps
pub mod Walks

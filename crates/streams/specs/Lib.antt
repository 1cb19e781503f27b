-- What is handed to standard output, and what the steps promise.
pub mod Streams
pub mod Steps

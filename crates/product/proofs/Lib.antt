-- Sums and products as they are written and read, what they mean, how long they are, worked examples, and wrong lines.
pub mod Writing
pub mod Reading
pub mod Meaning
pub mod Lengths
pub mod Examples
pub mod Refuted

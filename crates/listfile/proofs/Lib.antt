-- The file by positions, the parts of a file, the round trips, and the wrong answers that the promises shut out.
pub mod Theorems
pub mod Files
pub mod RoundTrips
pub mod Refuted

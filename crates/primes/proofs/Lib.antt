-- What kinds and marks tell, that McCluskey's prime implicants with a cross are reported, and the wrong answers that the promise shuts out.
pub mod Marking
pub mod Theorems
pub mod Refuted

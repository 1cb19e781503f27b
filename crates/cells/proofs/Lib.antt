-- What `find` tells, and the wrong answers that Cells' promise shuts out.
pub mod FromEnd
pub mod Refuted

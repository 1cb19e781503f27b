-- The codes of a row, bit by bit; sets of codes, row by row; the wrong answers that the promise shuts out.
pub mod RowCodes
pub mod Sets
pub mod Refuted

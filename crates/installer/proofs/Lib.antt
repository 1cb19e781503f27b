-- Numbers that C gets as 32 bits, and what is read off them: counts, totals, a kind with totals, codes.
pub mod Reading
pub mod Counts
pub mod Totals
pub mod Codes

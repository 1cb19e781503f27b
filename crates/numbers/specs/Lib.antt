-- The definitions: the numbers below a bound and lists of numbers, with one example of each; a list that is written into lent places; and an iterator that
-- gives numbers, ascending.
pub mod Below
pub mod Examples
pub mod Lent
pub mod Ascending

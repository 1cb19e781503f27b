-- A product of sums as a text, the value of such a text, what the two have to do with a list, and what the functions promise step by step.
pub mod Product
pub mod Value
pub mod Theorems
pub mod Steps

-- What is printed for Plan's answer, and document 01's example.
pub mod Printed
pub mod Exactly

-- What is printed for the answer of the keep-out call, what the line says of the table, and document 02's example.
pub mod Printed
pub mod Separating
pub mod Exactly

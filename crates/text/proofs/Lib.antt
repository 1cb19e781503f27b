-- The grammar, stepping and keeping of the input; decimals, lines, rows and examples of the output; and the replies of a program.
pub mod Bytes
pub mod Grammar
pub mod Stepping
pub mod Keeping
pub mod Decimals
pub mod Lines
pub mod Rows
pub mod Examples
pub mod Replies

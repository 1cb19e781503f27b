-- What the search promises to C.
pub mod Exported

-- What the pieces make up.
pub mod Pieces

-- What a word, a set of columns, a set of rows and a covering matrix on slices mean, what the iterators over sets give, and
-- the rows noted at a column.
pub mod ColumnSets
pub mod Sets
pub mod Walks
pub mod Matrix
pub mod Transposed

-- What the iterator over the rows of a list has left. Assumes nothing.
use Rattle.std.specs.Slice.Iter.{iter_rest}
use Rattle.cube.specs.Words.{Cover, rows_of}
use Rattle.lists.specs.declared.Each.{Each}

-- the rows that are left
abbrev pub rows_left : Each → Cover
rows_left each = rows_of (iter_rest each.values) (iter_rest each.cares)

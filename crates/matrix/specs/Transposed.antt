-- The rows that are noted at a column. That they are the rows that cover it is not promised. Definitions only. Assumes nothing.
use Rattle.std.specs.Prelude.{ℕ, [], get_or}
use Rattle.matrix.specs.Sets.{RowSet}
use Rattle.matrix.specs.declared.transposed.ByColumn.{ByColumn}

abbrev pub noted : ByColumn → ℕ → RowSet
noted t c = get_or t.sets c []

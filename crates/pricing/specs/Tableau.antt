-- The sizes of the linear program for prices: how many rows and how many places its tableau holds. Definitions only. Assumes nothing.
use Rattle.std.specs.Prelude.{ℕ, ◌+◌}
use Rattle.matrix.specs.Sets.{column_limit}

-- the linear program has no more rows than this
abbrev pub most_rows : ℕ
most_rows = 96

-- and no more places: the price of each column, and the price of a row
abbrev pub most_places : ℕ
most_places = column_limit + 1

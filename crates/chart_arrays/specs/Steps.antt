-- A step of the chart: the columns of a row, code by code. No promise above cites it. Assumes nothing.
use Rattle.std.specs.Prelude.{Bool, ◌&&◌, List, ℕ}
use Rattle.cube.specs.Words.{on_set, Row, row_matches}

-- code c is wanted, and the row matches it
abbrev pub row_column : List ℕ → Row → ℕ → Bool
row_column t r c = on_set t c && row_matches r c

-- The chart: "one per prime in that order: cube number, a 64-bit word whose bit c tells that wanted code c is matched, tested bits." Assumes nothing.
use Rattle.std.specs.Prelude.{ℕ, List, map}
use Rattle.cube.specs.Words.{cube_literals, serving_primes_of}
use Rattle.chart_arrays.specs.Columns.{columns_of}
use Rattle.chart_arrays.specs.declared.ChartRow.{ChartRow}

-- "cube number, a 64-bit word whose bit c tells that wanted code c is matched, tested bits": the row of cube q
abbrev pub chart_row : ℕ → List ℕ → ℕ → ChartRow
chart_row n t q = record { cube = q; word = columns_of n t q; literals = cube_literals n q }

-- "one per prime in that order", of which document 02 leaves "only primes that match a wanted code"
abbrev pub chart_of : ℕ → List ℕ → List ChartRow
chart_of n t = map (chart_row n t) (serving_primes_of n t)

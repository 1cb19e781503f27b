-- What the steps of Plan leave: the words and the weights of the chart rows, the lightest selection of them, its cubes, and their rows in the two arrays.
-- Assumes nothing.
use Rattle.std.specs.Prelude.{◌≡◌, List, map, ℕ, ◌+◌, ◌<◌, ◌≤◌, ◌^◌, T, length, get_or}
use Rattle.numbers.specs.Below.{those}
use Rattle.cube.specs.Words.{Cover, cover_literals, cube_literals, row_of}
use Rattle.cube.specs.Calls.{widest}
use Rattle.cube.specs.Minimum.{Minimum}
use Rattle.matrix.specs.Sets.{ColumnSet, RowSet, member}
use Rattle.chart_arrays.specs.declared.ChartRow.{ChartRow}
use Rattle.incumbent.specs.declared.Cover.{Cover as PickedRows}
use Rattle.search.specs.Search.{MinimumCover}
use Rattle.plan.specs.Plan.{ascending}

-- a row's weight: rows count first, then literals
abbrev pub row_weight : ℕ
row_weight = 10000

abbrev pub weight_of_cube : ℕ → ℕ → ℕ
weight_of_cube n q = row_weight + cube_literals n q

-- the matrix of the chart: the words of its rows, and their weights
abbrev pub words_of : List ChartRow → List ℕ
words_of rows = map (λ (r : ChartRow). r.word) rows

abbrev pub weights_of : List ChartRow → List ℕ
weights_of rows = map (λ (r : ChartRow). row_weight + r.literals) rows

-- a minimum cover of the columns by these rows
abbrev pub Lightest : List ChartRow → ColumnSet → PickedRows → Type 0
Lightest rows columns a = MinimumCover (words_of rows) (weights_of rows) columns a.weight a.rows

-- the rows of some cubes
abbrev pub rows_of_cubes : ℕ → List ℕ → Cover
rows_of_cubes n qs = map (row_of n) qs

-- each is the number of a cube of n digits
abbrev pub Cubes : ℕ → List ℕ → Type 0
Cubes n qs = (i : ℕ) → i < length qs → get_or qs i 0 < 3 ^ n

-- the cubes are those of a shortest list, ascending, and bits is the number of its tested bits
pub record Chosen (n : ℕ) (t cubes : List ℕ) (bits : ℕ) : Type 0 where
  pub below : Cubes n cubes
  pub minimum : Minimum n t (rows_of_cubes n cubes)
  pub is_ascending : T (ascending cubes)
  pub counts : bits ≡ cover_literals n (rows_of_cubes n cubes)

-- ---- the cubes that are picked, and their rows

-- the cubes of chart rows
abbrev pub cubes_of : List ChartRow → List ℕ
cubes_of rows = map (λ (r : ChartRow). r.cube) rows

-- the cubes of the picked rows
abbrev pub picked_cubes : RowSet → List ChartRow → List ℕ
picked_cubes picked rows = map (λ (i : ℕ). get_or (cubes_of rows) i 0) (those (length rows) (member picked))

-- cubes of n variables, with a place in both arrays for each
pub record Spellable (n : ℕ) (cubes values cares : List ℕ) : Type 0 where
  pub width : n ≤ widest
  pub values_long : length cubes ≤ length values
  pub cares_long : length cubes ≤ length cares
  pub below : Cubes n cubes

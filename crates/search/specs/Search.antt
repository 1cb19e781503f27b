-- What the search promises: a minimum cover of a covering matrix on slices. Definitions only. Assumes nothing.
use Rattle.std.specs.Prelude.{ℕ, ◌<◌, List}
use Rattle.numbers.specs.Below.{those}
use Rattle.covering.specs.Weighted.{LeastCover}
use Rattle.matrix.specs.Sets.{ColumnSet, RowSet, In, member}
use Rattle.matrix.specs.Matrix.{row_count, CoversColumn, weight_of}

-- each column of the set has a row
abbrev pub Coverable : List ℕ → ColumnSet → Type 0
Coverable words columns = (c : ℕ) → In columns c → (i : ℕ) × (i < row_count words) × CoversColumn words i c

-- The rows picked, in ascending order, are a minimum cover of the columns: they cover every column, their weight is the answer, and every selection of
-- rows that covers every column weighs at least as much.
abbrev pub MinimumCover : List ℕ → List ℕ → ColumnSet → ℕ → RowSet → Type 0
MinimumCover words weights columns weight picked =
    LeastCover (CoversColumn words) (weight_of weights) (λ i. i < row_count words) (In columns) (those (row_count words) (member picked)) weight

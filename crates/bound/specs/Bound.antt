-- A lower bound of a covering problem on slices, and the rows that a cover below a limit can have. Definitions only. Assumes nothing.
use Rattle.std.specs.Prelude.{ℕ, ◌^◌, ◌<◌, ◌≤◌, List}
use Rattle.matrix.specs.Sets.{ColumnSet, RowSet, Member}
use Rattle.matrix.specs.Matrix.{Sizes, Low}

-- a limit on the weight of covers is below this number, so that no sum of weights wraps
abbrev pub cost_limit : ℕ
cost_limit = 2 ^ 48

-- what a bound asks for: a weight for each row, and a limit that is not too high
pub record Limited (words weights : List ℕ) (limit : ℕ) : Type 0 where
  pub sizes : Sizes words weights
  pub small : limit < cost_limit

-- Rows are left out of the live ones, and no cover below the limit is lost.
pub record Kept (words weights : List ℕ) (live : RowSet) (u : ColumnSet) (limit : ℕ) (rest : RowSet) : Type 0 where
  pub fewer : (i : ℕ) → Member rest i → Member live i
  pub low : (k : ℕ) → k ≤ limit → Low words weights rest u k → Low words weights live u k

-- a lower bound, as far as it is below the limit, and the rows that are left
pub record Bounds (words weights : List ℕ) (live : RowSet) (u : ColumnSet) (limit bound : ℕ) (rest : RowSet) : Type 0 where
  pub low : (k : ℕ) → k ≤ bound → k ≤ limit → Low words weights live u k
  pub kept : Kept words weights live u limit rest

-- A cover that need not be lightest, and whose weight is a limit of the search: a cover of the undecided columns by live rows, of the weight told, which is
-- below the limit. Definitions only. Assumes nothing.
use Rattle.std.specs.Prelude.{ℕ, ◌*◌, ◌<◌, List, Option, Some, None}
use Rattle.covering.specs.Weighted.{SetCovers}
use Rattle.matrix.specs.Sets.{ColumnSet, RowSet, row_limit, In, member, Member}
use Rattle.matrix.specs.Matrix.{CoversColumn, weight_of, weight_limit}
use Rattle.incumbent.specs.declared.Cover.{Cover}

-- the rows picked are a cover of the columns u by live rows, of weight k
abbrev pub IsCover : List ℕ → List ℕ → RowSet → ColumnSet → RowSet → ℕ → Type 0
IsCover words weights live u picked k = SetCovers (CoversColumn words) (weight_of weights) row_limit (Member live) (In u) (member picked) k

-- c is a cover of the columns u by live rows, of the weight told, which is below the limit
pub record Incumbent (words weights : List ℕ) (live : RowSet) (u : ColumnSet) (limit : ℕ) (c : Cover) : Type 0 where
  pub below : c.weight < limit
  pub cover : IsCover words weights live u c.rows c.weight

-- what a cover weighs, or the limit where there is none
abbrev pub weight_or : ℕ → Option Cover → ℕ
weight_or limit None = limit
weight_or limit (Some c) = c.weight

-- all rows together weigh less than this
abbrev pub above_all : ℕ
above_all = row_limit * weight_limit

-- some column of u has no live row
abbrev pub Uncovered : List ℕ → RowSet → ColumnSet → Type 0
Uncovered words live u = (c : ℕ) × In u c × ((i : ℕ) → Member live i → CoversColumn words i c → ⊥)

-- The orbit of a row under the symmetries of what is left of a covering problem: a lower bound of the covers with the row is one of the covers with any row of
-- the orbit. So a search that has bounded the covers with the row need not look at those with the others. Definitions only. Assumes nothing.
use Rattle.std.specs.Prelude.{List, ℕ}
use Rattle.covering.specs.Inequalities.{AtLeastWith}
use Rattle.matrix.specs.Sets.{ColumnSet, RowSet, In, Member}
use Rattle.matrix.specs.Matrix.{CoversColumn, weight_of}

-- every cover of the columns u by live rows that has the row r weighs at least k
abbrev pub LowWith : List ℕ → List ℕ → RowSet → ColumnSet → ℕ → ℕ → Type 0
LowWith words weights live u r k = AtLeastWith (CoversColumn words) (weight_of weights) (Member live) (In u) r k

-- `found` is a set of live rows, r one of them, and what bounds the covers with r bounds the covers with any row of it
pub record Orbit (words weights : List ℕ) (live : RowSet) (u : ColumnSet) (r : ℕ) (found : RowSet) : Type 0 where
  pub itself : Member found r
  pub lives : (i : ℕ) → Member found i → Member live i
  pub low : (i : ℕ) → Member found i → (k : ℕ) → LowWith words weights live u r k → LowWith words weights live u i k

-- The covering matrix on two slices: the columns of each row, and a weight for each row. Definitions only. Assumes nothing.
use Rattle.std.specs.Prelude.{◌≡◌, List, ℕ, ◌^◌, ◌≤◌, length, get_or}
use Rattle.covering.specs.Weighted.{AtLeast}
use Rattle.matrix.specs.Sets.{ColumnSet, RowSet, row_limit, In, Member}

-- the number of rows
abbrev pub row_count : List ℕ → ℕ
row_count words = length words

-- the columns that the row i covers
abbrev pub covered : List ℕ → ℕ → ColumnSet
covered words i = get_or words i 0

-- the row i covers the column c
abbrev pub CoversColumn : List ℕ → ℕ → ℕ → Type 0
CoversColumn words i c = In (covered words i) c

-- the weight of the row i
abbrev pub weight_of : List ℕ → ℕ → ℕ
weight_of weights i = get_or weights i 0

-- a weight is below this number
abbrev pub weight_limit : ℕ
weight_limit = 2 ^ 32

-- a weight for each row, and no more rows than a set of rows holds
pub record Sizes (words weights : List ℕ) : Type 0 where
  pub few : row_count words ≤ row_limit
  pub same : length weights ≡ row_count words

-- every cover of the columns u by live rows weighs at least k
abbrev pub Low : List ℕ → List ℕ → RowSet → ColumnSet → ℕ → Type 0
Low words weights live u k = AtLeast (CoversColumn words) (weight_of weights) (Member live) (In u) k

-- j is a live row that weighs no more than i and covers the columns of a set
pub record StandsIn (words weights : List ℕ) (live : RowSet) (set : ColumnSet) (i j : ℕ) : Type 0 where
  pub lives : Member live j
  pub light : weight_of weights j ≤ weight_of weights i
  pub inside : (c : ℕ) → In set c → CoversColumn words j c

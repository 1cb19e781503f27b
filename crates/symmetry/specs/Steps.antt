-- The steps to an orbit on slices: an exchange of columns, a row's image by it, and a set of rows grown by an exchange. An image weighs no more and covers what
-- the row covers after the exchange, and no more is asked of a symmetry. Definitions only. Assumes nothing.
use Rattle.std.specs.Prelude.{List, cond, ℕ, ◌+◌, ◌-◌, ◌≤◌}
use Rattle.matrix.specs.Sets.{ColumnSet, RowSet, has, has_raised, In, Member}
use Rattle.matrix.specs.Matrix.{CoversColumn, weight_of}
use Rattle.symmetry.specs.Symmetry.{Orbit}
use Rattle.symmetry.specs.declared.exchanges.Exchange.{Exchange}

-- ---- an exchange of columns

-- The column that c changes places with: d lower where that is one of `low`, else d higher where c is one of `low`, else c.
unfoldable pub partner : Exchange → ℕ → ℕ
partner e c = cond (has_raised e.low e.distance c) (c - e.distance) (cond (has e.low c) (c + e.distance) c)

-- ---- an image of a row

-- j is a live row that weighs no more than i and covers an undecided column where i covers its partner
pub record Image (words weights : List ℕ) (live : RowSet) (u : ColumnSet) (e : Exchange) (i j : ℕ) : Type 0 where
  pub lives : Member live j
  pub light : weight_of weights j ≤ weight_of weights i
  pub covers : (c : ℕ) → In u c → CoversColumn words i (partner e c) → CoversColumn words j c

-- ---- more rows of an orbit

-- the rows `found` are among the rows `more`, which are of one orbit with r wherever the rows `found` are
pub record Grown (words weights : List ℕ) (live : RowSet) (u : ColumnSet) (found more : RowSet) : Type 0 where
  pub kept : (i : ℕ) → Member found i → Member more i
  pub orbit : (r : ℕ) → Orbit words weights live u r found → Orbit words weights live u r more

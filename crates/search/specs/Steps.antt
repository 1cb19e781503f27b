-- What the steps of the search show: the row to branch on, the two branches, and the answer below a limit. No promise of the search cites these.
-- Definitions only. Assumes nothing.
use Rattle.std.specs.Prelude.{◌≡◌, ℕ, ◌+◌, ◌<◌, Bool, ◌||◌, List, Option, Some, None, IfSome, MatchOption}
use Rattle.std.specs.Option.{option_or}
use Rattle.covering.specs.Search.{only, Answers}
use Rattle.matrix.specs.Sets.{ColumnSet, column_limit, RowSet, row_limit, In, member, Member}
use Rattle.matrix.specs.Matrix.{row_count, CoversColumn, weight_of, Low}
use Rattle.bound.specs.Bound.{cost_limit, Kept}
use Rattle.incumbent.specs.declared.Cover.{Cover}

-- a cover, if there is one, weighs less than `cost_limit`
abbrev pub IsSmall : Option Cover → Type 0
IsSmall cover = IfSome cover (λ c. c.weight < cost_limit)

-- ---- answers

-- c is a lightest cover, and it is below the limit
pub record LightestBelow (words weights : List ℕ) (live : RowSet) (u : ColumnSet) (limit : ℕ) (c : Cover) : Type 0 where
  pub below : c.weight < limit
  pub answers : Answers (CoversColumn words) (weight_of weights) row_limit (Member live) (In u) limit c.weight (member c.rows)

-- the answer of a search below a limit: a lightest cover, or none, since no cover is below the limit
abbrev pub Found : List ℕ → List ℕ → RowSet → ColumnSet → ℕ → Option Cover → Type 0
Found words weights live u limit cover = MatchOption cover (Low words weights live u limit) (LightestBelow words weights live u limit)

-- ---- the choice of a row

-- c is a column of the set u
pub record ColumnOf (u : ColumnSet) (c : ℕ) : Type 0 where
  pub below : c < column_limit
  pub is : In u c

-- r is a live row that covers c, or there is none, since no live row does
abbrev pub RowFor : List ℕ → RowSet → ℕ → Option ℕ → Type 0
RowFor words live c row =
    MatchOption row ((i : ℕ) → Member live i → CoversColumn words i c → ⊥) (λ r. (r < row_count words) × Member live r × CoversColumn words r c)

-- r is a live row, or there is none, since no live row covers some column of u
abbrev pub Branch : List ℕ → RowSet → ColumnSet → Option ℕ → Type 0
Branch words live u row =
    MatchOption row ((c : ℕ) × In u c × ((i : ℕ) → Member live i → CoversColumn words i c → ⊥)) (λ r. (r < row_count words) × Member live r)

-- Rows are left out of the live ones, and no cover below the limit is lost. The row to branch on is one of those left, or there is none, since no cover is
-- below the limit.
pub record BranchesBelow (words weights : List ℕ) (live : RowSet) (u : ColumnSet) (limit : ℕ) (rest : RowSet) (row : Option ℕ) : Type 0 where
  pub kept : Kept words weights live u limit rest
  pub branches : MatchOption row (Low words weights live u limit) (λ r. (r < row_count words) × Member rest r)

-- ---- answers put together

-- c is the cover d with more rows, of weight w
pub record Grown (more : ℕ → Bool) (w : ℕ) (d c : Cover) : Type 0 where
  pub weight : c.weight ≡ w + d.weight
  pub rows : (j : ℕ) → member c.rows j ≡ (more j || member d.rows j)

-- the same of covers that may be missing
abbrev pub BothGrown : (ℕ → Bool) → ℕ → Option Cover → Option Cover → Type 0
BothGrown more w found a = MatchOption found (a ≡ None) (λ d. (c : Cover) × (a ≡ Some c) × Grown more w d c)

-- the row r, of weight w, with the cover of what it leaves
abbrev pub Taking : Option Cover → ℕ → ℕ → Option Cover → Type 0
Taking found r w a = BothGrown (only r) w found a

-- the rows taken, of weight cost, with the cover of what is left
abbrev pub WithTaken : RowSet → ℕ → Option Cover → Option Cover → Type 0
WithTaken taken cost found a = BothGrown (member taken) cost found a

-- the lighter of an incumbent and the cover of a search below it: that of the search, if it found one
abbrev pub Lighter : Option Cover → Option Cover → Option Cover → Type 0
Lighter incumbent found a = a ≡ option_or found incumbent

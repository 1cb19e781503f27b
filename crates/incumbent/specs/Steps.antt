-- What is known of rows that are gathered one by one: their columns and their weight are counted. Nobody who calls the crate has to believe it. Definitions
-- only. Assumes nothing.
use Rattle.std.specs.Prelude.{◌≡◌, ℕ, ◌*◌, ◌-◌, ◌≤◌, ◌⊎◌, List}
use Rattle.covering.specs.Weighted.{total, set_size}
use Rattle.matrix.specs.Sets.{ColumnSet, RowSet, row_limit, In, member, Member}
use Rattle.matrix.specs.Matrix.{CoversColumn, weight_of, weight_limit}
use Rattle.incumbent.specs.declared.Gathered.{Gathered}

-- the columns gathered are those of the rows, and the weight is theirs
pub record Counted (words weights : List ℕ) (g : Gathered) : Type 0 where
  pub covered : (c : ℕ) → In g.columns c → (i : ℕ) × Member g.rows i × CoversColumn words i c
  pub covers : (i c : ℕ) → Member g.rows i → CoversColumn words i c → In g.columns c
  pub weighs : total (weight_of weights) row_limit (member g.rows) ≡ g.weight
  pub small : g.weight ≤ set_size row_limit (member g.rows) * (weight_limit - 1)

-- a column of u that is not among the columns gathered has no live row
abbrev pub Spent : List ℕ → RowSet → ColumnSet → ColumnSet → Type 0
Spent words live u columns = (c : ℕ) → In u c → In columns c ⊎ ((i : ℕ) → Member live i → CoversColumn words i c → ⊥)

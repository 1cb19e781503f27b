-- What the steps of a bound promise each other: when prices for the columns are a certificate. Nobody who calls the bound has to believe them. What prices are
-- worth is defined in `pricing` (`Prices`). Definitions only. Assumes nothing.
use Rattle.std.specs.Prelude.{ℕ, ◌<◌, ◌≤◌, Bool, ◌&&◌, List}
use Rattle.matrix.specs.Sets.{ColumnSet, RowSet, has, Member}
use Rattle.matrix.specs.Matrix.{row_count, covered, weight_of, Low, weight_limit}
pub use Rattle.pricing.specs.Prices.{worth_limit, level_count, price_of, worth, Valued}
use Rattle.bound.specs.Bound.{Limited}

-- ---- the certificate

-- the undecided columns of the row i
abbrev pub row_columns : List ℕ → ColumnSet → ℕ → ℕ → Bool
row_columns words u i c = has (covered words i) c && has u c

-- they are worth no more than the row weighs
abbrev pub Pays : List ℕ → List ℕ → ColumnSet → List ℕ → ℕ → Type 0
Pays words weights u prices i = worth prices (row_columns words u i) ≤ weight_of weights i

-- a dual solution: each live row pays
abbrev pub Feasible : List ℕ → List ℕ → RowSet → ColumnSet → List ℕ → Type 0
Feasible words weights live u prices = (i : ℕ) → i < row_count words → Member live i → Pays words weights u prices i

-- a certificate: prices that are a dual solution, and what the undecided columns are worth in all
pub record Certificate (words weights : List ℕ) (live : RowSet) (u : ColumnSet) (limit : ℕ) (prices : List ℕ) (total : ℕ) : Type 0 where
  pub limited : Limited words weights limit
  pub valued : Valued prices (has u) total
  pub feasible : Feasible words weights live u prices

-- ---- rounding in rows

-- the weights of the live rows before n lie between least and most
pub record Ranges (weights : List ℕ) (live : RowSet) (n least most : ℕ) : Type 0 where
  pub positive : 0 < most
  pub small : (least < weight_limit) × (most < weight_limit)
  pub above : (i : ℕ) → i < n → Member live i → least ≤ weight_of weights i
  pub below : (i : ℕ) → i < n → Member live i → weight_of weights i ≤ most

-- wherever low is a lower bound, r is one too
abbrev pub Rounded : List ℕ → List ℕ → RowSet → ℕ → ℕ → Type 0
Rounded words weights live low r = (u : ColumnSet) → Low words weights live u low → Low words weights live u r

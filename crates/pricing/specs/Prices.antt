-- Prices for columns: how high they are, and what a set of columns is worth. Definitions only. Assumes nothing.
use Rattle.std.specs.Prelude.{◌≡◌, ℕ, ◌*◌, ◌≤◌, Bool, List, slice_index}
use Rattle.covering.specs.Sum.{if_set, sum}
use Rattle.matrix.specs.Sets.{column_limit}
use Rattle.matrix.specs.Matrix.{weight_limit}

-- ---- sizes

-- a column's price is below `weight_limit` as weights are, and so no set of columns is worth more than this
abbrev pub worth_limit : ℕ
worth_limit = column_limit * weight_limit

-- the columns are raised in this many levels
abbrev pub level_count : ℕ
level_count = 16

-- ---- what columns are worth

-- the price of the column c
abbrev pub price_of : List ℕ → ℕ → ℕ
price_of prices c = slice_index prices c

-- what the columns that p holds of are worth together
abbrev pub worth : List ℕ → (ℕ → Bool) → ℕ
worth prices p = sum column_limit (λ c. if_set (p c) (price_of prices c))

-- r is what they are worth
pub record Valued (prices : List ℕ) (p : ℕ → Bool) (r : ℕ) : Type 0 where
  pub is : r ≡ worth prices p
  pub small : r ≤ worth_limit

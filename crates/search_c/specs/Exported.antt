-- The answer of the search as a number. Definitions only. Assumes nothing.
use Rattle.std.specs.Prelude.{◌≡◌, List, ℕ, ◌^◌, ◌-◌}
use Rattle.matrix.specs.Sets.{ColumnSet, RowSet}
use Rattle.matrix.specs.Matrix.{Sizes}
use Rattle.search.specs.Search.{Coverable, MinimumCover}

-- Where the sizes fit and each column has a row, some rows are a minimum cover of weight r, and where some column has none, r is 2 ^ 42. Where the sizes do
-- not fit, r is 2 ^ 64 - 1 and the places lent are as they were. Left open: what the search took, which goes into the two places otherwise.
pub record Exported (words weights : List ℕ) (columns : ColumnSet) (lent : List ℕ) (r : ℕ) (left : List ℕ) : Type 0 where
  pub minimum : Sizes words weights → Coverable words columns → (picked : RowSet) × MinimumCover words weights columns r picked
  pub uncoverable : Sizes words weights → (Coverable words columns → ⊥) → r ≡ 2 ^ 42
  pub refused : (Sizes words weights → ⊥) → r ≡ 2 ^ 64 - 1
  pub unchanged : (Sizes words weights → ⊥) → left ≡ lent

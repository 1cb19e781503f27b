-- What Check gathers before it compares: "the codes that any row matches". A set of codes is a set of columns, column c for code c. Assumes nothing.
use Rattle.std.specs.Prelude.{◌≡◌, Bool, true, false, Result, Ok, Err, ℕ, ◌^◌, ◌<◌, ◌≤◌}
use Rattle.cube.specs.Words.{Cover, cover_matches}
use Rattle.cube.specs.Calls.{bad_row}
use Rattle.cube.specs.declared.Refusal.{Refusal}
use Rattle.cube.specs.declared.Refusal.TheVariants.{UnformedRow}
use Rattle.matrix.specs.ColumnSets.{ColumnSet, has}

-- the set holds the codes of n bits that pass, and nothing else
pub record HoldsExactly (n : ℕ) (passes : ℕ → Bool) (set : ColumnSet) : Type 0 where
  pub codes : (c : ℕ) → c < 2 ^ n → has set c ≡ passes c
  pub no_other : (c : ℕ) → 2 ^ n ≤ c → has set c ≡ false

-- what is gathered from a list: where every row is formed a set, "a code is in it exactly when some row matches it", and nothing that is no code is;
-- otherwise that a row is not formed
abbrev pub Gathers : ℕ → Cover → Result ColumnSet Refusal → Type 0
Gathers n rs (Ok set) = (bad_row n rs ≡ false) × HoldsExactly n (cover_matches rs) set
Gathers n rs (Err e) = (bad_row n rs ≡ true) × (e ≡ UnformedRow)

-- What follows from Chart's promise for the first of the lent rows, as many as the count returned. `proofs/Theorems.antt` proves it. Assumes nothing.
use Rattle.std.specs.Prelude.{◌≡◌, List, [], ◌∷◌, map, ℕ, ◌<◌, take, Ok}
use Rattle.cube.specs.Words.{serving_primes_of}
use Rattle.chart.specs.Rows.{Charted}
use Rattle.chart_arrays.specs.declared.ChartRow.{ChartRow}

-- no row's word is empty
abbrev pub NoEmptyWord : List ChartRow → Type 0
NoEmptyWord [] = Unit
NoEmptyWord (r ∷ rs) = (0 < r.word) × NoEmptyWord rs

-- the rows before and after a call that returned a count
pub record ChartTells (n : ℕ) (t : List ℕ) (old new : List ChartRow) : Type 0 where
  -- "one per prime in that order": the cubes are those that Primes lists
  pub cubes : (count : ℕ) → Charted n t old new (Ok count) → map (λ (r : ChartRow). r.cube) (take count new) ≡ serving_primes_of n t
  -- "only primes that match a wanted code" (document 02): each row has a column
  pub words : (count : ℕ) → Charted n t old new (Ok count) → NoEmptyWord (take count new)

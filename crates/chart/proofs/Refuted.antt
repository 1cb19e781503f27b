-- A wrong answer of Chart that its promise shuts out, on a named case, where no edit of the code keeps its shape. Assumes nothing.
use mathlib.Core.Path.{◌≡◌, refl, ap}
use mathlib.Core.List.{List, [], ◌∷◌}
use Prim.Native.Nat.{ℕ}
use native.Mathlib.Omega.{arith}
use lib.ListN.{get_or}
use Rattle.numbers.specs.Below.{every, some, those}
use Rattle.cube.specs.Words.{cube_matches, cube_literals, within, implicant, prime, primes_of, serves, serving_primes_of}
use Rattle.cube.specs.Calls.{bad_cell}
use Rattle.std.specs.Prelude.{Result}
use Rattle.cube.specs.declared.Refusal.{Refusal}
use Rattle.primes.proofs.Refuted.{case_d}
use Rattle.chart.specs.Rows.{Charted}
use Rattle.chart_arrays.specs.declared.ChartRow.{ChartRow}

-- a chart row
abbrev row : ℕ → ℕ → ℕ → ChartRow
row q w k = record { cube = q; word = w; literals = k }

-- a lent row before the call, and those behind the first two
abbrev lent : ChartRow
lent = row 7 7 7

abbrev others : List ChartRow
others = lent ∷ lent ∷ lent ∷ lent ∷ lent ∷ lent ∷ lent ∷ []

-- case d has two primes, 00 and 11, and 11 matches the free code alone: a chart with a row for it, whose word is empty
pub empty_word : (primes_of 2 case_d ≡ 0 ∷ 4 ∷ []) × ((r : Result ℕ Refusal) → Charted 2 case_d (lent ∷ lent ∷ others) (row 0 1 2 ∷ row 4 0 2 ∷ others) r → ⊥)
unfolding every some those cube_matches cube_literals within implicant prime primes_of serves serving_primes_of bad_cell
empty_word = (refl, λ r p. let z : ◌≡◌ {A = ℕ} 4 7 = ap (λ (l : List ChartRow). (get_or l 1 lent).cube) p.places in omega arith)

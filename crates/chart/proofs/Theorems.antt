-- The theorem of `specs/Theorems.antt`: the first rows are the chart, and the word of a cube that serves is not empty. Assumes nothing.
use mathlib.Core.Path.{◌≡◌, refl, ap, ◌∙◌, subst⁻¹}
use mathlib.Core.List.{List, [], ◌∷◌, map}
use Prim.Native.Nat.{ℕ, suc, ◌^◌, ◌<◌}
use native.Mathlib.Omega.{arith}
use lib.Dec.{T}
use lib.ListN.{length, get_or}
use Rattle.cube.specs.Words.{prime, serves, serving_prime, serving_primes_of}
use Rattle.numbers.proofs.Bools.{and_r}
use Rattle.numbers.proofs.Below.{those_at}
use Rattle.cube.proofs.Calls.{listed_front}
use Rattle.chart_arrays.proofs.Theorems.{word_tells}
use Rattle.chart_arrays.specs.Rows.{chart_row}
use Rattle.chart.specs.Theorems.{NoEmptyWord, ChartTells}
use Rattle.chart_arrays.specs.declared.ChartRow.{ChartRow}

module _ (n : ℕ) (t : List ℕ) where
  row_cubes : (qs : List ℕ) → map (λ (r : ChartRow). r.cube) (map (chart_row n t) qs) ≡ qs
  row_cubes [] = refl
  row_cubes (q ∷ qs) = ap (λ (xs : List ℕ). q ∷ xs) (row_cubes qs)

  row_words_lem : (qs : List ℕ) → ((i : ℕ) → i < length qs → T (serves n t (get_or qs i 0))) → NoEmptyWord (map (chart_row n t) qs)
  row_words_lem [] f = tt
  row_words_lem (q ∷ qs) f = ((word_tells n t q).not_empty.0 (f 0 (omega arith)), row_words_lem qs (λ i l. f (suc i) (omega arith)))

  each_serves : (i : ℕ) → i < length (serving_primes_of n t) → T (serves n t (get_or (serving_primes_of n t) i 0))
  unfolding serving_primes_of
  each_serves i l =
      let q : ℕ = get_or (serving_primes_of n t) i 0 in
      and_r (prime n t q) (serves n t q) (those_at (serving_prime n t) (3 ^ n) i l).1

  pub chart_tells : (old new : List ChartRow) → ChartTells n t old new
  chart_tells old new = record {
    cubes = λ count h. ap (map (λ (r : ChartRow). r.cube)) (listed_front h) ∙ row_cubes (serving_primes_of n t);
    words = λ count h. subst⁻¹ NoEmptyWord (listed_front h) (row_words_lem (serving_primes_of n t) each_serves);
  }

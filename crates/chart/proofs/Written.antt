-- Where the rows of the primes that serve are written and nothing refuses, Chart keeps its promise. Assumes nothing.
use Rattle.std.proofs.Common.{◌≡◌, ℕ, ◌^◌, ◌≤◌, List, ◌++◌, Ok, length, map, drop, sym, ap, ap₂, ◌∙◌, arith}
use Rattle.std.proofs.Math.ListN.{length-map}
use Rattle.cube.specs.Words.{serving_primes_of}
use Rattle.cube.specs.Calls.{gives, answered, written}
use Rattle.tables.specs.Listing.{primes_refuses}
use Rattle.chart_arrays.specs.Rows.{chart_row, chart_of}
use Rattle.chart_arrays.proofs.Rows.{chart_most}
use Rattle.chart_arrays.specs.declared.ChartRow.{ChartRow}
use Rattle.chart.specs.Rows.{Charted}

module _ (n width : ℕ) (t cells qs : List ℕ) (old : List ChartRow) (is : (width ≡ n) × (cells ≡ t)) (list : qs ≡ serving_primes_of width cells) where
  rows_are : map (chart_row width cells) qs ≡ chart_of n t
  rows_are = ap (map (chart_row width cells)) list ∙ ap₂ chart_of is.0 is.1

  as_many : length qs ≡ length (chart_of n t)
  as_many = sym (length-map qs (chart_row width cells)) ∙ ap length rows_are

  -- there is a place for each
  pub fits : 3 ^ n ≤ length old → length qs ≤ length old
  fits room = omega (arith, as_many, chart_most n t)

  pub charted : (new : List ChartRow) (count : ℕ) → 0 ≡ primes_refuses n t (length old) → count ≡ length qs → new ≡ map (chart_row width cells) qs ++ drop (length qs) old
      → Charted n t old new (Ok count)
  charted new count none long e = record {
    answer = ap gives (long ∙ as_many) ∙ ap (λ (k : ℕ). answered k (length (chart_of n t))) none;
    places =
        e ∙ ap₂ (λ (rows : List ChartRow) (k : ℕ). rows ++ drop k old) rows_are as_many
        ∙ ap (λ (k : ℕ). written k (chart_of n t) old) none;
  }

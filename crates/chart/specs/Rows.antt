-- Chart: "the chart is a lent list of rows, one per prime in that order: cube number, a 64-bit word whose bit c tells that wanted code c is matched,
-- tested bits. [..] The answer is the number of chart rows. Refuses 1, 2, 3, then 4 below 3^n rows." What it refuses is what Primes refuses.
-- `chart_of n t` is the list of rows, and `chart_row n t q` that of cube q. Assumes nothing.
use Rattle.std.specs.Prelude.{ℕ, List, length, Result}
use Rattle.cube.specs.Calls.{Listed}
use Rattle.cube.specs.declared.Refusal.{Refusal}
use Rattle.tables.specs.Listing.{primes_refuses}
use Rattle.chart_arrays.specs.declared.ChartRow.{ChartRow}
pub use Rattle.cube.specs.Words.{serving_primes_of}
pub use Rattle.chart_arrays.specs.Rows.{chart_row, chart_of}

-- What Chart promises about its answer and the lent rows, refused input included: what every call that writes a list promises.
abbrev pub Charted : ℕ → List ℕ → List ChartRow → List ChartRow → Result ℕ Refusal → Type 0
Charted n t old new r = Listed (primes_refuses n t (length old)) (chart_of n t) old new r

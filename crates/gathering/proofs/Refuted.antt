-- Wrong answers that the promise shuts out, each for a named list at width 1. Assumes nothing.
use mathlib.Core.Path.{◌≡◌, sym, ◌∙◌}
use mathlib.Core.Bool.{true, false, true≢false}
use mathlib.Core.List.{[], ◌∷◌}
use native.Mathlib.Omega.{arith}
use Rattle.std.specs.Prelude.{Ok, Err}
use Rattle.cube.specs.Words.{Cover, row_matches, formed, each_row, cover_matches}
use Rattle.matrix.specs.Sets.{ColumnSet, has}
use Rattle.gathering.specs.Gathered.{Gathers}
use Rattle.cube.specs.declared.Refusal.TheVariants.{UnformedRow}

-- the rows 0 and 1
abbrev two_rows : Cover
two_rows = record { value = 0; care = 1 } ∷ record { value = 1; care = 1 } ∷ []

module _ (set : ColumnSet) where
  -- without code 0, which not every row matches
  pub codes_of_every_row : has set 0 ≡ false → Gathers 1 two_rows (Ok set) → ⊥
  unfolding row_matches cover_matches
  codes_of_every_row e g = true≢false (sym (g.1.codes 0 (omega arith)) ∙ e)

  -- without code 1, which the last row alone matches
  pub last_row_left_out : has set 1 ≡ false → Gathers 1 two_rows (Ok set) → ⊥
  unfolding row_matches cover_matches
  last_row_left_out e g = true≢false (sym (g.1.codes 1 (omega arith)) ∙ e)

  -- without code 1, for the row without tested bits
  pub untested_bit_forgotten : has set 1 ≡ false → Gathers 1 (record { value = 0; care = 0 } ∷ []) (Ok set) → ⊥
  unfolding row_matches cover_matches
  untested_bit_forgotten e g = true≢false (sym (g.1.codes 1 (omega arith)) ∙ e)

  -- with 2, which is no code
  pub past_the_width : has set 2 ≡ true → Gathers 1 two_rows (Ok set) → ⊥
  past_the_width e g = true≢false (sym e ∙ g.1.no_other 2 (omega arith))

  -- for care 2, which no row of width 1 has
  pub unformed_row : Gathers 1 (record { value = 0; care = 2 } ∷ []) (Ok set) → ⊥
  unfolding formed each_row
  unformed_row g = true≢false g.0

-- formed rows refused
pub formed_rows : Gathers 1 two_rows (Err UnformedRow) → ⊥
unfolding formed each_row
formed_rows g = true≢false (sym g.0)

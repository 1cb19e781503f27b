-- What a step of the call requires: a list that can be copied. No promise of the call cites it. Assumes nothing.
use Rattle.std.specs.Prelude.{List, ℕ, ◌≤◌, length}
use Rattle.better.specs.declared.Draft.{Draft}

-- all four arrays have a place for each row
pub record Fits (draft : Draft) (values cares : List ℕ) : Type 0 where
  pub from_values : draft.totals.rows ≤ length draft.values
  pub from_cares : draft.totals.rows ≤ length draft.cares
  pub to_values : draft.totals.rows ≤ length values
  pub to_cares : draft.totals.rows ≤ length cares

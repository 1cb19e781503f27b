-- Demand 3's sentence about the arrays, and document 02's about how many rows they hold: what follows from Plan's promise for the first places of both,
-- as many as the row count returned; and that Plan asks for no place too many. `proofs/Theorems.antt` proves both. Before them, which lists Plan may
-- write, for calls and programs that name one. Assumes nothing.
use Rattle.std.specs.Prelude.{◌≡◌, false, List, map, ℕ, ◌-◌, ◌^◌, ◌≤◌, Result, Ok, T, length, drop}
use Rattle.cube.specs.Words.{Cover, first_rows, cover_literals, number_of}
use Rattle.cube.specs.Calls.{bad_width}
use Rattle.cube.specs.Minimum.{Minimum, odd_ones}
use Rattle.plan.specs.Plan.{plan_places, plan_refuses, ascending, Plans}
use Rattle.cube.specs.declared.Refusal.{Refusal}
use Rattle.plan.specs.declared.Totals.{Totals}

-- Plan may write this list for a table of n variables
pub record MayWrite (n : ℕ) (t : List ℕ) (list : Cover) : Type 0 where
  pub minimum : Minimum n t list
  pub is_ascending : T (ascending (map (number_of n) list))

-- "They hold a list": the arrays before and after a call, and the counts that it returned
pub record Held (n : ℕ) (t values cares values' cares' : List ℕ) (totals : Totals) : Type 0 where
  -- each array has this many places
  pub enough_values : totals.rows ≤ length values'
  pub enough_cares : totals.rows ≤ length cares'
  -- "a list of rows of the table's width that matches every wanted mark and no barred one. Every other list [..] has at least as many rows."
  pub minimum : Minimum n t (first_rows totals.rows values' cares')
  -- "ascending by cube number"
  pub is_ascending : T (ascending (map (number_of n) (first_rows totals.rows values' cares')))
  -- "the row count is its number of rows, the bit count the sum of tested bits over its rows."
  pub row_count : length (first_rows totals.rows values' cares') ≡ totals.rows
  pub bit_count : cover_literals n (first_rows totals.rows values' cares') ≡ totals.bits
  -- "On success, places past the count are unchanged."
  pub values_behind : drop totals.rows values' ≡ drop totals.rows values
  pub cares_behind : drop totals.rows cares' ≡ drop totals.rows cares
  -- "a shortest list has at most 2^(n−1) rows [..] Plan is to guarantee it for every accepted table" (document 02), however long the arrays are
  pub few : totals.rows ≤ 2 ^ (n - 1)

-- the answer to a call that is not refused: two counts, and the arrays hold their list
pub record Delivered (n : ℕ) (t values cares values' cares' : List ℕ) (r : Result Totals Refusal) : Type 0 where
  pub totals : Totals
  pub answer : r ≡ Ok totals
  pub held : Held n t values cares values' cares' totals

-- what follows for a call, whatever the table and the arrays
pub record ArraysHold (n : ℕ) (t values cares values' cares' : List ℕ) : Type 0 where
  -- where counts are returned, they are those of the list that the arrays hold
  pub counted : (totals : Totals) → Plans n t values cares values' cares' (Ok totals) → Held n t values cares values' cares' totals
  -- "For every accepted table, and whatever the two arrays held before": there are counts
  pub accepted : (r : Result Totals Refusal) → plan_refuses n t (length values) (length cares) ≡ 0 → Plans n t values cares values' cares' r
      → Delivered n t values cares values' cares' r

-- No smaller number of places would do: on the table of `Filled`, which is never refused for itself, a call fills all places that Plan asks for.
pub record AllFilled (n : ℕ) (values cares values' cares' : List ℕ) : Type 0 where
  pub accepted : bad_width n ≡ false → plan_places n ≤ length values → plan_places n ≤ length cares
      → plan_refuses n (odd_ones n) (length values) (length cares) ≡ 0
  pub filled : (totals : Totals) → Plans n (odd_ones n) values cares values' cares' (Ok totals) → totals.rows ≡ plan_places n

-- What the keep-out call answers is what a program is to show for a table: the line of the list that the arrays hold, or the refusal.
-- Assumes nothing.
use mathlib.Core.Path.{◌≡◌, sym, ◌∙◌}
use mathlib.Core.List.{List}
use Prim.Native.Nat.{ℕ, ◌-◌, ◌^◌, ◌≤◌}
use native.Mathlib.Omega.{arith}
use lib.ListN.{length}
use Rattle.std.specs.Prelude.{Ok, Err}
use Rattle.cube.specs.Words.{Cover, first_rows}
use Rattle.cube.specs.Calls.{widest, first_of, table_conditions, refusal_number}
use Rattle.cube.specs.declared.Refusal.{Refusal}
use Rattle.cube.proofs.Calls.{accepted, code_pairs_most}
use Rattle.plan.specs.Plan.{plan_refuses}
use Rattle.plan.specs.declared.Totals.{Totals}
use Rattle.plan.proofs.Refusals.{refuses_as_table}
use Rattle.plan.proofs.Answers.{not_refused, refused_by}
use Rattle.keep_out.specs.KeepOut.{MayKeepOut, PlansKeepOut}
use Rattle.keep_out.specs.Theorems.{exchanged, HeldKeepOut}
use Rattle.keep_out.proofs.Exchanging.{exchange}
use Rattle.keep_out.proofs.Theorems.{plans_exchanged, arrays_keep_out}
use Rattle.text.specs.Steps.{ShowsTable}
use Rattle.product.specs.Product.{excluding_line}
use Rattle.product.specs.Steps.{most_line}
use Rattle.product.proofs.Lengths.{line_fits}

module _ (n : ℕ) (t values cares values' cares' : List ℕ) (v : 2 ^ (widest - 1) ≤ length values) (w : 2 ^ (widest - 1) ≤ length cares) where
  -- with places for the widest list, what is refused is what a table is refused for
  refusal_is : plan_refuses n (exchanged t) (length values) (length cares) ≡ first_of (table_conditions n t)
  refusal_is = (exchange n t).refusal (length values) (length cares) ∙ refuses_as_table n t (length values) (length cares) v w

  module _ (totals : Totals) (p : PlansKeepOut n t values cares values' cares' (Ok totals)) where
    abbrev list : Cover
    list = first_rows totals.rows values' cares'

    keeps : HeldKeepOut n t values cares values' cares' totals
    keeps = (arrays_keep_out n t values cares values' cares').counted totals p

    table_width : n ≤ widest
    table_width =
        (accepted n t (sym refusal_is ∙ not_refused ((plans_exchanged n t values cares values' cares' (Ok totals)).0 p))).to

    pub line_room : length (excluding_line n list) ≤ most_line
    line_room = line_fits n list table_width (omega (arith, keeps.held.row_count, keeps.held.few, code_pairs_most n table_width))

    pub shows_line : {text : List ℕ} → text ≡ excluding_line n list → ShowsTable excluding_line MayKeepOut n t text
    shows_line e = record { list = list; is_written = record { minimum = keeps.minimum; is_ascending = keeps.held.is_ascending }; is_text = e }

  pub refuses_keep_out : (e : Refusal) → PlansKeepOut n t values cares values' cares' (Err e) → refusal_number e ≡ first_of (table_conditions n t)
  refuses_keep_out e p = sym (refused_by ((plans_exchanged n t values cares values' cares' (Err e)).0 p)) ∙ refusal_is

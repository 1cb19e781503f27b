-- What Plan answers is what a program is to show for a table: the list that the arrays hold, or the refusal. Assumes nothing.
use Rattle.std.proofs.Common.{Ok, Err, ℕ, ◌-◌, ◌^◌, ◌≤◌, ◌≡◌, List, length, take, sym, ap₂, ◌∙◌, length-take-le}
use Rattle.cube.specs.Words.{Cover, first_rows}
use Rattle.cube.specs.Calls.{widest, first_of, table_conditions, refusal_number}
use Rattle.cube.specs.declared.Refusal.{Refusal}
use Rattle.plan.specs.Plan.{plan_refuses, Plans}
use Rattle.plan.specs.Theorems.{MayWrite}
use Rattle.plan.specs.declared.Totals.{Totals}
use Rattle.plan.proofs.Refusals.{refuses_as_table}
use Rattle.plan.proofs.Answers.{refused_by}
use Rattle.plan.proofs.Theorems.{held}
use Rattle.text.specs.Output.{list_text, rows_text}
use Rattle.text.specs.Steps.{ShowsTable}

module _ (n : ℕ) (t values cares values' cares' : List ℕ) (v : 2 ^ (widest - 1) ≤ length values) (w : 2 ^ (widest - 1) ≤ length cares) where
  refusal_is : plan_refuses n t (length values) (length cares) ≡ first_of (table_conditions n t)
  refusal_is = refuses_as_table n t (length values) (length cares) v w

  module _ (totals : Totals) (p : Plans n t values cares values' cares' (Ok totals)) where
    abbrev list : Cover
    list = first_rows totals.rows values' cares'

    pub shows : {text : List ℕ} → text ≡ list_text n list (length (take totals.rows values')) totals.bits → ShowsTable rows_text MayWrite n t text
    shows e = record {
      list = list;
      is_written = record { minimum = (held p).minimum; is_ascending = (held p).is_ascending };
      is_text = e ∙ ap₂ (list_text n list) (length-take-le totals.rows values' (held p).enough_values ∙ sym (held p).row_count) (sym (held p).bit_count);
    }

  pub refuses : (e : Refusal) → Plans n t values cares values' cares' (Err e) → refusal_number e ≡ first_of (table_conditions n t)
  refuses e p = sym (refused_by p) ∙ refusal_is

-- The keep-out call is Plan for the exchanged table, and so the arrays hold a shortest keep-out list. Assumes nothing.
use mathlib.Core.Path.{◌≡◌, sym, ap, ◌∙◌, subst}
use mathlib.Core.List.{List}
use Prim.Native.Nat.{ℕ, ◌^◌}
use lib.ListN.{length}
use Rattle.std.specs.Prelude.{Result, Ok}
use Rattle.cube.specs.Calls.{answered, written}
use Rattle.cube.specs.declared.Refusal.{Refusal}
use Rattle.plan.specs.Plan.{plan_refuses, totals_of, values_of, cares_of, Plans}
use Rattle.plan.specs.declared.Totals.{Totals}
use Rattle.plan.proofs.Refusals.{plannable}
use Rattle.plan.proofs.Answers.{not_refused}
use Rattle.plan.proofs.Theorems.{held, arrays_hold}
use Rattle.keep_out.specs.KeepOut.{PlansKeepOut}
use Rattle.keep_out.specs.Theorems.{exchanged, PlansExchanged, HeldKeepOut, ArraysKeepOut}
use Rattle.keep_out.proofs.Exchanging.{exchange}

module _ (n : ℕ) (t values cares : List ℕ) where
  abbrev refusal : List ℕ → ℕ
  refusal u = plan_refuses n u (length values) (length cares)

  same : refusal (exchanged t) ≡ refusal t
  same = (exchange n t).refusal (length values) (length cares)

  -- a table that is not refused has 2^n cells
  cells : refusal t ≡ 0 → length t ≡ 2 ^ n
  cells e = (plannable n t (length values) (length cares) e).table.cells

  module _ (values' cares' : List ℕ) where
    to_plan : (r : Result Totals Refusal) → PlansKeepOut n t values cares values' cares' r → Plans n (exchanged t) values cares values' cares' r
    to_plan r p = record {
      list = p.list;
      minimum = λ z. let e = sym same ∙ z in ((exchange n t).lists (cells e) p.list).0 (p.is_written e).minimum;
      is_ascending = λ z. (p.is_written (sym same ∙ z)).is_ascending;
      answer = p.answer ∙ ap (λ (k : ℕ). answered k (totals_of n p.list)) (sym same);
      values_are = p.values_are ∙ ap (λ (k : ℕ). written k (values_of p.list) values) (sym same);
      cares_are = p.cares_are ∙ ap (λ (k : ℕ). written k (cares_of p.list) cares) (sym same);
    }

    from_plan : (r : Result Totals Refusal) → Plans n (exchanged t) values cares values' cares' r → PlansKeepOut n t values cares values' cares' r
    from_plan r p = record {
      list = p.list;
      is_written = λ e. record { minimum = ((exchange n t).lists (cells e) p.list).1 (p.minimum (same ∙ e)); is_ascending = p.is_ascending (same ∙ e) };
      answer = p.answer ∙ ap (λ (k : ℕ). answered k (totals_of n p.list)) same;
      values_are = p.values_are ∙ ap (λ (k : ℕ). written k (values_of p.list) values) same;
      cares_are = p.cares_are ∙ ap (λ (k : ℕ). written k (cares_of p.list) cares) same;
    }

    pub plans_exchanged : (r : Result Totals Refusal) → PlansExchanged n t values cares values' cares' r
    plans_exchanged r = (to_plan r, from_plan r)

    held_keep_out : (totals : Totals) → PlansKeepOut n t values cares values' cares' (Ok totals) → HeldKeepOut n t values cares values' cares' totals
    held_keep_out totals p =
        let q = to_plan (Ok totals) p in
        let long = cells (sym same ∙ not_refused q) in
        record { held = held q; minimum = ((exchange n t).lists long _).1 (held q).minimum }

    pub arrays_keep_out : ArraysKeepOut n t values cares values' cares'
    arrays_keep_out = record {
      counted = held_keep_out;
      accepted = λ r e p. let d = (arrays_hold n (exchanged t) values cares values' cares').accepted r (same ∙ e) (to_plan r p) in (d.totals, d.answer);
    }

  -- how the call ends where Plan has written
  pub keep_out_done : {cells values' cares' : List ℕ} (r : Result Totals Refusal) → cells ≡ exchanged t → Plans n cells values cares values' cares' r
      → PlansKeepOut n t values cares values' cares' r
  keep_out_done {values' = values'} {cares'} r e p = (plans_exchanged values' cares' r).1 (subst (λ (u : List ℕ). Plans n u values cares values' cares' r) e p)

-- What an answer of Plan says: totals are those of its list, which is not refused, and a refusal is the first condition that holds. Assumes nothing.
use mathlib.Core.Path.{◌≡◌, ap}
use mathlib.Core.List.{List}
use Prim.Native.Nat.{ℕ}
use lib.ListN.{length}
use Rattle.std.specs.Prelude.{Ok, Err}
use Rattle.cube.specs.Words.{cover_literals}
use Rattle.cube.specs.Calls.{refusal_number}
use Rattle.cube.specs.declared.Refusal.{Refusal}
use Rattle.cube.proofs.Calls.{answered_gives, answered_refuses}
use Rattle.plan.specs.Plan.{plan_refuses, totals_of, Plans}
use Rattle.plan.specs.declared.Totals.{Totals}

module _ {n : ℕ} {t values cares values' cares' : List ℕ} where
  module _ {totals : Totals} (p : Plans n t values cares values' cares' (Ok totals)) where
    accepted_with : (plan_refuses n t (length values) (length cares) ≡ 0) × (totals ≡ totals_of n p.list)
    accepted_with = answered_gives (plan_refuses n t (length values) (length cares)) totals (totals_of n p.list) p.answer

    pub not_refused : plan_refuses n t (length values) (length cares) ≡ 0
    not_refused = accepted_with.0

    pub totals_are : totals ≡ totals_of n p.list
    totals_are = accepted_with.1

    pub rows_is : totals.rows ≡ length p.list
    rows_is = ap (λ (x : Totals). x.rows) totals_are

    pub bits_is : totals.bits ≡ cover_literals n p.list
    bits_is = ap (λ (x : Totals). x.bits) totals_are

  module _ {e : Refusal} (p : Plans n t values cares values' cares' (Err e)) where
    refused_with : (plan_refuses n t (length values) (length cares) ≡ refusal_number e) × (plan_refuses n t (length values) (length cares) ≡ 0 → ⊥)
    refused_with = answered_refuses (refusal_number e) (plan_refuses n t (length values) (length cares)) (totals_of n p.list) p.answer

    -- a call for which no named condition holds is not refused
    pub accepted_refused : plan_refuses n t (length values) (length cares) ≡ 0 → ⊥
    accepted_refused = refused_with.1

    pub refused_by : plan_refuses n t (length values) (length cares) ≡ refusal_number e
    refused_by = refused_with.0

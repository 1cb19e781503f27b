-- How the call ends. Both lists stand in arrays of their own, with their totals, and where the lent arrays are not refused the better one is copied into
-- them. Assumes nothing.
use mathlib.Core.Path.{◌≡◌, sym, ap, ap₂, ◌∙◌}
use mathlib.Core.Bool.{Bool, true, false, cond, ◌||◌}
use mathlib.Core.List.{List, [], ◌∷◌}
use Prim.Native.Nat.{ℕ, ◌-◌, ◌^◌, ◌≤◌}
use native.Mathlib.Omega.{arith}
use lib.ListN.{length, take}
use Rattle.cube.specs.Words.{Cover}
use Rattle.std.specs.Prelude.{Ok, Err}
use Rattle.cube.specs.Calls.{widest, short, when, table_conditions, refusal_number, gives, answered, written}
use Rattle.cube.specs.declared.Refusal.{Refusal}
use Rattle.cube.proofs.Calls.{none_in_front, refusal_from, refuses_answered, listed_refused}
use Rattle.plan.specs.Plan.{plan_places, plan_refuses, totals_of, values_of, cares_of, Plans}
use Rattle.plan.specs.Theorems.{MayWrite}
use Rattle.plan.specs.declared.Totals.{Totals}
use Rattle.plan.proofs.Refusals.{Plannable, plannable, refuses_as_table}
use Rattle.plan.proofs.Answers.{not_refused, totals_are, accepted_refused}
use Rattle.plan.proofs.Theorems.{values_stand, cares_stand, held}
use Rattle.keep_out.specs.KeepOut.{MayKeepOut}
use Rattle.keep_out.specs.Theorems.{exchanged}
use Rattle.keep_out.proofs.Exchanging.{exchange}
use Rattle.better.specs.Better.{Kind, ordinary, keep_out, Choice, is_better, choose, said, said_of, Builds}
use Rattle.better.specs.Steps.{Fits}
use Rattle.better.specs.declared.Built.TheVariants.{Ordinary, KeepOut}
use Rattle.better.specs.declared.Draft.{Draft}

-- a list that Plan may write stands in the first places of two arrays, and has these totals
pub record StandsIn (n : ℕ) (t vs ws : List ℕ) (totals : Totals) : Type 0 where
  pub list : Cover
  pub may : MayWrite n t list
  pub totals_are : totals ≡ totals_of n list
  pub enough_values : totals.rows ≤ length vs
  pub enough_cares : totals.rows ≤ length ws
  pub few : totals.rows ≤ 2 ^ (n - 1)
  pub values_are : take totals.rows vs ≡ values_of list
  pub cares_are : take totals.rows ws ≡ cares_of list

-- where Plan has answered
pub stands : {n : ℕ} {t values cares vs ws : List ℕ} {totals : Totals} → Plans n t values cares vs ws (Ok totals) → StandsIn n t vs ws totals
stands p = record {
  list = p.list;
  may = record { minimum = p.minimum (not_refused p); is_ascending = p.is_ascending (not_refused p) };
  totals_are = totals_are p;
  enough_values = (held p).enough_values;
  enough_cares = (held p).enough_cares;
  few = (held p).few;
  values_are = values_stand p;
  cares_are = cares_stand p;
}

module _ (n : ℕ) (t values cares : List ℕ) where
  abbrev refusal : ℕ
  refusal = plan_refuses n t (length values) (length cares)

  pub better_refused : (e : Refusal) → refusal_number e ≡ refusal → Builds n t values cares values cares (Err e)
  better_refused e h = record {
    list = [];
    excluding = [];
    is_list = λ z. absurd (omega (arith, refusal_from e));
    is_excluding = λ z. absurd (omega (arith, refusal_from e));
    answer = refuses_answered e (said_of n (choose n [] [])) h;
    values_are = (listed_refused {list = values_of (choose n [] []).list} e h).places;
    cares_are = (listed_refused {list = cares_of (choose n [] []).list} e h).places;
  }

  module _ (none : refusal ≡ 0) where
    places : Plannable n t (length values) (length cares)
    places = plannable n t (length values) (length cares) none

    -- an array of the places for the widest list is never too short
    pub none_locally : (v w : ℕ) → 2 ^ (widest - 1) ≤ v → 2 ^ (widest - 1) ≤ w → plan_refuses n t v w ≡ 0
    none_locally v w a b =
        refuses_as_table n t v w a b
        ∙ none_in_front (table_conditions n t) (when (short (length values) (plan_places n) || short (length cares) (plan_places n)) 4 ∷ []) none

    -- so Plan does not refuse
    pub list_drafted : {vs ws vs' ws' : List ℕ} (e : Refusal) → 2 ^ (widest - 1) ≤ length vs → 2 ^ (widest - 1) ≤ length ws → Plans n t vs ws vs' ws' (Err e) → ⊥
    list_drafted {vs} {ws} {vs'} {ws'} e v w p = accepted_refused p (none_locally (length vs) (length ws) v w)

    pub fits : {u : List ℕ} (draft : Draft) → StandsIn n u draft.values draft.cares draft.totals → Fits draft values cares
    fits draft s = record {
      from_values = s.enough_values;
      from_cares = s.enough_cares;
      to_values = omega (arith, s.few, places.enough_values);
      to_cares = omega (arith, s.few, places.enough_cares);
    }

    module _ {lvs lws ovs ows : List ℕ} {a o : Totals} (l : StandsIn n t lvs lws a) (k : StandsIn n (exchanged t) ovs ows o) where
      abbrev both : Choice
      both = choose n l.list k.list

      may_keep_out : MayKeepOut n t k.list
      may_keep_out = record { minimum = ((exchange n t).lists places.table.cells k.list).1 k.may.minimum; is_ascending = k.may.is_ascending }

      -- the list that the totals choose
      choice : (b : Bool) → is_better o a ≡ b → both ≡ cond b (record { kind = keep_out; list = k.list }) (record { kind = ordinary; list = l.list })
      choice b e =
          ap (λ (x : Bool). cond x (record { kind = keep_out; list = k.list }) (record { kind = ordinary; list = l.list }))
          (ap₂ is_better (sym k.totals_are) (sym l.totals_are) ∙ e)

      module _ (values' cares' : List ℕ) where
        -- the list that is chosen was copied
        done : {u vs ws : List ℕ} {totals : Totals} (s : StandsIn n u vs ws totals) (kind : Kind) → both ≡ record { kind = kind; list = s.list }
            → values' ≡ written 0 (take totals.rows vs) values
            → cares' ≡ written 0 (take totals.rows ws) cares → Builds n t values cares values' cares' (Ok (said kind totals))
        done s kind chosen v w = record {
          list = l.list;
          excluding = k.list;
          is_list = λ z. l.may;
          is_excluding = λ z. may_keep_out;
          answer =
              ap (λ (x : Totals). gives (said kind x)) s.totals_are
              ∙ ap₂ (λ (i : ℕ) (x : Choice). answered i (said_of n x)) (sym none) (sym chosen);
          values_are = v ∙ ap₂ (λ (i : ℕ) (x : List ℕ). written i x values) (sym none) (s.values_are ∙ ap (λ (x : Choice). values_of x.list) (sym chosen));
          cares_are = w ∙ ap₂ (λ (i : ℕ) (x : List ℕ). written i x cares) (sym none) (s.cares_are ∙ ap (λ (x : Choice). cares_of x.list) (sym chosen));
        }

        pub keep_out_done : is_better o a ≡ true → values' ≡ written 0 (take o.rows ovs) values → cares' ≡ written 0 (take o.rows ows) cares
            → Builds n t values cares values' cares' (Ok (KeepOut o))
        keep_out_done e = done k keep_out (choice true e)

        pub ordinary_done : is_better o a ≡ false → values' ≡ written 0 (take a.rows lvs) values → cares' ≡ written 0 (take a.rows lws) cares
            → Builds n t values cares values' cares' (Ok (Ordinary a))
        ordinary_done e = done l ordinary (choice false e)

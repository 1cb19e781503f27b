-- What Plan refuses: what the table is refused for, then 4 where either array is short, which an array with places for the widest list never is.
-- Assumes nothing.
use mathlib.Core.Path.{◌≡◌, refl, sym, ap₂, ◌∙◌}
use mathlib.Core.Bool.{Bool, not, ◌||◌}
use mathlib.Core.List.{List, [], ◌∷◌}
use Prim.Native.Nat.{ℕ, zero, suc, ◌-◌, ◌^◌, ◌≤◌}
use native.Mathlib.Omega.{arith}
use lib.Dec.{eqb}
use lib.ListN.{length}
use Rattle.cube.specs.Calls.{widest, bad_width, bad_cell, short, when, first_of, table_conditions}
use Rattle.cube.proofs.Calls.{Accepted, accepted, refusals, code_pairs_most, conditions_refuse, none_in_front}
use Rattle.plan.specs.Plan.{plan_refuses, plan_places}

module _ (n : ℕ) (t : List ℕ) (values cares : ℕ) where
  abbrev is_short : Bool
  is_short = short values (plan_places n) || short cares (plan_places n)

  pub refuses_none : first_of (table_conditions n t) ≡ 0 → plan_places n ≤ values → plan_places n ≤ cares → 0 ≡ plan_refuses n t values cares
  refuses_none e v w = grind (arith, refusals)

  -- with places for the widest list, Plan refuses what a table is refused for
  pub refuses_as_table : 2 ^ (widest - 1) ≤ values → 2 ^ (widest - 1) ≤ cares → plan_refuses n t values cares ≡ first_of (table_conditions n t)
  refuses_as_table v w = go (first_of (table_conditions n t)) refl
    where
      go : (k : ℕ) → first_of (table_conditions n t) ≡ k → plan_refuses n t values cares ≡ first_of (table_conditions n t)
      go zero e = let most = code_pairs_most n (accepted n t e).to in sym (refuses_none e (omega (arith, most, v)) (omega (arith, most, w))) ∙ sym e
      go (suc k) e = conditions_refuse (table_conditions n t) (when is_short 4 ∷ []) k e ∙ sym e

-- tables of one length, both with or both without a cell that is none, are refused alike
pub same_refusal : (n : ℕ) (t u : List ℕ) → length t ≡ length u → bad_cell t ≡ bad_cell u → (values cares : ℕ) → plan_refuses n t values cares ≡ plan_refuses n u values cares
same_refusal n t u l b values cares =
    ap₂ (λ (m : ℕ) (bad : Bool). first_of (when (bad_width n) 1 ∷ when (not (eqb m (2 ^ n))) 2 ∷ when bad 3 ∷ when (is_short n t values cares) 4 ∷ [])) l b

-- what is known where nothing is refused
pub record Plannable (n : ℕ) (t : List ℕ) (values cares : ℕ) : Type 0 where
  pub table : Accepted n t
  pub enough_values : plan_places n ≤ values
  pub enough_cares : plan_places n ≤ cares

pub plannable : (n : ℕ) (t : List ℕ) (values cares : ℕ) → plan_refuses n t values cares ≡ 0 → Plannable n t values cares
plannable n t values cares e = record {
  table = accepted n t (none_in_front (table_conditions n t) (when (is_short n t values cares) 4 ∷ []) e);
  enough_values = grind (arith, refusals);
  enough_cares = grind (arith, refusals);
}

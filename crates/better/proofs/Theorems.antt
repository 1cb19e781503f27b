-- What the call tells. Where it answers counts, its kind tells which list the definition chose: so that list is in the arrays, and the counts of the other
-- are no better. Assumes nothing.
use mathlib.Core.Path.{◌≡◌, refl, sym, ap, ◌∙◌, subst, subst⁻¹}
use mathlib.Core.Logic.{◌⊎◌, inl, inr}
use mathlib.Core.Bool.{Bool, true, false, cond}
use mathlib.Core.List.{List}
use Prim.Native.Nat.{ℕ}
use lib.Dec.{T}
use lib.ListN.{length}
use Rattle.cube.specs.Words.{Cover, all_formed, implements, cover_literals}
use Rattle.std.specs.Prelude.{Result, Ok, Err}
use Rattle.cube.specs.Calls.{refusal_number, gives, answered, written}
use Rattle.cube.specs.declared.Refusal.{Refusal}
use Rattle.cube.specs.Minimum.{NoBetter}
use Rattle.cube.proofs.Calls.{answered_gives, answered_refuses}
use Rattle.plan.specs.Plan.{plan_refuses, totals_of, values_of, cares_of, Plans}
use Rattle.plan.specs.declared.Totals.{Totals}
use Rattle.plan.proofs.Theorems.{held}
use Rattle.keep_out.specs.KeepOut.{KeepsOut, PlansKeepOut}
use Rattle.keep_out.proofs.Theorems.{arrays_keep_out}
use Rattle.better.specs.Better.{ordinary, keep_out, Choice, is_better, choose, said_of, Builds}
use Rattle.better.specs.Theorems.{Worse, BetterHeld}
use Rattle.better.specs.declared.Built.{Built}
use Rattle.better.specs.declared.Built.TheVariants.{Ordinary, KeepOut}
use Rattle.better.proofs.Counting.{not_better, is_better_lem, no_better_than_both, worse_than_both}

-- the answer tells which list is chosen, with its totals
abbrev IsOrdinary : Built → Type 0
IsOrdinary (Ordinary totals) = Unit
IsOrdinary (KeepOut totals) = ⊥

abbrev IsKeepOut : Built → Type 0
IsKeepOut (Ordinary totals) = ⊥
IsKeepOut (KeepOut totals) = Unit

abbrev totals_in : Built → Totals
totals_in (Ordinary totals) = totals
totals_in (KeepOut totals) = totals

module _ (n : ℕ) (list excluding : Cover) where
  abbrev both : Choice
  both = choose n list excluding

  abbrev excluding_is_better : Bool
  excluding_is_better = is_better (totals_of n excluding) (totals_of n list)

  by_kind : (b : Bool) → excluding_is_better ≡ b → both ≡ cond b (record { kind = keep_out; list = excluding }) (record { kind = ordinary; list = list })
  by_kind b e = ap (λ (x : Bool). cond x (record { kind = keep_out; list = excluding }) (record { kind = ordinary; list = list })) e

  abbrev told : Built
  told = said_of n both

  chose_list : IsOrdinary told → (excluding_is_better ≡ false) × (both ≡ record { kind = ordinary; list = list })
  chose_list k = go excluding_is_better refl
    where
      go : (b : Bool) → excluding_is_better ≡ b → (excluding_is_better ≡ false) × (both ≡ record { kind = ordinary; list = list })
      go true e = absurd (subst (λ (x : Choice). IsOrdinary (said_of n x)) (by_kind true e) k)
      go false e = (e, by_kind false e)

  chose_excluding : IsKeepOut told → (excluding_is_better ≡ true) × (both ≡ record { kind = keep_out; list = excluding })
  chose_excluding k = go excluding_is_better refl
    where
      go : (b : Bool) → excluding_is_better ≡ b → (excluding_is_better ≡ true) × (both ≡ record { kind = keep_out; list = excluding })
      go true e = (e, by_kind true e)
      go false e = absurd (subst (λ (x : Choice). IsKeepOut (said_of n x)) (by_kind false e) k)

module _ (n : ℕ) (t values cares values' cares' : List ℕ) (totals : Totals) where
  abbrev refusal : ℕ
  refusal = plan_refuses n t (length values) (length cares)

  -- ---- the ordinary list

  module _ (p : Builds n t values cares values' cares' (Ok (Ordinary totals))) where
    answers : (refusal ≡ 0) × (Ordinary totals ≡ told n p.list p.excluding)
    answers = answered_gives refusal (Ordinary totals) (told n p.list p.excluding) p.answer

    chosen : (excluding_is_better n p.list p.excluding ≡ false) × (both n p.list p.excluding ≡ record { kind = ordinary; list = p.list })
    chosen = chose_list n p.list p.excluding (subst IsOrdinary answers.1 tt)

    totals_are : totals ≡ totals_of n p.list
    totals_are = ap totals_in answers.1 ∙ ap (λ (x : Choice). totals_in (said_of n x)) chosen.1

    pub plans : Plans n t values cares values' cares' (Ok totals)
    plans = record {
      list = p.list;
      minimum = λ z. (p.is_list z).minimum;
      is_ascending = λ z. (p.is_list z).is_ascending;
      answer = ap gives totals_are ∙ ap (λ (k : ℕ). answered k (totals_of n p.list)) (sym answers.0);
      values_are = p.values_are ∙ ap (λ (x : Choice). written refusal (values_of x.list) values) chosen.1;
      cares_are = p.cares_are ∙ ap (λ (x : Choice). written refusal (cares_of x.list) cares) chosen.1;
    }

    no_better_keep_out : (rival : Cover) → KeepsOut n t rival → NoBetter (length rival) (cover_literals n rival) totals.rows totals.bits
    no_better_keep_out rival k =
        subst⁻¹ (λ (x : Totals). NoBetter (length rival) (cover_literals n rival) x.rows x.bits) totals_are
        (no_better_than_both ((p.is_excluding answers.0).minimum.least rival k) (not_better (totals_of n p.excluding) (totals_of n p.list) chosen.0))

  -- ---- the keep-out list

  module _ (p : Builds n t values cares values' cares' (Ok (KeepOut totals))) where
    answers_excluding : (refusal ≡ 0) × (KeepOut totals ≡ told n p.list p.excluding)
    answers_excluding = answered_gives refusal (KeepOut totals) (told n p.list p.excluding) p.answer

    chosen_excluding : (excluding_is_better n p.list p.excluding ≡ true) × (both n p.list p.excluding ≡ record { kind = keep_out; list = p.excluding })
    chosen_excluding = chose_excluding n p.list p.excluding (subst IsKeepOut answers_excluding.1 tt)

    excluding_totals_are : totals ≡ totals_of n p.excluding
    excluding_totals_are = ap totals_in answers_excluding.1 ∙ ap (λ (x : Choice). totals_in (said_of n x)) chosen_excluding.1

    pub plans_keep_out : PlansKeepOut n t values cares values' cares' (Ok totals)
    plans_keep_out = record {
      list = p.excluding;
      is_written = p.is_excluding;
      answer = ap gives excluding_totals_are ∙ ap (λ (k : ℕ). answered k (totals_of n p.excluding)) (sym answers_excluding.0);
      values_are = p.values_are ∙ ap (λ (x : Choice). written refusal (values_of x.list) values) chosen_excluding.1;
      cares_are = p.cares_are ∙ ap (λ (x : Choice). written refusal (cares_of x.list) cares) chosen_excluding.1;
    }

    worse_ordinary : (rival : Cover) → T (all_formed n rival) → T (implements n t rival) → Worse (length rival) (cover_literals n rival) totals.rows totals.bits
    worse_ordinary rival f h =
        subst⁻¹ (λ (x : Totals). Worse (length rival) (cover_literals n rival) x.rows x.bits) excluding_totals_are
        (worse_than_both ((p.is_list answers_excluding.0).minimum.least rival f h) (is_better_lem (totals_of n p.excluding) (totals_of n p.list) chosen_excluding.0))

pub better_held : (n : ℕ) (t values cares values' cares' : List ℕ) → BetterHeld n t values cares values' cares'
better_held n t values cares values' cares' = record {
  ordinary = λ totals p. held (plans n t values cares values' cares' totals p);
  no_better_keep_out = no_better_keep_out n t values cares values' cares';
  keep_out = λ totals p. (arrays_keep_out n t values cares values' cares').counted totals (plans_keep_out n t values cares values' cares' totals p);
  worse_ordinary = worse_ordinary n t values cares values' cares';
  accepted = accepted;
}
  where
    accepted : (r : Result Built Refusal) → plan_refuses n t (length values) (length cares) ≡ 0 → Builds n t values cares values' cares' r
        → (totals : Totals) × ((r ≡ Ok (Ordinary totals)) ⊎ (r ≡ Ok (KeepOut totals)))
    accepted (Ok (Ordinary totals)) e p = (totals, inl refl)
    accepted (Ok (KeepOut totals)) e p = (totals, inr refl)
    accepted (Err d) e p =
        absurd ((answered_refuses (refusal_number d) (plan_refuses n t (length values) (length cares)) (told n p.list p.excluding) p.answer).1 e)

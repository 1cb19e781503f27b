-- The keep-out call, document 02: "Some chips pass everything except what a row matches. A call writes the shortest list that matches every barred code and
-- no wanted one, in Plan's order and with Plan's two counts. [..] Demand 3 holds for a keep-out list too, with wanted and barred exchanged. Both calls refuse
-- as Plan does." Assumes nothing.
use Rattle.std.specs.Prelude.{◌≡◌, List, map, ℕ, ◌^◌, ◌<◌, Result, T, length}
use Rattle.cube.specs.Words.{on_set, off_set, Cover, all_formed, cover_matches, cover_literals, number_of}
use Rattle.cube.specs.Calls.{answered, answer_of, written}
use Rattle.cube.specs.Minimum.{NoBetter}
use Rattle.cube.specs.declared.Refusal.{Refusal}
use Rattle.plan.specs.Plan.{plan_refuses, totals_of, ascending, values_of, cares_of}
use Rattle.plan.specs.declared.Totals.{Totals}

-- a list of rows of the table's width "that matches every barred code and no wanted one"
pub record KeepsOut (n : ℕ) (t : List ℕ) (list : Cover) : Type 0 where
  pub formed : T (all_formed n list)
  pub every_barred : (c : ℕ) → c < 2 ^ n → T (off_set t c) → T (cover_matches list c)
  pub no_wanted : (c : ℕ) → c < 2 ^ n → T (on_set t c) → T (cover_matches list c) → ⊥

-- "the shortest list": no list that keeps the same codes out has fewer rows, or as many and fewer tested bits
pub record MinimumKeepOut (n : ℕ) (t : List ℕ) (list : Cover) : Type 0 where
  pub keeps_out : KeepsOut n t list
  pub least : (rival : Cover) → KeepsOut n t rival → NoBetter (length rival) (cover_literals n rival) (length list) (cover_literals n list)

-- the keep-out call may write this list for a table of n variables: a shortest one, "in Plan's order"
pub record MayKeepOut (n : ℕ) (t : List ℕ) (list : Cover) : Type 0 where
  pub minimum : MinimumKeepOut n t list
  pub is_ascending : T (ascending (map (number_of n) list))

-- Demand 3 for a keep-out list, for a call with these arrays before and after, and this answer.
pub record PlansKeepOut (n : ℕ) (t values cares values' cares' : List ℕ) (r : Result Totals Refusal) : Type 0 where
  -- left open: which of several equally good lists is written
  pub list : Cover
  pub is_written : plan_refuses n t (length values) (length cares) ≡ 0 → MayKeepOut n t list
  -- "with Plan's two counts"; on refusal the number alone
  pub answer : answer_of r ≡ answered (plan_refuses n t (length values) (length cares)) (totals_of n list)
  -- from the first place of each array on; what follows, and on refusal all, is unchanged
  pub values_are : values' ≡ written (plan_refuses n t (length values) (length cares)) (values_of list) values
  pub cares_are : cares' ≡ written (plan_refuses n t (length values) (length cares)) (cares_of list) cares

-- Plan: "a list into a value array and a care array, from the first place of each, ascending by cube number; the answer is the number of rows and
-- the sum of their tested bits. [..] Refuses 1, 2, 3, then 4 when either array is below" 2^(n−1) places: "4 is given only below 2^(n−1) places" (document 02).
-- And demand 3, as one record. Assumes nothing.
use Rattle.std.specs.Prelude.{◌≡◌, Bool, true, ◌&&◌, ◌||◌, List, [], ◌∷◌, ◌++◌, map, ℕ, suc, ◌-◌, ◌^◌, Result, T, leb, length}
use Rattle.cube.specs.Words.{Cover, cover_literals, number_of}
use Rattle.cube.specs.Calls.{short, when, first_of, table_conditions, answered, answer_of, written}
use Rattle.cube.specs.Minimum.{Minimum}
use Rattle.cube.specs.declared.Refusal.{Refusal}
use Rattle.plan.specs.declared.Totals.{Totals}

-- "only below 2^(n−1) places": the places that each array needs
abbrev pub plan_places : ℕ → ℕ
plan_places n = 2 ^ (n - 1)

-- the number that Plan refuses with, or 0, for arrays of these lengths
abbrev pub plan_refuses : ℕ → List ℕ → ℕ → ℕ → ℕ
plan_refuses n t values cares = first_of (table_conditions n t ++ (when (short values (plan_places n) || short cares (plan_places n)) 4 ∷ []))

-- "the number of rows and the sum of their tested bits": the totals of a list
abbrev pub totals_of : ℕ → Cover → Totals
totals_of n list = record { rows = length list; bits = cover_literals n list }

-- each number is at least b, and each is above the one before
unfoldable pub ascends_from : ℕ → List ℕ → Bool
ascends_from b [] = true
ascends_from b (q ∷ qs) = leb b q && ascends_from (suc q) qs

-- "ascending by cube number"
abbrev pub ascending : List ℕ → Bool
ascending qs = ascends_from 0 qs

-- the values and the cares of a list, place by place
abbrev pub values_of : Cover → List ℕ
values_of list = map (λ r. r.value) list

abbrev pub cares_of : Cover → List ℕ
cares_of list = map (λ r. r.care) list

-- Demand 3, for a call with these arrays before and after, and this answer.
pub record Plans (n : ℕ) (t values cares values' cares' : List ℕ) (r : Result Totals Refusal) : Type 0 where
  -- left open: which of several equally good lists is written
  pub list : Cover
  -- "For every accepted table": a list of the table's width, right for the table, and no such list is better
  pub minimum : plan_refuses n t (length values) (length cares) ≡ 0 → Minimum n t list
  pub is_ascending : plan_refuses n t (length values) (length cares) ≡ 0 → T (ascending (map (number_of n) list))
  -- "Both counts returned are those of the list written"; on refusal the number alone
  pub answer : answer_of r ≡ answered (plan_refuses n t (length values) (length cares)) (totals_of n list)
  -- "whatever the two arrays held before, take from the first place of each as many places as the row count returned"; on refusal, unchanged
  pub values_are : values' ≡ written (plan_refuses n t (length values) (length cares)) (values_of list) values
  pub cares_are : cares' ≡ written (plan_refuses n t (length values) (length cares)) (cares_of list) cares

-- The call that builds both lists, document 02: "A second call builds both lists and writes the better: fewer rows, then fewer tested bits, then the ordinary
-- one. It says which, with the two counts of the list written. [..] Both calls refuse as Plan does." The ordinary list is Plan's. Assumes nothing.
use Rattle.std.specs.Prelude.{◌≡◌, Bool, cond, ◌&&◌, ◌||◌, List, ℕ, Result, eqb, ltb, length}
use Rattle.cube.specs.Words.{Cover}
use Rattle.cube.specs.Calls.{answered, answer_of, written}
use Rattle.cube.specs.declared.Refusal.{Refusal}
use Rattle.plan.specs.Plan.{plan_refuses, totals_of, values_of, cares_of}
use Rattle.plan.specs.Theorems.{MayWrite}
use Rattle.keep_out.specs.KeepOut.{MayKeepOut}
use Rattle.plan.specs.declared.Totals.{Totals}
use Rattle.better.specs.declared.Built.{Built}
use Rattle.better.specs.declared.Built.TheVariants.{Ordinary, KeepOut}

-- "It says which"
pub data Kind : Type 0 where
  ordinary : Kind
  keep_out : Kind

-- a list, and which of the two it is
pub record Choice : Type 0 where
  pub kind : Kind
  pub list : Cover

-- "fewer rows, then fewer tested bits": the first counts are those of the better list
abbrev pub is_better : Totals → Totals → Bool
is_better a b = ltb a.rows b.rows || (eqb a.rows b.rows && ltb a.bits b.bits)

-- "writes the better: [..] then the ordinary one": the keep-out list where it is better
abbrev pub choose : ℕ → Cover → Cover → Choice
choose n list excluding = cond (is_better (totals_of n excluding) (totals_of n list)) (record { kind = keep_out; list = excluding }) (record { kind = ordinary; list = list })

-- "It says which, with the two counts of the list written."
abbrev pub said : Kind → Totals → Built
said ordinary totals = Ordinary totals
said keep_out totals = KeepOut totals

abbrev pub said_of : ℕ → Choice → Built
said_of n choice = said choice.kind (totals_of n choice.list)

-- What the call promises, with these arrays before and after, and this answer.
pub record Builds (n : ℕ) (t values cares values' cares' : List ℕ) (r : Result Built Refusal) : Type 0 where
  -- "builds both lists". Left open: which of several equally good lists each of the two is
  pub list : Cover
  pub excluding : Cover
  pub is_list : plan_refuses n t (length values) (length cares) ≡ 0 → MayWrite n t list
  pub is_excluding : plan_refuses n t (length values) (length cares) ≡ 0 → MayKeepOut n t excluding
  -- the answer is that of the list chosen; on refusal the number alone
  pub answer : answer_of r ≡ answered (plan_refuses n t (length values) (length cares)) (said_of n (choose n list excluding))
  -- that list alone is written, from the first place of each array on; what follows, and on refusal all, is as it was before the call
  pub values_are : values' ≡ written (plan_refuses n t (length values) (length cares)) (values_of (choose n list excluding).list) values
  pub cares_are : cares' ≡ written (plan_refuses n t (length values) (length cares)) (cares_of (choose n list excluding).list) cares

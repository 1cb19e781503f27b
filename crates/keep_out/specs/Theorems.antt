-- "with wanted and barred exchanged": a shortest keep-out list of a table is a shortest list of the table in which wanted and barred codes have changed
-- places, and the keep-out call is Plan for that table. `Exchanging` and `Theorems` of `proofs/` prove it. Assumes nothing.
use Rattle.std.specs.Prelude.{◌≡◌, ◌↔◌, List, map, ℕ, zero, suc, ◌^◌, ◌<◌, Result, Ok, length}
use Rattle.cube.specs.Words.{on_set, off_set, dont_care, Cover, first_rows}
use Rattle.cube.specs.Calls.{bad_cell}
use Rattle.cube.specs.Minimum.{Minimum}
use Rattle.cube.specs.declared.Refusal.{Refusal}
use Rattle.plan.specs.Plan.{plan_refuses, Plans}
use Rattle.plan.specs.Theorems.{Held}
use Rattle.plan.specs.declared.Totals.{Totals}
use Rattle.keep_out.specs.KeepOut.{MinimumKeepOut, PlansKeepOut}

-- 0 barred and 1 wanted change places; 2 free, and what is no cell, stay what they are
abbrev pub exchanged_cell : ℕ → ℕ
exchanged_cell zero = 1
exchanged_cell (suc zero) = 0
exchanged_cell (suc (suc x)) = suc (suc x)

-- "with wanted and barred exchanged": the table that this makes of a table
abbrev pub exchanged : List ℕ → List ℕ
exchanged t = map exchanged_cell t

-- what the exchange does, whatever the table
pub record Exchange (n : ℕ) (t : List ℕ) : Type 0 where
  pub cells : length (exchanged t) ≡ length t
  pub wanted : (c : ℕ) → c < length t → on_set (exchanged t) c ≡ off_set t c
  pub barred : (c : ℕ) → c < length t → off_set (exchanged t) c ≡ on_set t c
  pub free : (c : ℕ) → c < length t → dont_care (exchanged t) c ≡ dont_care t c
  pub bad : bad_cell (exchanged t) ≡ bad_cell t
  -- "Both calls refuse as Plan does."
  pub refusal : (values cares : ℕ) → plan_refuses n (exchanged t) values cares ≡ plan_refuses n t values cares
  -- the shortest keep-out lists are the shortest lists of the exchanged table
  pub lists : length t ≡ 2 ^ n → (list : Cover) → MinimumKeepOut n t list ↔ Minimum n (exchanged t) list

-- the keep-out call is Plan for the exchanged table, so that all that follows from Plan's promise follows from its
abbrev pub PlansExchanged : ℕ → List ℕ → List ℕ → List ℕ → List ℕ → List ℕ → Result Totals Refusal → Type 0
PlansExchanged n t values cares values' cares' r = PlansKeepOut n t values cares values' cares' r ↔ Plans n (exchanged t) values cares values' cares' r

-- as the arrays hold Plan's list (`Held`): where counts are returned, the first places hold a shortest keep-out list
pub record HeldKeepOut (n : ℕ) (t values cares values' cares' : List ℕ) (totals : Totals) : Type 0 where
  pub held : Held n (exchanged t) values cares values' cares' totals
  pub minimum : MinimumKeepOut n t (first_rows totals.rows values' cares')

-- what follows for a call, whatever the table and the arrays
pub record ArraysKeepOut (n : ℕ) (t values cares values' cares' : List ℕ) : Type 0 where
  -- where counts are returned, they are those of the list that the arrays hold
  pub counted : (totals : Totals) → PlansKeepOut n t values cares values' cares' (Ok totals) → HeldKeepOut n t values cares values' cares' totals
  -- "For every accepted table": there are counts
  pub accepted : (r : Result Totals Refusal) → plan_refuses n t (length values) (length cares) ≡ 0 → PlansKeepOut n t values cares values' cares' r
      → (totals : Totals) × (r ≡ Ok totals)

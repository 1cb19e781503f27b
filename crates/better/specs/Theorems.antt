-- What follows from the promise for the arrays: where counts are returned, the first places hold a shortest list of the kind that is named, and no list of
-- the other kind is better. `proofs/Theorems.antt` proves it. Assumes nothing.
use Rattle.std.specs.Prelude.{◌≡◌, ◌⊎◌, List, ℕ, ◌<◌, Result, Ok, T, length}
use Rattle.cube.specs.Words.{Cover, all_formed, implements, cover_literals}
use Rattle.cube.specs.Minimum.{NoBetter}
use Rattle.cube.specs.declared.Refusal.{Refusal}
use Rattle.plan.specs.Plan.{plan_refuses}
use Rattle.plan.specs.Theorems.{Held}
use Rattle.plan.specs.declared.Totals.{Totals}
use Rattle.keep_out.specs.KeepOut.{KeepsOut}
use Rattle.keep_out.specs.Theorems.{HeldKeepOut}
use Rattle.better.specs.declared.Built.{Built}
use Rattle.better.specs.declared.Built.TheVariants.{Ordinary, KeepOut}
use Rattle.better.specs.Better.{Builds}

-- a list with the first two counts is worse than one with the others: more rows, or as many and more tested bits
abbrev pub Worse : ℕ → ℕ → ℕ → ℕ → Type 0
Worse rivalRows rivalBits rows bits = (rows < rivalRows) ⊎ ((rows ≡ rivalRows) × (bits < rivalBits))

-- what a call tells, whatever the table and the arrays
pub record BetterHeld (n : ℕ) (t values cares values' cares' : List ℕ) : Type 0 where
  -- an ordinary list is held as Plan's is, and no keep-out list is better
  pub ordinary : (totals : Totals) → Builds n t values cares values' cares' (Ok (Ordinary totals)) → Held n t values cares values' cares' totals
  pub no_better_keep_out : (totals : Totals) → Builds n t values cares values' cares' (Ok (Ordinary totals)) → (rival : Cover) → KeepsOut n t rival
      → NoBetter (length rival) (cover_literals n rival) totals.rows totals.bits
  -- a keep-out list is held as that of the keep-out call is, and every ordinary list is worse
  pub keep_out : (totals : Totals) → Builds n t values cares values' cares' (Ok (KeepOut totals)) → HeldKeepOut n t values cares values' cares' totals
  pub worse_ordinary : (totals : Totals) → Builds n t values cares values' cares' (Ok (KeepOut totals)) → (rival : Cover) → T (all_formed n rival)
      → T (implements n t rival) → Worse (length rival) (cover_literals n rival) totals.rows totals.bits
  -- "For every accepted table": it is one or the other
  pub accepted : (r : Result Built Refusal) → plan_refuses n t (length values) (length cares) ≡ 0 → Builds n t values cares values' cares' r
      → (totals : Totals) × ((r ≡ Ok (Ordinary totals)) ⊎ (r ≡ Ok (KeepOut totals)))

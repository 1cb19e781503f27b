-- The totals of a shortest list are small: at most a row for each pair of codes, and for each row a tested bit for each variable. So they are read off their
-- number, and so are the kind and the totals of the better of two lists. Assumes nothing.
use mathlib.Core.Path.{◌≡◌}
use mathlib.Core.List.{List}
use Prim.Native.Nat.{ℕ}
use native.Mathlib.Nat.{mul-le-mul_right}
use native.Mathlib.Omega.{arith}
use lib.ListN.{length}
use Rattle.std.specs.Prelude.{Result, Ok, Err, IfOk}
use Rattle.cube.specs.declared.Refusal.{Refusal}
use Rattle.cube.proofs.Calls.{code_pairs_most}
use Rattle.cube.proofs.Covers.{literals_most}
use Rattle.cube.proofs.Minimum.{minimum_rows}
use Rattle.plan.specs.Plan.{Plans}
use Rattle.plan.specs.declared.Totals.{Totals}
use Rattle.plan.proofs.Refusals.{plannable}
use Rattle.plan.proofs.Answers.{not_refused, rows_is, bits_is}
use Rattle.keep_out.specs.KeepOut.{PlansKeepOut}
use Rattle.keep_out.proofs.Theorems.{plans_exchanged}
use Rattle.better.specs.Better.{Builds}
use Rattle.better.specs.declared.Built.{Built}
use Rattle.better.specs.declared.Built.TheVariants.{Ordinary, KeepOut}
use Rattle.better.proofs.Theorems.{plans, plans_keep_out}
use Rattle.installer.specs.Numbers.{number_of_totals, totals_at, number_of_built, built_at}
use Rattle.installer.specs.Steps.{AreFew, IsSmall}

-- ---- read off their number

pub read_totals : (totals : Totals) → AreFew totals → totals_at (number_of_totals totals) ≡ totals
read_totals totals few = grind arith

-- the kind is told from 100,000,000 on, and the totals are what is left
pub read_built : (built : Built) → IsSmall built → built_at (number_of_built built) ≡ built
read_built (Ordinary totals) few = grind (arith, read_totals)
read_built (KeepOut totals) few = grind (arith, read_totals)

-- ---- of a call's answer

module _ {n : ℕ} {t values cares values' cares' : List ℕ} where
  few : (totals : Totals) → Plans n t values cares values' cares' (Ok totals) → AreFew totals
  few totals p =
      let accepted = not_refused p in
      let width = (plannable n t (length values) (length cares) accepted).table.to in
      let most = minimum_rows n t p.list (p.minimum accepted) in (
        omega (arith, rows_is p, code_pairs_most n width),
        omega (
          arith,
          code_pairs_most n width,
          bits_is p,
          literals_most n p.list,
          mul-le-mul_right (length p.list) width,
        ),
      )

  pub few_totals : (r : Result Totals Refusal) → Plans n t values cares values' cares' r → IfOk r AreFew
  few_totals (Ok totals) p = few totals p
  few_totals (Err e) p = tt

module _ {n : ℕ} {t values cares values' cares' : List ℕ} where
  pub few_kept_out : (r : Result Totals Refusal) → PlansKeepOut n t values cares values' cares' r → IfOk r AreFew
  few_kept_out r p = few_totals r ((plans_exchanged n t values cares values' cares' r).0 p)

  pub few_built : (r : Result Built Refusal) → Builds n t values cares values' cares' r → IfOk r IsSmall
  few_built (Ok (Ordinary totals)) p = few totals (plans n t values cares values' cares' totals p)
  few_built (Ok (KeepOut totals)) p = few_kept_out (Ok totals) (plans_keep_out n t values cares values' cares' totals p)
  few_built (Err e) p = tt

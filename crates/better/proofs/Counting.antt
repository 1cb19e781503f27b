-- Which of two counts are those of a better list, by rows and then by tested bits: what the test tells. Each by cases. Assumes nothing.
use mathlib.Core.Path.{◌≡◌}
use mathlib.Core.Bool.{true, false}
use Prim.Native.Nat.{ℕ}
use native.Mathlib.Omega.{arith}
use Rattle.std.proofs.lemmas.Bool.Decides.{nat_tests}
use Rattle.cube.specs.Minimum.{NoBetter}
use Rattle.plan.specs.declared.Totals.{Totals}
use Rattle.better.specs.Better.{is_better}
use Rattle.better.specs.Theorems.{Worse}

module _ (a b : Totals) where
  pub not_better : is_better a b ≡ false → NoBetter a.rows a.bits b.rows b.bits
  not_better e = grind (arith, nat_tests)

  pub is_better_lem : is_better a b ≡ true → Worse b.rows b.bits a.rows a.bits
  is_better_lem e = grind (arith, nat_tests)

-- ---- one after the other

module _ {rivalRows rivalBits rows bits otherRows otherBits : ℕ} where
  pub no_better_than_both : NoBetter rivalRows rivalBits rows bits → NoBetter rows bits otherRows otherBits → NoBetter rivalRows rivalBits otherRows otherBits
  no_better_than_both p q = grind arith

  pub worse_than_both : NoBetter rivalRows rivalBits rows bits → Worse rows bits otherRows otherBits → Worse rivalRows rivalBits otherRows otherBits
  worse_than_both p q = grind arith

-- Check's answer is read off its number: the codes that it names are below 256, so the number of a missed code is below 257. Assumes nothing.
use mathlib.Core.Path.{◌≡◌, refl, sym, ap}
use mathlib.Core.List.{List}
use Prim.Native.Nat.{ℕ, zero, suc, ◌<◌}
use native.Mathlib.Omega.{arith}
use Rattle.cube.specs.Words.{rows_of}
use Rattle.cube.specs.Calls.{Answer, refuses, gives}
use Rattle.cube.proofs.Calls.{width_first, codes_most, answered_gives, answered_refuses}
use Rattle.checking.specs.Check.{check_refuses, verdict, check_of}
use Rattle.checking.specs.declared.Verdict.{Verdict}
use Rattle.checking.specs.declared.Verdict.TheVariants.{Right, Missed, Stray}
use Rattle.checking.proofs.Theorems.{check_means}
use Rattle.installer.specs.Numbers.{number_of_verdict, verdict_at, check_number, read_check, CheckRead}

module _ (n : ℕ) (t vs ws : List ℕ) where
  not_refused : (v : Verdict) → check_of n t vs ws ≡ gives v → check_refuses n t vs ws ≡ 0
  not_refused v e = (answered_gives (check_refuses n t vs ws) v (verdict n t (rows_of vs ws)) (sym e)).0

  missed_small : (c : ℕ) → check_of n t vs ws ≡ gives (Missed c) → c < 256
  missed_small c e =
      let none = not_refused (Missed c) e in
      omega (arith, (((check_means n t vs ws none).missed_when c).0 e).code, codes_most n (width_first n _ none))

  read_verdict : (v : Verdict) → check_of n t vs ws ≡ gives v → verdict_at (number_of_verdict v) ≡ v
  read_verdict Right e = refl
  read_verdict (Missed c) e = let small = missed_small c e in grind arith
  read_verdict (Stray c) e = grind arith

  pub check_read : CheckRead n t vs ws
  check_read = go (check_of n t vs ws) refl
    where
      go : (a : Answer Verdict) → check_of n t vs ws ≡ a → read_check (check_number a) ≡ a
      go (gives v) e = ap gives (read_verdict v e)
      go (refuses zero) e =
          let r = answered_refuses 0 (check_refuses n t vs ws) (verdict n t (rows_of vs ws)) (sym e) in absurd (r.1 r.0)
      go (refuses (suc k)) e = refl

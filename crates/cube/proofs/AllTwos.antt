-- The number with every digit 2 is 3^n − 1: its last digit is 2, and the digits before it make 3^(n−1) − 1. So it has no other digit, and every code
-- fits it. Assumes nothing.
use mathlib.Core.Path.{◌≡◌, ap, ap₂, ◌∙◌, subst⁻¹}
use mathlib.Core.Bool.{◌&&◌}
use Prim.Native.Nat.{ℕ, zero, suc, ◌-◌, ◌^◌, ◌/◌, ◌%◌, ◌<◌}
use native.Mathlib.Nat.{not-suc-le-zero, le_of_suc-le-suc, pow-suc, one-le-pow}
use native.Mathlib.Omega.{arith}
use lib.Dec.{T, lit<}
use Rattle.cube.specs.Words.{fits, digit, cube_matches}
use Rattle.cube.specs.Theorems.{EveryDigitTwo}

module _ (n : ℕ) where
  last_two : (3 ^ suc n - 1) % 3 ≡ 2
  last_two = omega (arith, pow-suc 3 n, one-le-pow n 3 (lit< tt))

  rest_twos : (3 ^ suc n - 1) / 3 ≡ 3 ^ n - 1
  rest_twos = omega (arith, pow-suc 3 n, one-le-pow n 3 (lit< tt))

digits_two : (n k : ℕ) → k < n → digit k (3 ^ n - 1) ≡ 2
unfolding digit
digits_two zero k l = absurd (not-suc-le-zero l)
digits_two (suc n) zero l = last_two n
digits_two (suc n) (suc k) l = ap (digit k) (rest_twos n) ∙ digits_two n k (le_of_suc-le-suc l)

matches_all : (n c : ℕ) → T (cube_matches n (3 ^ n - 1) c)
unfolding cube_matches
matches_all zero c = tt
matches_all (suc n) c =
    subst⁻¹ T (ap₂ (λ (d q : ℕ). fits d (c % 2) && cube_matches n q (c / 2)) (last_two n) (rest_twos n)) (matches_all n (c / 2))

pub every-digit_two : (n : ℕ) → EveryDigitTwo n
every-digit_two n = record { digits = digits_two n; matches = matches_all n }

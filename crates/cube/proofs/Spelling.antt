-- How a cube is spelled: its care, and the same cube spelled with more digits, where the value is the same and the low n bits of care count.
-- Assumes nothing.
use mathlib.Core.Path.{◌≡◌, refl, sym, ap, ap₂, ◌∙◌}
use Prim.Native.Nat.{ℕ, zero, suc, ◌+◌, ◌*◌, ◌^◌, ◌/◌, ◌%◌, ◌<◌, ◌≤◌}
use native.Mathlib.Nat.{not-suc-le-zero, le_of_suc-le-suc, mod-one, pow-suc}
use native.Mathlib.Numerals.{add-one}
use native.Mathlib.Omega.{arith}
use lib.Dec.{eqb, lit<}
use lib.Pow.{mod-pow-add}
use Rattle.numbers.specs.Below.{flag}
use Rattle.cube.specs.Words.{tested, value_of, care_of}
use Rattle.cube.proofs.Digits.{code_more, last_bit, rest_bits}
use Rattle.numbers.proofs.Below.{flag_lt}

pub care_lt : (n q : ℕ) → care_of n q < 2 ^ n
unfolding care_of
care_lt zero q = lit< tt
care_lt (suc n) q = code_more n (care_of n (q / 3)) (flag (tested (q % 3))) (flag_lt (tested (q % 3))) (care_lt n (q / 3))

-- the low n + 1 bits of x * 2 + b
low_more : (n x b : ℕ) → b < 2 → (x * 2 + b) % 2 ^ suc n ≡ (x % 2 ^ n) * 2 + b
low_more n x b l =
    ap (λ (i : ℕ). (x * 2 + b) % 2 ^ i) (sym (add-one n)) ∙ mod-pow-add (x * 2 + b) n 1
    ∙ ap₂ (λ (i j : ℕ). (i % 2 ^ n) * 2 + j) (rest_bits x b l) (last_bit x b l)

pub care_low : (n m q : ℕ) → n ≤ m → care_of m q % 2 ^ n ≡ care_of n q
unfolding care_of
care_low zero m q l = mod-one (care_of m q)
care_low (suc n) zero q l = absurd (not-suc-le-zero l)
care_low (suc n) (suc m) q l =
    low_more n (care_of m (q / 3)) (flag (tested (q % 3))) (flag_lt (tested (q % 3)))
    ∙ ap (λ (i : ℕ). i * 2 + flag (tested (q % 3))) (care_low n m (q / 3) (le_of_suc-le-suc l))

value_zero : (m : ℕ) → value_of m 0 ≡ 0
unfolding value_of
value_zero zero = refl
value_zero (suc m) = ap (λ (i : ℕ). i * 2 + 0) (value_zero m)

pub value_low : (n m q : ℕ) → n ≤ m → q < 3 ^ n → value_of m q ≡ value_of n q
unfolding value_of
value_low zero m q l h = let e : q ≡ 0 = omega arith in ap (value_of m) e ∙ value_zero m
value_low (suc n) zero q l h = absurd (not-suc-le-zero l)
value_low (suc n) (suc m) q l h =
    let e : 3 ^ suc n ≡ 3 ^ n * 3 = pow-suc 3 n in
    ap (λ (i : ℕ). i * 2 + flag (eqb (q % 3) 1)) (value_low n m (q / 3) (le_of_suc-le-suc l) (omega arith))

-- How long a line is. A literal of a variable with one digit is at most 3 characters, with what is before it 4; so a sum of n variables is at most
-- 4n + 1. Assumes nothing.
use mathlib.Core.Path.{ap}
use mathlib.Core.Bool.{Bool, true, false, cond}
use mathlib.Core.List.{[], ◌∷◌, ◌++◌}
use Prim.Native.Char.{code}
use Prim.Native.Nat.{ℕ, zero, suc, ◌+◌, ◌-◌, ◌*◌, ◌^◌, ◌≤◌, max}
use native.Mathlib.Nat.{mul-suc, mul-le-mul}
use native.Mathlib.Omega.{arith}
use lib.Dec.{eqb}
use lib.ListN.{length, length-append}
use Rattle.cube.specs.Words.{Row, Cover, digit_of}
use Rattle.cube.specs.Theorems.{bit_of_variable}
use Rattle.cube.specs.Calls.{widest}
use Rattle.text.specs.Characters.{bytes, line_feed}
use Rattle.text.specs.Output.{in_decimal}
use Rattle.text.proofs.Decimals.{decimals}
use Rattle.product.specs.Product.{Sum, literal_text, sum_text, sums_text, literals_of_digit, literals_from, row_sum, product_of, excluding_text, excluding_line}
use Rattle.text.specs.Steps.{most_variables}
use Rattle.product.specs.Steps.{rest_text, most_line}
use Rattle.product.proofs.Writing.{all_left}

literal_length : (k : ℕ) → k ≤ most_variables → (c : Bool) → length (literal_text (record { variable = k; complemented = c })) ≤ 3
literal_length k l true = omega (arith, ap length ((decimals k).low (omega arith)), length-append (in_decimal k) (bytes "'"))
literal_length k l false = omega (arith, ap length ((decimals k).low (omega arith)), length-append (in_decimal k) [])

-- a literal, or none, before literals whose text is not longer than this
one_more : (k before most : ℕ) → k ≤ most_variables → (untested c : Bool) (rest : Sum) → ((before : ℕ) → length (rest_text before rest) ≤ most)
    → length (rest_text before (cond untested [] (record { variable = k; complemented = c } ∷ []) ++ rest)) ≤ most + 4
unfolding rest_text
one_more k before most l true c rest h = omega (arith, h before)
one_more k before most l false c rest h =
    omega (
      arith,
      length-append (literal_text (record { variable = k; complemented = c })) (rest_text (code "+") rest),
      literal_length k l c,
      h (code "+"),
    )

-- the literals of m variables from xk on are left of a sum
rest_length : (n : ℕ) (r : Row) (m k : ℕ) → k + m ≤ most_variables + 1 → (before : ℕ) → length (rest_text before (literals_from n r m k)) ≤ 4 * m + 1
unfolding rest_text literals_from
rest_length n r zero k l before = omega arith
rest_length n r (suc m) k l before =
    let d : ℕ = digit_of (bit_of_variable n k r.value) (bit_of_variable n k r.care) in
    let more : length (rest_text before (literals_of_digit k d ++ literals_from n r m (suc k))) ≤ 4 * m + 1 + 4 =
    one_more k before (4 * m + 1) (omega arith) (eqb d 2) _ (literals_from n r m (suc k)) (rest_length n r m (suc k) (omega arith)) in
    omega arith

sum_length : (n : ℕ) (r : Row) → n ≤ most_variables → length (sum_text (row_sum n r)) ≤ 4 * n + 1
sum_length n r l = omega (arith, ap length (all_left (row_sum n r)), rest_length n r n 1 (omega arith) (code "("))

sums_length : (n : ℕ) (list : Cover) → n ≤ most_variables → length (sums_text (product_of n list)) ≤ (4 * n + 1) * length list
unfolding sums_text
sums_length n [] l = omega arith
sums_length n (r ∷ rs) l =
    omega (
      arith,
      length-append (sum_text (row_sum n r)) (sums_text (product_of n rs)),
      sum_length n r l,
      mul-suc (4 * n + 1) (length rs),
      sums_length n rs l,
    )

-- no row prints one character
pub text_length : (n : ℕ) (list : Cover) → n ≤ most_variables → length (excluding_text n list) ≤ max 1 ((4 * n + 1) * length list)
text_length n [] l = omega arith
text_length n (r ∷ rs) l = omega (arith, sums_length n (r ∷ rs) l)

pub line_fits : (n : ℕ) (list : Cover) → n ≤ widest → length list ≤ 2 ^ (widest - 1) → length (excluding_line n list) ≤ most_line
line_fits n list l few =
    let wide : 4 * n + 1 ≤ 4 * widest + 1 = omega arith in
    omega (arith, length-append (excluding_text n list) (line_feed ∷ []), text_length n list (omega arith), mul-le-mul wide few)

-- Why the weight 10,000 + literals orders lists by rows and then by literals: a list of at most 2^(n-1) rows tests fewer than 10,000 bits, so no number of
-- literals makes up for a row. It holds while n * 2^(n-1) is below 10,000, so for widths up to 10. Assumes nothing.
use mathlib.Core.Logic.{inl, inr, ⊎_elim}
use Prim.Native.Nat.{ℕ, ◌+◌, ◌-◌, ◌*◌, ◌^◌, ◌<◌, ◌≤◌}
use native.Mathlib.Nat.{eq-or-lt_of_le, mul-le-mul_left}
use native.Mathlib.Omega.{arith}
use Rattle.std.proofs.lemmas.Bool.{cases_lt}
use Rattle.cube.specs.Minimum.{NoBetter}
use Rattle.plan.specs.Steps.{row_weight}

-- few rows test few bits
few_bits : (n rows bits : ℕ) → n * 2 ^ (n - 1) < row_weight → rows ≤ 2 ^ (n - 1) → bits ≤ n * rows → bits < row_weight
few_bits n rows bits s l b = omega (arith, mul-le-mul_left n l)

-- a list no heavier than one of at most 2^(n-1) rows has at most 2^(n-1) rows
pub rows_most : (n rows bits others bits' : ℕ) → n * 2 ^ (n - 1) < row_weight → row_weight * rows + bits ≤ row_weight * others + bits' → others ≤ 2 ^ (n - 1) → bits' ≤ n * others
    → rows ≤ 2 ^ (n - 1)
rows_most n rows bits others bits' s h l b = omega (arith, few_bits n others bits' s l b)

-- no heavier means no better
pub weight_orders : (n rows bits rival bits' : ℕ) → n * 2 ^ (n - 1) < row_weight → row_weight * rows + bits ≤ row_weight * rival + bits' → rows ≤ 2 ^ (n - 1) → bits' ≤ n * rival
    → NoBetter rival bits' rows bits
weight_orders n rows bits rival bits' s h l b =
    ⊎_elim (λ x. absurd (omega (arith, few_bits n rival bits' s (omega arith) b))) (λ x. ⊎_elim (λ e. inr (e, omega arith)) inl (eq-or-lt_of_le x))
    (cases_lt rival rows)

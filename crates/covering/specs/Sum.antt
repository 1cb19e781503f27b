-- Sums over the numbers below n. Definitions only. Assumes nothing.
use Rattle.std.specs.Prelude.{Bool, true, false, ℕ, zero, suc, ◌+◌}

-- x where the flag is set, and nothing elsewhere
abbrev pub if_set : Bool → ℕ → ℕ
if_set true x = x
if_set false x = 0

-- f 0 + f 1 + .. + f (n - 1)
unfoldable pub sum : ℕ → (ℕ → ℕ) → ℕ
sum zero f = 0
sum (suc n) f = sum n f + f n

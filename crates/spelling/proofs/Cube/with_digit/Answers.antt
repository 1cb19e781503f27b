-- `spelling::Cube::with_digit` meets its contract: the digit is taken off by its weight, and the new one put on by the same. Assumes nothing.
use mathlib.Core.Path.{◌≡◌, ap, ap₂}
use Prim.Native.Nat.{ℕ, ◌+◌, ◌*◌, ◌-◌, ◌^◌, ◌<◌, ◌≤◌}
use native.Mathlib.Omega.{arith}
use Rattle.cube.specs.Words.{digit}
use Rattle.cube.proofs.Digits.{put_lt, put_weight}
use Rattle.spelling.proofs.Cube.with_digit.Goals as goal

-- digit k of q made d, where x is that digit and w its weight
record Put (n q k d x w : ℕ) : Type 0 where
  above : x * w ≤ q
  inside : q - x * w + d * w < 3 ^ n
  weighs : q - x * w + d * w + digit k q * 3 ^ k ≡ q + d * 3 ^ k

put : (n q k d x w : ℕ) → q < 3 ^ n → (k < n) × (d ≤ 2) → x ≡ digit k q → w ≡ 3 ^ k → Put n q k d x w
put n q k d x w h r e f =
    let taken : x * w ≡ digit k q * 3 ^ k = ap₂ (λ (i j : ℕ). i * j) e f in
    let put_on : d * w ≡ d * 3 ^ k = ap (λ (i : ℕ). d * i) f in
    let above : x * w ≤ q = omega (arith, taken, put_weight k 0 q) in
    let inside : q - x * w + d * w < 3 ^ n = omega (arith, put_weight k d q, put_lt n k d q r.0 (omega arith) h) in
    record { above = above; inside = inside; weighs = omega (arith, above) }

pub overflow_sub-number : goal.overflow_sub-number
overflow_sub-number c = (put _ _ _ _ _ _ c.args.self.numbered c.requires c.digit.ensures c.cubes-weight.ensures).above

pub overflow_mul-number : goal.overflow_mul-number
overflow_mul-number c = omega (arith, put _ _ _ _ _ _ c.args.self.numbered c.requires c.digit.ensures c.cubes-weight.ensures)

pub invariant_of-result-clause-numbered : goal.invariant_of-result-clause-numbered
invariant_of-result-clause-numbered c = (put _ _ _ _ _ _ c.args.self.numbered c.requires c.digit.ensures c.cubes-weight.ensures).inside

pub returns-clause-number : goal.returns-clause-number
returns-clause-number c = (put _ _ _ _ _ _ c.args.self.numbered c.requires c.digit.ensures c.cubes-weight.ensures).weighs

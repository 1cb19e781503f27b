-- The primes that serve, as they are listed for the rows of the chart: the first places hold them, and each is a cube. The chart has at most a row for each
-- cube. Assumes nothing.
use Rattle.std.proofs.Common.{◌≡◌, ℕ, ◌^◌, ◌<◌, ◌≤◌, List, length, take, get_or, arith}
use Rattle.std.proofs.Math.ListN.{length-map}
use Rattle.numbers.specs.Lent.{Puts}
use Rattle.numbers.proofs.Below.{those_at}
use Rattle.numbers.proofs.Lent.{front_inside, front_lent}
use Rattle.cube.specs.Words.{serving_prime, serving_primes_of}
use Rattle.cube.specs.Calls.{widest}
use Rattle.cube.proofs.Calls.{cubes_most, primes_most}
use Rattle.chart_arrays.specs.Rows.{chart_row, chart_of}

-- the listed cubes, in places for all cubes of the widest width
module _ (n : ℕ) (t old new : List ℕ) (count : ℕ) (w : n ≤ widest) (long : length old ≡ 3 ^ widest) (put : Puts (serving_primes_of n t) old 0 new count) where
  few : length (serving_primes_of n t) ≤ length old
  few = omega (arith, primes_most n t, cubes_most n w)

  pub listed : take count new ≡ serving_primes_of n t
  listed = front_lent put few

  pub inside : count ≤ length new
  inside = front_inside put few

  pub is_cube : (i : ℕ) → i < length (take count new) → get_or (take count new) i 0 < 3 ^ n
  unfolding serving_primes_of
  is_cube i l = rw listed (those_at (serving_prime n t) (3 ^ n) i (rw listed at l)).0

pub chart_most : (n : ℕ) (t : List ℕ) → length (chart_of n t) ≤ 3 ^ n
chart_most n t = omega (arith, length-map (serving_primes_of n t) (chart_row n t), primes_most n t)

-- How a call on a table that lists cubes ends where nothing is refused: with the list. Assumes nothing.
use mathlib.Core.Path.{◌≡◌, ap₂}
use mathlib.Core.List.{List}
use Prim.Native.Nat.{ℕ, ◌^◌, ◌≤◌}
use native.Mathlib.Nat.{le_trans}
use native.Mathlib.Omega.{arith}
use lib.ListN.{length}
use Rattle.std.specs.Prelude.{Ok}
use Rattle.numbers.specs.Lent.{Puts}
use Rattle.numbers.proofs.Lent.{puts_same}
use Rattle.cube.specs.Calls.{Listed}
use Rattle.cube.proofs.Calls.{refusals, listed_done}
use Rattle.tables.specs.Listing.{primes_refuses}

-- f lists some of the cubes of a table, and the list of the table that was made from what the call was handed stands in the lent places
pub listing_done : (f : ℕ → List ℕ → List ℕ) → ((n : ℕ) (t : List ℕ) → length (f n t) ≤ 3 ^ n) → {n width x : ℕ} {t cells old new : List ℕ}
    → 0 ≡ primes_refuses n t (length old) → (width ≡ n) × (cells ≡ t) → Puts (f width cells) old 0 new x
    → Listed (primes_refuses n t (length old)) (f n t) old new (Ok x)
listing_done f few {n} {t = t} none is p = listed_done none (puts_same (ap₂ f is.0 is.1) p) (le_trans (few n t) (grind (arith, refusals)))

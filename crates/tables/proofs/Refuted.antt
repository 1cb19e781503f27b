-- Wrong refusals of a call on a table that lists cubes, on named inputs: the earlier condition wins. `list` is any list, since Primes, Chart and both calls
-- that list the essential primes refuse the same way. Assumes nothing.
use mathlib.Core.Path.{◌≡◌}
use mathlib.Core.List.{List, [], ◌∷◌}
use Prim.Native.Nat.{ℕ}
use native.Mathlib.Omega.{arith}
use lib.ListN.{length}
use Rattle.std.specs.Prelude.{Err}
use Rattle.numbers.specs.Below.{some}
use Rattle.cube.specs.Calls.{bad_cell, Listed}
use Rattle.cube.specs.declared.Refusal.TheVariants.{TableLength, Cell, ShortOutput}
use Rattle.cube.proofs.Calls.{listed_number}
use Rattle.tables.specs.Listing.{primes_refuses}

module _ {A : Type 0} (list old new : List A) where
  -- 4 for any number of places, where a cell is 3
  pub four_before_three : Listed (primes_refuses 1 (1 ∷ 3 ∷ []) (length old)) list old new (Err ShortOutput) → ⊥
  unfolding some bad_cell
  four_before_three p = let z : ◌≡◌ {A = ℕ} 3 4 = listed_number ShortOutput p in omega arith

  -- 3 for a cell of a table that has one cell at width 1
  pub three_before_two : Listed (primes_refuses 1 (3 ∷ []) (length old)) list old new (Err Cell) → ⊥
  three_before_two p = let z : ◌≡◌ {A = ℕ} 2 3 = listed_number Cell p in omega arith

  -- 2 for a table of one cell at width 7
  pub two_before_one : Listed (primes_refuses 7 (1 ∷ []) (length old)) list old new (Err TableLength) → ⊥
  two_before_one p = let z : ◌≡◌ {A = ℕ} 1 2 = listed_number TableLength p in omega arith

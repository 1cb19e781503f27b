-- `matrix::rows::Set::below` meets its contract. The invariant: the set has the rows below i. Assumes nothing.
use mathlib.Core.Path.{◌≡◌}
use Prim.Native.Nat.{ℕ}
use lib.Dec.{ltb}
use Rattle.matrix.specs.Sets.{member}
use Rattle.matrix.proofs.rows.Set.below.Given as goal

abbrev pub invariant-loop-i : goal.invariant-loop-i
invariant-loop-i l = (j : ℕ) → member l.set j ≡ ltb j l.i

-- `matrix::rows::Set::next_from` meets its contract. The invariant: no row from `from` on was passed. Assumes nothing.
use mathlib.Core.Path.{◌≡◌}
use mathlib.Core.Bool.{false}
use Prim.Native.Nat.{ℕ, ◌<◌, ◌≤◌}
use Rattle.numbers.specs.Ascending.{passed}
use Rattle.matrix.specs.Sets.{member}
use Rattle.matrix.proofs.rows.Set.next_from.Given as goal

abbrev pub invariant-loop-i : goal.invariant-loop-i
invariant-loop-i l = (j : ℕ) → l.from ≤ j → j < passed l.yielded → member l.self j ≡ false

-- `next` of `matrix::rows::Rows` meets its contract. The invariant: what is left is what was left at first. Assumes nothing.
use mathlib.Core.Path.{◌≡◌}
use Prim.Native.Nat.{ℕ}
use lib.ListN.{length}
use Rattle.matrix.specs.Walks.{rows_left}
use Rattle.matrix.proofs.rows.RowsIterator.next.Given as goal

abbrev pub invariant-loop-word : goal.invariant-loop-word
invariant-loop-word l = (l.self.end ≡ l.initial.self.end) × ((j : ℕ) → rows_left l.self j ≡ rows_left l.initial.self j)

abbrev pub decreases-loop-word : goal.decreases-loop-word
decreases-loop-word l = length l.self.rest.now

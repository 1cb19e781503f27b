-- `checking::lowest_wrong` meets its contract: at each turn no code before c is wrong. Assumes nothing.
use Prim.Native.Nat.{ℕ, ◌<◌}
use lib.Dec.{T}
use Rattle.cube.specs.Words.{Cover}
use Rattle.checking.specs.Check.{is_wrong}
use Rattle.checking.specs.Steps.{Matches}
use Rattle.checking.proofs.lowest_wrong.Given as goal

abbrev pub invariant-loop-c : goal.invariant-loop-c
invariant-loop-c l = (rs : Cover) → Matches l.table.width rs l.matched → (k : ℕ) → k < l.c → T (is_wrong l.table.cells.now rs k) → ⊥

-- `reduction::column_dominance::narrow` meets its contract. The invariant: nothing was added, and the companions of each column of the row that was passed are
-- cut down. Assumes nothing.
use Prim.Native.Nat.{ℕ, ◌<◌}
use Rattle.numbers.specs.Ascending.{passed}
use Rattle.matrix.specs.Sets.{In}
use Rattle.reduction.specs.Steps.{companions_of}
use Rattle.reduction.proofs.column_dominance.narrow.Given as goal

abbrev pub invariant-loop-c : goal.invariant-loop-c
invariant-loop-c l = ((d x : ℕ) → In (companions_of l.along d) x → In (companions_of l.initial.along d) x)
    × ((d : ℕ) → d < passed l.yielded → In l.fn.undecided d → In l.row d → (x : ℕ) → In (companions_of l.along d) x → In l.row x)

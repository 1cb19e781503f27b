-- `reduction::column_dominance::drop_columns` meets its contract. The invariant: the columns kept are undecided ones, and dropping the others is a
-- reduction, whatever the weights. Assumes nothing.
use Rattle.std.proofs.Common.{List, ℕ}
use Rattle.matrix.specs.Sets.{In}
use Rattle.reduction.specs.Reduction.{Keeps}
use Rattle.reduction.proofs.column_dominance.drop_columns.Given as goal

abbrev pub invariant-loop-d : goal.invariant-loop-d
invariant-loop-d l =
    ((x : ℕ) → In l.kept x → In l.fn.undecided x)
    × ((weights : List ℕ) → Keeps l.words weights l.live l.fn.undecided l.live l.kept)

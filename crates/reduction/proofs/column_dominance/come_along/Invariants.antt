-- `reduction::column_dominance::come_along` meets its contract. The invariant: it holds of the live rows that were passed. Assumes nothing.
use Rattle.numbers.specs.Ascending.{passed}
use Rattle.reduction.specs.Steps.{Along}
use Rattle.reduction.proofs.column_dominance.come_along.Given as goal

abbrev pub invariant-loop-i : goal.invariant-loop-i
invariant-loop-i l = Along l.words l.live l.undecided (passed l.yielded) l.along

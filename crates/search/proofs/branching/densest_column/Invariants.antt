-- `search::branching::densest_column` meets its contract. The invariant: the best so far is an undecided column. Assumes nothing.
use Rattle.search.specs.Steps.{ColumnOf}
use Rattle.search.proofs.branching.densest_column.Given as goal

abbrev pub invariant-loop-c : goal.invariant-loop-c
invariant-loop-c l = ColumnOf l.problem.undecided l.best

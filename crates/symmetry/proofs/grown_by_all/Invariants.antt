-- `symmetry::grown_by_all` meets its contract. The invariant: the exchanges so far made the rows grow. Assumes nothing.
use Rattle.symmetry.specs.Steps.{Grown}
use Rattle.symmetry.proofs.grown_by_all.Given as goal

abbrev pub invariant-loop-a : goal.invariant-loop-a
invariant-loop-a l = Grown l.indexed.problem.matrix.words.now l.indexed.problem.matrix.weights.now l.indexed.problem.live.now l.indexed.problem.undecided l.found l.more

abbrev pub invariant-loop-b : goal.invariant-loop-b
invariant-loop-b l = Grown l.indexed.problem.matrix.words.now l.indexed.problem.matrix.weights.now l.indexed.problem.live.now l.indexed.problem.undecided l.found l.more

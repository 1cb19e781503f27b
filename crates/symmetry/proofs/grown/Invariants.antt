-- `symmetry::grown` meets its contract. The invariant: the live rows passed have images, and those whose images were found are added. Assumes nothing.
use Rattle.numbers.specs.Ascending.{passed}
use Rattle.symmetry.proofs.Growing.{Passed}
use Rattle.symmetry.proofs.grown.Given as goal

abbrev pub invariant-loop-i : goal.invariant-loop-i
invariant-loop-i l =
    Passed l.indexed.problem.matrix.words.now l.indexed.problem.matrix.weights.now l.indexed.problem.live.now l.indexed.problem.undecided l.exchange l.found l.more (passed l.yielded)

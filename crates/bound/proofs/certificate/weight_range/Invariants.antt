-- `bound::certificate::weight_range` meets its contract. The invariant: the weights of the live rows that were passed lie in the range. Assumes nothing.
use Rattle.numbers.specs.Ascending.{passed}
use Rattle.bound.specs.Steps.{Ranges}
use Rattle.bound.proofs.certificate.weight_range.Given as goal

abbrev pub invariant-loop-i : goal.invariant-loop-i
invariant-loop-i l = Ranges l.problem.matrix.weights.now l.problem.live.now (passed l.yielded) l.least l.most

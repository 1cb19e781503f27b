-- `bound::certificate::DualSolution::kept` meets its contract. The invariant: the rows that were left out so far are in no cover below the limit. Assumes nothing.
use Rattle.bound.specs.Bound.{Kept}
use Rattle.bound.proofs.certificate.DualSolution.kept.Given as goal

abbrev pub invariant-loop-i : goal.invariant-loop-i
invariant-loop-i l = Kept l.self.offer.problem.matrix.words.now l.self.offer.problem.matrix.weights.now l.self.offer.problem.live.now l.self.offer.problem.undecided l.self.limit l.kept

-- `reduction::forced::take_forced` meets its contract. The invariant: the state was reached by taking rows. A column of the set has one row, of which there
-- are no more than at the start. Assumes nothing.
use Rattle.reduction.specs.Steps.{Onward}
use Rattle.reduction.proofs.forced.take_forced.Given as goal

abbrev pub invariant-loop-c : goal.invariant-loop-c
invariant-loop-c l = Onward l.matrix.words.now l.matrix.weights.now l.fn.state l.state

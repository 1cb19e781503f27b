-- `reduction::cyclic_core` meets its contract. The invariant: the state was reached from the start, and `size` is the number of its live rows, which falls in each
-- round but the last. Assumes nothing.
use mathlib.Core.Path.{◌≡◌}
use Rattle.covering.specs.Weighted.{set_size}
use Rattle.matrix.specs.Sets.{member}
use Rattle.reduction.specs.Reduction.{Reduces}
use Rattle.reduction.proofs.cyclic_core.Given as goal

abbrev pub invariant-loop-size : goal.invariant-loop-size
invariant-loop-size l = Reduces l.problem.matrix.words.now l.problem.matrix.weights.now l.problem.live.now l.problem.undecided l.state × (l.size ≡ set_size l.end (member l.state.live))

abbrev pub decreases-loop-size : goal.decreases-loop-size
decreases-loop-size l = l.size

-- `symmetry::orbit` meets its contract. The invariant: the rows found are of one orbit. There are more of them after each round but the last. Assumes nothing.
use Rattle.std.proofs.Common.{◌-◌}
use Rattle.covering.specs.Weighted.{set_size}
use Rattle.matrix.specs.Sets.{member}
use Rattle.symmetry.specs.Symmetry.{Orbit}
use Rattle.symmetry.proofs.orbit.Given as goal

abbrev pub invariant-loop-more : goal.invariant-loop-more
invariant-loop-more l = Orbit l.indexed.problem.matrix.words.now l.indexed.problem.matrix.weights.now l.indexed.problem.live.now l.indexed.problem.undecided l.r l.found

abbrev pub decreases-loop-more : goal.decreases-loop-more
decreases-loop-more l = l.end - set_size l.end (member l.found)

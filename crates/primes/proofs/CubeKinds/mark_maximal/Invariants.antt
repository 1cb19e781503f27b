-- `primes::CubeKinds::mark_maximal` meets its contract: the marks before q are right, and those from q on are as they were. Assumes nothing.
use Rattle.primes.specs.Steps.{MarksBelow, serving_prime_by}
use Rattle.primes.proofs.CubeKinds.mark_maximal.Given as goal

abbrev pub invariant-loop-q : goal.invariant-loop-q
invariant-loop-q g l = MarksBelow g.T.Mark.mark_of l.q (serving_prime_by l.self.width l.self.kinds.now) l.initial.mark-items l.mark-items

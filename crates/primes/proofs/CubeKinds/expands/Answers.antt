-- `primes::CubeKinds::expands` meets its contract: the cube with the digit made 2 is the one that is asked for. Assumes nothing.
use native.Mathlib.Omega.{arith}
use Rattle.std.proofs.lemmas.Grind.{common_steps}
use Rattle.primes.proofs.Marking.{freed_put}
use Rattle.primes.proofs.CubeKinds.expands.Goals as goal

pub returns-then-digit-ne2 : goal.returns-then-digit-ne2
returns-then-digit-ne2 c = let wider = freed_put _ _ _ c.with_digit.ensures.number in rw (← wider) (grind (arith, common_steps))

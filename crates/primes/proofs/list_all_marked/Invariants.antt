-- `primes::list_all_marked` meets its contract: the marked numbers before q are listed. Assumes nothing.
use Rattle.std.proofs.Common.{false}
use Rattle.numbers.proofs.Lent.{Collected}
use Rattle.primes.specs.Steps.{is_marked}
use Rattle.primes.proofs.list_all_marked.Given as goal

abbrev pub invariant-loop-q : goal.invariant-loop-q
invariant-loop-q g l = Collected (λ i. i) (is_marked g.T.Mark.is_mark (g.T.Mark.mark_of false) l.marks) l.initial.out l.out l.q l.count

-- `next` of `matrix::words::Bits` meets its contract: the first bit is gone. Assumes nothing.
use Rattle.numbers.proofs.Loops.{progress}
use Rattle.matrix.proofs.Sets.{bit_taken}
use Rattle.matrix.proofs.words.BitsIterator.next.Goals as goal

pub returns-clause-goes : goal.returns-clause-goes
returns-clause-goes c = progress (λ s. tt) (bit_taken c.in_ok-b.ensures.first c.without_first-self.ensures)

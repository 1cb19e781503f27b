-- `matrix::words::Word::is_subset` meets its contract: where v & w is v, the flags of w stand wherever those of v do, and else w lacks one of them. Assumes
-- nothing.
use Rattle.matrix.proofs.Bits.{inclusion}
use Rattle.matrix.proofs.words.Word.is_subset.Goals as goal

pub returns : goal.returns
returns c = inclusion c.self.view_is c.other.view_is c.self.invariant

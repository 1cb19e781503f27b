-- `matrix::words::Word::is_empty` meets its contract: 0 has no bit, and any other word has its lowest. Assumes nothing.
use Rattle.matrix.proofs.Bits.{emptiness}
use Rattle.matrix.proofs.words.Word.is_empty.Goals as goal

pub returns : goal.returns
returns c = emptiness c.self.view_is c.self.invariant

-- `matrix::words::Word::without_first` meets its contract: w & (w - 1) has the bits above the lowest. Assumes nothing.
use Rattle.matrix.proofs.Bits.{without_first}
use Rattle.matrix.proofs.words.Word.without_first.Goals as goal

pub returns : goal.returns
returns c b n = without_first _ _ b c.self.view_is c.self.invariant n

-- `matrix::words::Word::first` meets its contract: the trailing zeros of a word are the bits below the first. Assumes nothing.
use Rattle.matrix.proofs.Bits.{first_where_none, first_where_some}
use Rattle.matrix.proofs.words.Word.first.Goals as goal

pub returns-then-self-eq0-clause-first : goal.returns-then-self-eq0-clause-first
returns-then-self-eq0-clause-first c = first_where_none _ _ c.self.view_is c.if-self-eq0.true

pub returns-clause-first : goal.returns-clause-first
returns-clause-first c = first_where_some _ _ c.self.view_is c.self.invariant c.if-self-eq0.false

-- `matrix::words::Word::next_from` meets its contract. What is shifted down has the bits from `from` on, and its trailing zeros are the bits that are
-- passed. Assumes nothing.
use Rattle.matrix.proofs.Bits.{next_where_none, next_where_some}
use Rattle.matrix.proofs.words.Word.next_from.Goals as goal

pub returns-then-rest-eq0 : goal.returns-then-rest-eq0
returns-then-rest-eq0 c = next_where_none _ _ c.args.from c.self.view_is c.requires c.if-rest-eq0.true

pub returns : goal.returns
returns c = next_where_some _ _ c.args.from c.self.view_is c.self.invariant c.if-rest-eq0.false

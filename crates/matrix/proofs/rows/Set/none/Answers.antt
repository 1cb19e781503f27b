-- `matrix::rows::Set::none` meets its contract: words of 0 have no bit. Assumes nothing.
use Rattle.matrix.specs.Sets.{row_words}
use Rattle.matrix.proofs.Members.{member_none}
use Rattle.matrix.proofs.rows.Set.none.Goals as goal

pub returns : goal.returns
returns c = member_none row_words

-- `lists::Rows::all_formed` meets its contract: the iterator gives the rows of the list. Assumes nothing.
use Rattle.std.proofs.Common.{rules, tests, ◌∙◌}
use Rattle.std.proofs.lemmas.Iterator.Consumers.{YieldsList-from_first}
use Rattle.std.proofs.lemmas.Iterator.Search.{all_from_yields_List}
use Rattle.cube.specs.Words.{formed}
use Rattle.lists.specs.Walks.{rows_left}
use Rattle.lists.proofs.Walks.{each_is}
use Rattle.lists.proofs.Rows.all_formed.Goals as goal

pub returns : goal.returns
returns c =
    all_from_yields_List (formed c.args.n) c.all.new.self _ _ c.all.ensures.ran
    (YieldsList-from_first (λ r. r) rows_left _ c.into_iter.ensures.into_iter_gives) (λ x b q k. search (rules, tests))
    ∙ each_is _ _

-- `tables::bad_cell` meets its contract: a cell above 2 is one at some place. Assumes nothing.
use Rattle.std.proofs.Common.{◌∙◌, refl, rules, tests}
use Rattle.std.proofs.lemmas.Iterator.{YieldsList-from_slice}
use Rattle.std.proofs.lemmas.Iterator.Search.{any_from_yields_List}
use Rattle.std.specs.Prelude.{nat_lt}
use Rattle.numbers.proofs.Below.{any_is_some}
use Rattle.cube.specs.Calls.{bad_cell}
use Rattle.tables.proofs.bad_cell.Goals as goal

pub returns : goal.returns
unfolding bad_cell
returns c =
    any_from_yields_List (nat_lt 2) _ _ _ c.any.ensures.ran (YieldsList-from_slice c.args.cells.now cc) (λ x b q k. search (rules, tests))
    ∙ any_is_some (nat_lt 2) _ 0 c.args.cells.now refl (λ i l. refl)

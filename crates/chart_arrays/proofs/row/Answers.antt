-- `chart_arrays::row` meets its contract: the columns and the literals of the cube. Assumes nothing.
use Rattle.std.proofs.Common.{ap, ap₂, ◌∙◌}
use Rattle.cube.specs.Words.{care_of}
use Rattle.chart_arrays.specs.Columns.{columns_of}
use Rattle.chart_arrays.proofs.Literals.{literals}
use Rattle.chart_arrays.proofs.row.Goals as goal

pub returns : goal.returns
returns c =
    let n = c.args.table.width in
    ap₂ (λ x y. record { cube = c.args.q; word = x; literals = y }) (c.cube_columns.ensures ∙ ap (columns_of n c.args.table.cells.now) c.from-number.ensures)
    (literals n c.args.q _ c.requires (ap (λ r. r.care) c.row-care.ensures ∙ ap (care_of n) c.from-number.ensures))

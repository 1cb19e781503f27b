-- `chart_arrays::wanted` meets its contract: a row that tests nothing matches every code. Assumes nothing.
use Rattle.std.proofs.Common.{ℕ, ap, ◌∙◌, arith}
use Rattle.numbers.specs.Below.{word_of}
use Rattle.cube.proofs.Calls.{codes_most}
use Rattle.chart_arrays.specs.Steps.{row_column}
use Rattle.chart_arrays.proofs.Columns.{wanted_columns}
use Rattle.chart_arrays.proofs.wanted.Goals as goal

pub row_columns-requires : goal.row_columns-requires
row_columns-requires c = omega (arith, c.args.table.sized, codes_most _ c.args.table.narrow)

pub returns : goal.returns
returns c =
    let t = c.args.table.cells.now in
    c.row_columns.ensures ∙ ap (λ (m : ℕ). word_of m (row_column t (record { value = 0; care = 0 }))) c.args.table.sized ∙ wanted_columns t _

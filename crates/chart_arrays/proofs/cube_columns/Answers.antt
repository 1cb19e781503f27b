-- `chart_arrays::cube_columns` meets its contract: the row that spells a cube matches what the cube matches. Assumes nothing.
use Rattle.std.proofs.Common.{ℕ, ◌^◌, Bool, ◌&&◌, length, ap, ap₂, ◌∙◌, arith}
use Rattle.numbers.specs.Below.{word_of}
use Rattle.numbers.proofs.Bits.{word_same}
use Rattle.cube.specs.Words.{Row, on_set, row_of, column}
use Rattle.cube.proofs.Calls.{codes_most}
use Rattle.cube.proofs.Rows.{row_of_matches}
use Rattle.chart_arrays.specs.Steps.{row_column}
use Rattle.chart_arrays.proofs.cube_columns.Goals as goal

pub row_columns-requires : goal.row_columns-requires
row_columns-requires c = omega (arith, c.args.table.sized, codes_most _ c.args.table.narrow)

pub returns : goal.returns
returns c =
    let n = c.args.table.width in
    let t = c.args.table.cells.now in
    let q = c.args.q in
    c.row_columns.ensures
    ∙ ap₂ (λ (v w : ℕ). word_of (length t) (row_column t (record { value = v; care = w }))) (c.from.ensures ∙ ap (λ (r : Row). r.value) c.row-row.ensures)
    (c.from-2.ensures ∙ ap (λ (r : Row). r.care) c.row-row.ensures)
    ∙ ap (λ (m : ℕ). word_of m (row_column t (row_of n q))) c.args.table.sized
    ∙ word_same (2 ^ n) (row_column t (row_of n q)) (column n t q) (λ k l. ap (λ (b : Bool). on_set t k && b) (row_of_matches n q k c.requires))

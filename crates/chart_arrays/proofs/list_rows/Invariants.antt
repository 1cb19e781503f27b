-- `chart_arrays::list_rows` meets its contract: a row for each cube so far. Assumes nothing.
use Rattle.std.proofs.Common.{◌≡◌, map, take}
use Rattle.chart_arrays.specs.Rows.{chart_row}
use Rattle.chart_arrays.proofs.list_rows.Given as goal

abbrev pub invariant-loop-q : goal.invariant-loop-q
invariant-loop-q l = l.rows.items ≡ map (chart_row l.table.width l.table.cells.now) (take l.q-index l.q-items)

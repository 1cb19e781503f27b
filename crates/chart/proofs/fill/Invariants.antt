-- `chart::fill` meets its contract: the rows before place i are written, and what follows is as it was. Assumes nothing.
use Rattle.std.proofs.Common.{◌≡◌, ◌++◌, map, take, drop}
use Rattle.chart_arrays.specs.Rows.{chart_row}
use Rattle.chart.proofs.fill.Given as goal

abbrev pub invariant-loop-i : goal.invariant-loop-i
invariant-loop-i l = l.rows ≡ map (chart_row l.table.width l.table.cells.now) (take l.i l.cubes) ++ drop l.i l.initial.rows

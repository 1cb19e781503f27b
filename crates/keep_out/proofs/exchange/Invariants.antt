-- `keep_out::exchange` meets its contract: the cells so far are exchanged. Assumes nothing.
use Rattle.std.proofs.Common.{◌≡◌, map, take}
use Rattle.keep_out.specs.Theorems.{exchanged_cell}
use Rattle.keep_out.proofs.exchange.Given as goal

abbrev pub invariant-loop-cell : goal.invariant-loop-cell
invariant-loop-cell l = l.cells.items ≡ map exchanged_cell (take l.cell-index l.table)

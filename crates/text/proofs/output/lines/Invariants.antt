-- `text::output::lines` meets its contract: at each turn the lines of the rows that are left are left to write. Assumes nothing.
use Rattle.std.proofs.Common.{◌≡◌, ◌++◌}
use Rattle.cube.specs.Words.{rows_of}
use Rattle.lists.specs.Walks.{rows_left}
use Rattle.text.specs.Output.{list_lines}
use Rattle.text.proofs.output.lines.Given as goal

abbrev pub invariant-loop-row : goal.invariant-loop-row
invariant-loop-row g l =
    l.out.bytes ++ list_lines l.n (rows_left l.row-iterator) ≡ l.initial.out.bytes ++ list_lines l.n (rows_of l.rows.values.now l.rows.cares.now)

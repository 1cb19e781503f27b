-- `chart_arrays::row_columns` meets its contract: the word of the codes so far. Assumes nothing.
use Rattle.std.proofs.Common.{◌≡◌}
use Rattle.numbers.specs.Below.{word_of}
use Rattle.chart_arrays.specs.Steps.{row_column}
use Rattle.chart_arrays.proofs.row_columns.Given as goal

abbrev pub invariant-loop-code : goal.invariant-loop-code
invariant-loop-code l = l.word ≡ word_of l.code (row_column l.table (record { value = l.value; care = l.care }))

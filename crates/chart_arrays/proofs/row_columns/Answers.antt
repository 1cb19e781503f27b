-- `chart_arrays::row_columns` meets its contract: no column before the first code, and the columns before a code are below it. Assumes nothing.
use Rattle.std.proofs.Common.{refl, arith}
use Rattle.numbers.specs.Below.{word_of}
use Rattle.numbers.proofs.Bits.{word_lt}
use Rattle.chart_arrays.proofs.row_columns.Goals as goal

pub loop-code-init : goal.loop-code-init
unfolding word_of
loop-code-init c = refl

pub with_next-word-requires : goal.with_next-word-requires
with_next-word-requires c = (omega (arith, c.requires), rw c.loop-code.invariant (word_lt c.loop-code.code _))

-- `gathering::row_codes` meets its contract: at each turn the set holds the codes that are the value but for untested bits below `bit`. Assumes nothing.
use Rattle.gathering.proofs.RowCodes.{Agreeing}
use Rattle.gathering.proofs.row_codes.Given as goal

abbrev pub invariant-loop-bit : goal.invariant-loop-bit
invariant-loop-bit l = Agreeing l.row.value l.row.care l.matched l.bit

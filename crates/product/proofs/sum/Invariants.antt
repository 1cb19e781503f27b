-- `product::sum` meets its contract: at each turn the literals of the variables from xk on are left to write. Assumes nothing.
use Rattle.std.proofs.Common.{◌++◌}
use Rattle.product.specs.Product.{sum_text, row_sum}
use Rattle.product.proofs.Writing.{Left}
use Rattle.product.proofs.sum.Given as goal

abbrev pub invariant-loop-k : goal.invariant-loop-k
invariant-loop-k g l = Left l.n l.row (l.initial.out.bytes ++ sum_text (row_sum l.n l.row)) l.k l.before l.out.bytes

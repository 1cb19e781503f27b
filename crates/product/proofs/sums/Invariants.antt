-- `product::sums` meets its contract: no row prints `1`; else at each turn the sums of the rows that are left are left to write. Assumes nothing.
use Rattle.std.proofs.Common.{◌≡◌, ◌++◌}
use Rattle.cube.specs.Words.{rows_of}
use Rattle.lists.specs.Walks.{rows_left}
use Rattle.product.specs.Product.{sums_text, product_of, excluding_text}
use Rattle.product.proofs.sums.Given as goal

abbrev pub invariant-loop-row : goal.invariant-loop-row
invariant-loop-row g l =
    l.out.bytes ++ sums_text (product_of l.n (rows_left l.row-iterator))
    ≡ l.initial.out.bytes ++ excluding_text l.n (rows_of l.rows.values.now l.rows.cares.now)

-- `product::sums` meets its contract: no row prints `1`; else at each turn the sums of the rows that are left are left to write. Assumes nothing.
use Rattle.std.proofs.Common.{rules, ℕ, ◌+◌, ◌≤◌, List, ◌++◌, length, sym, ap, ◌∙◌, arith, length-append}
use Rattle.cube.specs.Words.{Cover, rows_of}
use Rattle.text.proofs.Rows.{next_room}
use Rattle.product.specs.Product.{sum_text, sums_text, row_sum, product_of, excluding_text}
use Rattle.product.proofs.sums.Goals as goal

pub sum-requires : goal.sum-requires
unfolding sums_text
sum-requires g c =
    let n = c.args.n in
    let out : List ℕ = c.loop-row.out.bytes in
    let old : List ℕ = c.args.out.now.bytes in
    let all : List ℕ = excluding_text n (rows_of c.args.rows.values.now c.args.rows.cares.now) in
    let room : length out + length (sum_text (row_sum n c.in-Some.row)) ≤ length (old ++ all) =
    next_room _ _ _ (ap (λ (rs : Cover). out ++ sums_text (product_of n rs)) (sym c.in-Some.ensures.steps) ∙ c.loop-row.invariant) in
    (search rules, omega (arith, room, length-append old all, c.requires))

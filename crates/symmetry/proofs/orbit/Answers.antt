-- `symmetry::orbit` ends: there are more rows after each round but the last. Assumes nothing.
use Rattle.std.proofs.Common.{arith}
use Rattle.matrix.proofs.Without.{size_fewer, size_most}
use Rattle.symmetry.proofs.orbit.Goals as goal

pub loop-more-smaller : goal.loop-more-smaller
loop-more-smaller c =
    let end = c.rows-end.result in
    omega (
      arith,
      c.len.ensures,
      c.len-in-loop-more.ensures,
      c.if-len.false,
      size_fewer end _ _ c.grown_by_all-more.ensures.kept,
      size_most end c.grown_by_all-more.result,
    )

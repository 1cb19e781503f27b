-- `reduction::row_dominance::drop_rows` meets its contract. The invariant: what was dropped so far is a reduction. Assumes nothing.
use Rattle.reduction.specs.Reduction.{Keeps}
use Rattle.reduction.proofs.row_dominance.drop_rows.Given as goal

abbrev pub invariant-loop-i : goal.invariant-loop-i
invariant-loop-i l =
    let p = l.problem in
    Keeps p.matrix.words.now p.matrix.weights.now p.live.now p.undecided l.live p.undecided

-- `reduction::pass` meets its contract: columns and rows dropped, and then rows taken. Assumes nothing.
use Rattle.std.proofs.Common.{refl, sym}
use Rattle.reduction.specs.Reduction.{Keeps}
use Rattle.reduction.proofs.Steps.{onward_kept}
use Rattle.reduction.proofs.pass.Goals as goal

pub returns : goal.returns
returns c =
    let left = c.left.ensures in
    let state = c.args.state.now in
    let kept : Keeps c.args.matrix.words.now c.args.matrix.weights.now state.live state.undecided state.live c.drop_columns-state.result =
    c.drop_columns-state.ensures c.args.matrix.weights.now in
    let fewer : Keeps c.args.matrix.words.now c.args.matrix.weights.now state.live c.drop_columns-state.result c.drop_rows-state.result c.drop_columns-state.result =
    rw (sym left.words, sym left.weights, sym left.live, sym left.undecided) c.drop_rows-state.ensures in
    onward_kept _ _ _ _ _ kept fewer refl refl c.take_forced.ensures

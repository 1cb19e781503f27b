-- `reduction::row_dominance::drop_rows` meets its contract. The invariant: what was dropped so far is a reduction. Assumes nothing.
use Rattle.reduction.proofs.Steps.{keeps_then, drop_droppable}
use Rattle.reduction.proofs.row_dominance.drop_rows.Goals as goal

pub loop-i-preserved-then-is_droppable : goal.loop-i-preserved-then-is_droppable
loop-i-preserved-then-is_droppable c =
    keeps_then _ _ _ _ _ _ _ _ c.loop-i.invariant (drop_droppable _ _ _ _ _ _ c.remove.ensures (c.is_droppable.ensures c.if-is_droppable.true))

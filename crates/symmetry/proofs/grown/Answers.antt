-- `symmetry::grown` meets its contract: what an item and the end of the loop tell. Assumes nothing.
use Rattle.std.proofs.Common.{sym, ◌∙◌}
use Rattle.matrix.proofs.Loops.{rows_turn, rows_end_has}
use Rattle.symmetry.proofs.Growing.{passed_found, grown_all}
use Rattle.symmetry.proofs.grown.Goals as goal

pub loop-i-preserved-then-contains : goal.loop-i-preserved-then-contains
loop-i-preserved-then-contains c =
    let turn = rows_turn _ _ _ _ _ _ _ _ c.into_iter-i-iterator.ensures.into_iter_gives c.rows-i-items.ensures.end c.rows-i-items.ensures.set
    c.loop-i.yielded_by c.next.ensures.steps c.in-Some.i c.in-Some.is in
    passed_found _ _ _ _ _ c.in-Some-image.ensures.image turn c.loop-i.invariant (sym c.contains.ensures ∙ c.if-contains.true) c.insert.ensures

pub returns : goal.returns
returns c =
    let ended = rows_end_has _ _ _ _ _ _ _ _ c.into_iter-i-iterator.ensures.into_iter_gives c.rows-i-items.ensures.end c.rows-i-items.ensures.set
    c.loop-i.yielded_by c.next.ensures.steps c.in-None.is in
    grown_all _ _ _ _ _ (λ x h. sym (c.of_set.ensures x) ∙ c.is_subset.ensures.all c.if-not-is_subset.false x h)
    ended.all c.loop-i.invariant

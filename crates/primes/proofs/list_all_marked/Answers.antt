-- `primes::list_all_marked` meets its contract: the marked numbers before q are listed. Assumes nothing.
use Rattle.std.proofs.Common.{false, sym, ap, ◌∙◌, arith}
use Rattle.std.proofs.lemmas.List.{get_or_read}
use Rattle.numbers.proofs.Lent.{collect_none, collect_yes, collect_no, collect_le}
use Rattle.primes.proofs.list_all_marked.Goals as goal
use Rattle.primes.proofs.list_all_marked.Goals.{then-is_mark, else-is_mark}

pub loop-q-init : goal.loop-q-init
loop-q-init g c = collect_none _ _ _

pub offset_bounds-out-count : goal.offset_bounds-out-count
offset_bounds-out-count g c = omega (arith, collect_le _ _ _ _ _ _ c.loop-q.invariant)

pub bounds-out-count : goal.bounds-out-count
bounds-out-count g c = omega (arith, collect_le _ _ _ _ _ _ c.loop-q.invariant)

pub overflow_add-count : goal.overflow_add-count
overflow_add-count g c = omega (arith, collect_le _ _ _ _ _ _ c.loop-q.invariant)

pub loop-q-preserved : goal.loop-q-preserved
loop-q-preserved g c =
    let same = get_or_read c.args.marks.now c.loop-q.q c.index-marks-q.result c.loop-q-test.true c.index-marks-q.is (g.T.Mark.mark_of false) in
    let tells = ap g.T.Mark.is_mark (sym same) ∙ sym c.is_mark.ensures in
    elim c.if-is_mark.branch [
      | then-is_mark w ↦ collect_yes _ _ _ _ _ _ c.loop-q.invariant (tells ∙ w.if-is_mark.true) w.out-is w.count-is
      | else-is_mark w ↦ collect_no _ _ _ _ _ _ c.loop-q.invariant (tells ∙ w.if-is_mark.false) w.out-is w.count-is
    ]

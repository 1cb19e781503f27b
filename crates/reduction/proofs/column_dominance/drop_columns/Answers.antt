-- `reduction::column_dominance::drop_columns` meets its contract. The invariant: the columns kept are undecided ones, and dropping the others is a
-- reduction, whatever the weights. Assumes nothing.
use Rattle.std.proofs.Common.{◌<◌, sym, ◌∙◌, arith}
use Rattle.matrix.specs.Sets.{column_limit, has, In}
use Rattle.numbers.proofs.Flags.{kept_of_lem}
use Rattle.reduction.proofs.Narrowing.{drop_along}
use Rattle.reduction.proofs.Steps.{keeps_then}
use Rattle.reduction.proofs.column_dominance.drop_columns.Goals as goal

pub loop-d-preserved-then-contains : goal.loop-d-preserved-then-contains
loop-d-preserved-then-contains c =
    let is : In c.loop-d.kept c.in-Some.d = sym c.contains.ensures ∙ c.if-contains.true in
    let below : c.in-Some.d < column_limit = c.into_iter-d-iterator.ensures.into_iter_gives.1 c.in-Some.d (c.loop-d.invariant.0 c.in-Some.d is) in (
      λ x h. c.loop-d.invariant.0 x (kept_of_lem (has c.loop-d.kept x) (has c.sub.result x) (c.sub_assign.ensures.after x) h).0,
      λ weights. keeps_then c.args.words.now weights _ _ _ _ _ _ (c.loop-d.invariant.1 weights)
          (drop_along _ _ _ c.come_along-along.result _ _ _ _ _ _ _ (omega arith) c.come_along-along.ensures c.loop-d.invariant.0 is c.only.ensures c.sub.ensures
          c.sub_assign.ensures.after),
    )

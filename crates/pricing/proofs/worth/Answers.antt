-- `pricing::worth` meets its contract. The invariant: the total is what the columns of the set that were passed are worth. Assumes nothing.
use Rattle.std.proofs.Common.{arith}
use Rattle.matrix.specs.Sets.{has}
use Rattle.matrix.proofs.Loops.{columns_turn, columns_end_has, sum_turn, sum_all}
use Rattle.pricing.specs.Prices.{price_of}
use Rattle.pricing.proofs.worth.Goals as goal

pub loop-c-preserved : goal.loop-c-preserved
loop-c-preserved c =
    let t = columns_turn c.args.set _ _ _ _ _ c.into_iter-c-iterator.ensures.into_iter_gives.0 c.loop-c.yielded_by c.next.ensures.steps c.in-Some.c c.in-Some.is in
    let s = sum_turn (has c.args.set) (price_of c.args.prices.now) _ _ _ t in
    grind arith

pub returns : goal.returns
returns c =
    let t = columns_end_has c.args.set _ _ _ _ _ c.into_iter-c-iterator.ensures.into_iter_gives.0 c.loop-c.yielded_by c.next.ensures.steps c.in-None.is in
    let s = sum_all (has c.args.set) (price_of c.args.prices.now) _ _ t in
    grind arith

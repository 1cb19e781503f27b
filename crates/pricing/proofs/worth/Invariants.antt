-- `pricing::worth` meets its contract. The invariant: the total is what the columns of the set that were passed are worth. Assumes nothing.
use Rattle.std.proofs.Common.{◌≡◌, ◌*◌, ◌≤◌}
use Rattle.numbers.specs.Ascending.{passed}
use Rattle.covering.specs.Sum.{if_set, sum}
use Rattle.matrix.specs.Sets.{has}
use Rattle.matrix.specs.Matrix.{weight_limit}
use Rattle.pricing.specs.Prices.{price_of}
use Rattle.pricing.proofs.worth.Given as goal

abbrev pub invariant-loop-c : goal.invariant-loop-c
invariant-loop-c l = record {
  small : l.total ≤ passed l.yielded * weight_limit;
  is : l.total ≡ sum (passed l.yielded) (λ x. if_set (has l.fn.set x) (price_of l.prices x));
}

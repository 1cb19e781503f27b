-- `plan::lightest` meets its contract: the words and the weights of the rows so far. Assumes nothing.
use Rattle.std.proofs.Common.{◌≡◌, take}
use Rattle.plan.specs.Steps.{words_of, weights_of}
use Rattle.plan.proofs.lightest.Given as goal

abbrev pub invariant-loop-row : goal.invariant-loop-row
invariant-loop-row l = record {
  words : l.words.items ≡ words_of (take l.row-index l.rows);
  weights : l.weights.items ≡ weights_of (take l.row-index l.rows);
}

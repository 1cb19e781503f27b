-- `essentials::prime_words` meets its contract: the words of the cubes so far. Assumes nothing.
use Rattle.std.proofs.Common.{◌≡◌}
use Rattle.numbers.specs.Below.{tabulate}
use Rattle.essentials.specs.Steps.{prime_word}
use Rattle.essentials.proofs.prime_words.Given as goal

abbrev pub invariant-loop-q : goal.invariant-loop-q
invariant-loop-q l = l.words.items ≡ tabulate l.q 0 (prime_word l.table.width l.table.cells.now)

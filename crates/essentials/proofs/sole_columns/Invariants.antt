-- `essentials::sole_columns` meets its contract: what the words so far have, met once and met twice. Assumes nothing.
use Rattle.essentials.specs.Steps.{Seen}
use Rattle.essentials.proofs.sole_columns.Given as goal

abbrev pub invariant-loop-word : goal.invariant-loop-word
invariant-loop-word l = Seen l.words l.word-index l.seen.once l.seen.twice

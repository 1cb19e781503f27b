-- `essentials::sole_columns` meets its contract: what the words so far have, met once and met twice. Assumes nothing.
use Rattle.std.proofs.Common.{sym}
use Rattle.std.proofs.lemmas.List.{get_or_read}
use Rattle.essentials.proofs.SoleEntries.{seen_none, seen_more}
use Rattle.essentials.proofs.sole_columns.Goals as goal

pub loop-word-init : goal.loop-word-init
loop-word-init c = seen_none _ _ _ c.new-seen.ensures.once c.new-seen.ensures.twice

pub loop-word-preserved : goal.loop-word-preserved
loop-word-preserved c =
    seen_more c.args.words.now _ _ c.loop-word.seen.once c.loop-word.seen.twice _ _
    (sym (get_or_read c.args.words.now c.loop-word.word-index _ c.loop-word-test.true c.word-item.is 0)) c.loop-word.invariant c.add.ensures.once c.add.ensures.twice

-- `essentials::prime_words` meets its contract: a turn adds the word of one cube more. Assumes nothing.
use Rattle.std.proofs.Common.{rules, ap, length, arith}
use Rattle.numbers.specs.Below.{tabulate}
use Rattle.numbers.proofs.Below.{tabulate-length}
use Rattle.cube.proofs.Calls.{cubes_most}
use Rattle.essentials.specs.Steps.{prime_word}
use Rattle.essentials.proofs.Words.{word_more, by_mark}
use Rattle.essentials.proofs.prime_words.Goals as goal

pub loop-q-init : goal.loop-q-init
unfolding tabulate
loop-q-init c = c.requires.none

pub push-requires : goal.push-requires
push-requires c =
    let f = prime_word c.args.table.width c.args.table.cells.now in
    (search rules, omega (arith, ap length c.loop-q.invariant, tabulate-length f c.loop-q.q 0, c.requires.long, cubes_most _ c.args.table.narrow))

pub loop-q-preserved : goal.loop-q-preserved
loop-q-preserved c =
    let n = c.args.table.width in
    let t = c.args.table.cells.now in
    word_more (prime_word n t) c.loop-q.q _ c.loop-q.invariant
    (by_mark n t c.args.marks.now c.loop-q.q c.requires.marked (omega (arith, c.requires.long)) c.prime_word.ensures) c.push.ensures.items

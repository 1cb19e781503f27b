-- `incumbent::checked` meets its contract: what the end of the loop tells. Assumes nothing.
use Rattle.std.proofs.Common.{ℕ, ◌<◌, ⊎_elim, arith}
use Rattle.numbers.proofs.Flags.{clash}
use Rattle.matrix.proofs.Loops.{rows_end_has}
use Rattle.matrix.specs.Sets.{Member}
use Rattle.matrix.specs.Matrix.{row_count}
use Rattle.incumbent.proofs.Gathering.{all_covered, all_weighed, if_none}
use Rattle.incumbent.proofs.checked.Goals as goal

pub loop-i-init : goal.loop-i-init
loop-i-init c = record {
  counted = c.none-gathered.ensures.counted _ _;
  live = λ j h. clash h (c.none-gathered.ensures.rows j);
  picked = λ j h. clash h (c.none-gathered.ensures.rows j);
  before = λ j h. clash h (c.none-gathered.ensures.rows j);
  all = λ j l. absurd (omega arith);
}

pub returns-clause-none : goal.returns-clause-none
returns-clause-none c =
    let i = c.loop-i.invariant in
    let ended = rows_end_has _ _ _ _ _ _ _ _ c.into_iter-i-iterator.ensures.into_iter_gives c.iter-i-items.ensures.end c.iter-i-items.ensures.set
    c.loop-i.yielded_by c.next.ensures.steps c.in-None.is in
    let all : (j : ℕ) → j < row_count c.args.problem.now.matrix.words.now → Member c.args.picked.now j → Member c.args.problem.now.live.now j → Member c.loop-i.gathered.rows j =
    λ j l m. i.all j (ended.all j (omega (arith, c.rows.ensures.is)) m) m in
    if_none c.cover.result c.cover.ensures.none
    (λ h k x. ⊎_elim (λ heavy. omega (arith, all_weighed _ _ _ _ _ _ i.picked all i.counted x c.args.problem.now.matrix.sizes.same))
    (λ o. absurd (o.2 (all_covered _ _ _ _ _ _ i.picked all i.counted x o.0 o.1))) h)

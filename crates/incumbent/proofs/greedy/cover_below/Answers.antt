-- `incumbent::greedy::cover_below` meets its contract: what the rows miss has no live row. Assumes nothing.
use Rattle.std.proofs.Common.{◌<◌, ⊎_elim, arith}
use Rattle.incumbent.specs.Incumbent.{above_all}
use Rattle.incumbent.proofs.Gathering.{if_none, counted_below, spent_misses}
use Rattle.incumbent.proofs.greedy.cover_below.Goals as goal

pub returns-clause-none : goal.returns-clause-none
returns-clause-none c =
    let light : c.gather.result.weight < above_all = counted_below _ _ _ c.gather.ensures.counted in
    if_none c.cover.result c.cover.ensures.none (λ h l. ⊎_elim (λ heavy. absurd (omega arith)) (spent_misses _ _ _ _ c.gather.ensures.spent) h)

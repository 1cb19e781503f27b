-- The cycle of `choose` and `reduce`. Twice the number of live rows falls: by one from `reduce` to `choose`, and from there to `reduce` by one, since the
-- row that is chosen is live in neither branch. Assumes nothing.
use Rattle.std.proofs.Common.{◌+◌, ◌*◌}
use Rattle.covering.specs.Weighted.{set_size}
use Rattle.matrix.specs.Sets.{row_limit, member}
use Rattle.search.proofs.+choose_reduce.Given as goal

abbrev pub decreases-choose : goal.decreases-choose
decreases-choose l = 2 * set_size row_limit (member l.problem.now.live.now)

abbrev pub decreases-reduce : goal.decreases-reduce
decreases-reduce l = 2 * set_size row_limit (member l.problem.now.live.now) + 1

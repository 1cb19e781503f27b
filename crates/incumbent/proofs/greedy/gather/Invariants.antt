-- `incumbent::greedy::gather` meets its contract. The invariant: the rows taken are live ones. Each turn takes one more. Assumes nothing.
use Rattle.std.proofs.Common.{ℕ, ◌-◌}
use Rattle.covering.specs.Weighted.{set_size}
use Rattle.matrix.specs.Sets.{row_limit, member, Member}
use Rattle.incumbent.specs.Steps.{Counted}
use Rattle.incumbent.proofs.greedy.gather.Given as goal

abbrev pub invariant-loop-i : goal.invariant-loop-i
invariant-loop-i l = record {
  counted : Counted l.problem.matrix.words.now l.problem.matrix.weights.now l.taken;
  live : (i : ℕ) → Member l.taken.rows i → Member l.problem.live.now i;
}

abbrev pub decreases-loop-i : goal.decreases-loop-i
decreases-loop-i l = row_limit - set_size row_limit (member l.taken.rows)

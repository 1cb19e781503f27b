-- `incumbent::checked` meets its contract. The invariant: the rows gathered are those picked before the next item that are live. Assumes nothing.
use Rattle.std.proofs.Common.{ℕ, ◌<◌}
use Rattle.numbers.specs.Ascending.{passed}
use Rattle.matrix.specs.Sets.{Member}
use Rattle.incumbent.specs.Steps.{Counted}
use Rattle.incumbent.proofs.checked.Given as goal

abbrev pub invariant-loop-i : goal.invariant-loop-i
invariant-loop-i l = record {
  counted : Counted l.problem.matrix.words.now l.problem.matrix.weights.now l.gathered;
  live : (j : ℕ) → Member l.gathered.rows j → Member l.problem.live.now j;
  picked : (j : ℕ) → Member l.gathered.rows j → Member l.picked j;
  before : (j : ℕ) → Member l.gathered.rows j → j < passed l.yielded;
  all : (j : ℕ) → j < passed l.yielded → Member l.picked j → Member l.problem.live.now j → Member l.gathered.rows j;
}

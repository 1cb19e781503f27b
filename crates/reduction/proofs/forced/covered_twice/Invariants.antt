-- `reduction::forced::covered_twice` meets its contract. The invariant: of the live rows that were passed all columns are in `once`, and those that two of them
-- cover are in `twice`. Assumes nothing.
use Rattle.std.proofs.Common.{ℕ, ◌<◌}
use Rattle.numbers.specs.Ascending.{passed}
use Rattle.matrix.specs.Sets.{In, Member}
use Rattle.matrix.specs.Matrix.{CoversColumn}
use Rattle.reduction.proofs.forced.covered_twice.Given as goal

abbrev pub invariant-loop-i : goal.invariant-loop-i
invariant-loop-i l =
    ((i : ℕ) → i < passed l.yielded → Member l.problem.live.now i → (c : ℕ) → CoversColumn l.problem.matrix.words.now i c → In l.coverage.once c)
    × ((i j : ℕ) → i < passed l.yielded → j < i → Member l.problem.live.now i → Member l.problem.live.now j → (c : ℕ) → CoversColumn l.problem.matrix.words.now i c → CoversColumn l.problem.matrix.words.now j c → In l.coverage.twice c)

-- `matrix::rows::Set::best` meets its contract. The invariant: the best row so far is one that `can` accepts, and where there is none, it accepts no row
-- that was passed. Assumes nothing.
use mathlib.Core.Bool.{true, false}
use Prim.Native.Nat.{ℕ, ◌<◌}
use Rattle.std.specs.Prelude.{MatchOption}
use Rattle.numbers.specs.Ascending.{passed}
use Rattle.matrix.specs.Sets.{Member}
use Rattle.matrix.proofs.rows.Set.best.Given as goal

abbrev pub invariant-loop-i : goal.invariant-loop-i
invariant-loop-i g l =
    MatchOption l.best ((j : ℕ) → j < passed l.yielded → Member l.self j → goal.C-post g l.can j false)
    (λ i. (i < l.end) × Member l.self i × goal.C-post g l.can i true)

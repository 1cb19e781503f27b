-- `gathering::gather` meets its contract: at each turn every row before this one is formed, and the set holds the codes that one of them matches.
-- Assumes nothing.
use Rattle.cube.specs.Words.{rows_of}
use Rattle.lists.specs.Walks.{rows_left}
use Rattle.gathering.proofs.Sets.{Gathering}
use Rattle.gathering.proofs.gather.Given as goal

abbrev pub invariant-loop-row : goal.invariant-loop-row
invariant-loop-row l = Gathering l.n (rows_of l.rows.values.now l.rows.cares.now) (rows_left l.row-iterator) l.matched

-- `search::branch_point` meets its contract: no cover is below the limit where the bound reaches it, or where a column is left without a row.
-- Assumes nothing.
use Rattle.search.proofs.Branches.{branches}
use Rattle.search.proofs.branch_point.Goals as goal

pub returns : goal.returns
returns c =
    let bounds = c.tighten.ensures in
    record { kept = bounds.kept; branches = branches _ _ _ _ _ _ _ bounds _ c.branching_row.ensures }

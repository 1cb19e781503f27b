-- What the reductions of a covering problem on slices promise: a lightest cover of what is left, with the rows taken, is a lightest cover of the whole.
-- Definitions only. Assumes nothing.
use Rattle.std.specs.Prelude.{List, ℕ}
use Rattle.covering.specs.Search.{Reduced, none}
use Rattle.matrix.specs.Sets.{ColumnSet, RowSet, row_limit, In, member, Member}
use Rattle.matrix.specs.Matrix.{CoversColumn, weight_of}
use Rattle.reduction.specs.declared.remaining.Remaining.{Remaining}

-- the rows live and the columns u come down to live' and u', and nothing is taken
abbrev pub Keeps : List ℕ → List ℕ → RowSet → ColumnSet → RowSet → ColumnSet → Type 0
Keeps words weights live u live' u' = Reduced (CoversColumn words) (weight_of weights) row_limit (Member live) (In u) (Member live') (In u') none 0

-- the rows live and the columns u come down to what is left, with the rows taken and their weight
abbrev pub Reduces : List ℕ → List ℕ → RowSet → ColumnSet → Remaining → Type 0
Reduces words weights live u s =
    Reduced (CoversColumn words) (weight_of weights) row_limit (Member live) (In u) (Member s.live) (In s.undecided) (member s.taken) s.cost

-- The steps of a reduction on slices: a row dropped, a row taken, one state after the other. Each is the law of covers for the sets that the contracts of
-- the small operations describe. Assumes nothing.
use mathlib.Core.Path.{◌≡◌, ◌∙◌}
use mathlib.Core.List.{List, [], ◌∷◌}
use mathlib.Core.Logic.{inl, inr}
use mathlib.Core.Bool.{false, not, ◌&&◌, or_comm}
use Prim.Native.Nat.{ℕ, ◌<◌}
use native.Mathlib.Omega.{arith}
use lib.Dec.{eqb}
use Rattle.numbers.proofs.Flags.{kept_of_lem, kept_or}
use Rattle.covering.proofs.Reductions.{unchanged, then, then_kept, drop_row, take_row}
use Rattle.covering.specs.Search.{Reduced}
use Rattle.matrix.specs.Sets.{ColumnSet, RowSet, row_limit, has, In, member, Member}
use Rattle.matrix.specs.Matrix.{covered, CoversColumn, weight_of}
use Rattle.matrix.proofs.Without.{left_in, left_out, left_rest}
use Rattle.reduction.specs.Reduction.{Keeps}
use Rattle.reduction.specs.Steps.{Dominates, Droppable, OneRow, RowTaken, Onward}
use Rattle.reduction.specs.declared.remaining.Remaining.{Remaining}

module _ (words weights : List ℕ) where
  -- ---- a row dropped

  module _ (live rest : RowSet) (u : ColumnSet) (i : ℕ) (e : (j : ℕ) → member rest j ≡ (member live j && not (eqb j i))) where
    pub drop_dominated : (j : ℕ) → Dominates words weights live u i j → Keeps words weights live u rest u
    drop_dominated j d =
        drop_row (CoversColumn words) (weight_of weights) row_limit i (j ∷ []) (left_in live rest i e) (left_rest live rest i e)
        (left_rest live rest i e j d.lives d.other, tt) (omega (arith, d.light)) (λ c v k. inl (d.inside c v k))

    -- a row with no undecided column
    pub drop_useless : ((c : ℕ) → In u c → CoversColumn words i c → ⊥) → Keeps words weights live u rest u
    drop_useless n = drop_row (CoversColumn words) (weight_of weights) row_limit i [] (left_in live rest i e) (left_rest live rest i e) tt (omega arith) (λ c v k. absurd (n c v k))

    pub drop_droppable : Droppable words weights live u i → Keeps words weights live u rest u
    drop_droppable (inl n) = drop_useless n
    drop_droppable (inr d) = drop_dominated d.0 d.1

  pub keeps_then : (live rest last : RowSet) (u v x : ColumnSet) → Keeps words weights live u rest v → Keeps words weights rest v last x → Keeps words weights live u last x
  keeps_then live rest last u v x f g = then_kept (CoversColumn words) (weight_of weights) row_limit f g

  -- ---- from state to state

  -- the row r taken for the column c, of which it is the only one
  pub onward_taken : (s t : Remaining) (r c : ℕ) → OneRow words s.live c → In s.undecided c → r < row_limit → Member s.live r → CoversColumn words r c
      → RowTaken words weights s r t → Onward words weights s t
  onward_taken s t r c one u l is k h = record {
    fewer = left_in s.live t.live r h.live;
    reduced = λ live v f. rw h.cost (then (CoversColumn words) (weight_of weights) row_limit (λ i. h.taken i ∙ or_comm (eqb i r) (member s.taken i)) f
        (take_row (CoversColumn words) (weight_of weights) row_limit r c l is (left_out s.live t.live r h.live) (left_in s.live t.live r h.live) (left_rest s.live t.live r h.live)
        u (λ i m n. one i r m is n k) (λ x n. kept_of_lem (has s.undecided x) (has (covered words r) x) (h.undecided x) n)
        (λ x n. kept_or (has s.undecided x) (has (covered words r) x) (h.undecided x) n)));
  }

  -- columns and rows dropped, and then more
  pub onward_kept : (s t r : Remaining) → Keeps words weights s.live s.undecided s.live t.undecided
      → Keeps words weights s.live t.undecided t.live t.undecided → t.taken ≡ s.taken → t.cost ≡ s.cost → Onward words weights t r → Onward words weights s r
  onward_kept s t r f g et ec o = record {
    fewer = λ i h. g.fewer i (o.fewer i h);
    reduced = λ live u h. o.reduced live u (rw (et, ec) (then_kept (CoversColumn words) (weight_of weights) row_limit (then_kept (CoversColumn words) (weight_of weights) row_limit h f) g));
  }

  -- ---- from the start

  pub start : (live : RowSet) (u : ColumnSet) (taken : RowSet) → ((j : ℕ) → member taken j ≡ false)
      → Reduced (CoversColumn words) (weight_of weights) row_limit (Member live) (In u) (Member live) (In u) (member taken) 0
  start live u taken e = then (CoversColumn words) (weight_of weights) row_limit e (unchanged (CoversColumn words) (weight_of weights) row_limit) (unchanged (CoversColumn words) (weight_of weights) row_limit)

-- The parts of branch and bound on slices: where the search branches, what the answer of `reduce` follows from at each of its returns, what the two
-- branches of `choose` give, that the lighter of an incumbent and the answer below it is the answer, and that the answer of the whole search is a
-- minimum cover. Each is the law of covers for these sets. Assumes nothing.
use Rattle.std.proofs.Common.{◌≡◌, ℕ, ◌+◌, ◌-◌, ◌<◌, ◌≤◌, not, ◌&&◌, eqb, ltb, List, refl, sym, ◌∙◌, add-zero, arith, ltb-true, lt-ltb, Option, Some, None, ◌↔◌, IsSome, IfSome, IfNone, MatchOption}
use Rattle.std.specs.Option.{option_or}
use mathlib.Core.Bool.{or-false}
use Rattle.numbers.proofs.Flags.{kept_of_lem, kept_or}
use Rattle.covering.proofs.Bounds.{nothing, smaller, branch, uncoverable}
use Rattle.covering.proofs.Choices.{answer_nothing, answer_reduced, answer_fewer, answer_without, minimum}
use Rattle.covering.proofs.Reductions.{cover_same, cover_with}
use Rattle.matrix.specs.Sets.{ColumnSet, RowSet, row_limit, has, In, member, Member}
use Rattle.matrix.specs.Matrix.{row_count, covered, CoversColumn, weight_of, Low}
use Rattle.matrix.proofs.Without.{left_in, left_out, left_rest}
use Rattle.reduction.specs.Reduction.{Reduces}
use Rattle.reduction.specs.declared.remaining.Remaining.{Remaining}
use Rattle.bound.specs.Bound.{Bounds, Kept}
use Rattle.incumbent.specs.Incumbent.{weight_or, above_all, Incumbent, Uncovered}
use Rattle.incumbent.specs.declared.Cover.{Cover}
use Rattle.search.specs.Search.{Coverable, MinimumCover}
use Rattle.search.specs.Steps.{LightestBelow, Found, Branch, Taking, WithTaken}

module _ (words weights : List ℕ) where
  -- ---- where the search branches

  module _ (live : RowSet) (u : ColumnSet) (limit bound : ℕ) (rest : RowSet) (b : Bounds words weights live u limit bound rest) where
    -- no row that is left covers some column
    pub uncovered : (c : ℕ) × In u c × ((i : ℕ) → Member rest i → CoversColumn words i c → ⊥) → Low words weights live u limit
    uncovered t = b.kept.low limit (omega arith) (uncoverable (CoversColumn words) t.0 limit t.1 t.2)

    pub branches : (row : Option ℕ) → Branch words rest u row → MatchOption row (Low words weights live u limit) (λ r. (r < row_count words) × Member rest r)
    branches None t = uncovered t
    branches (Some r) h = h

  -- ---- the returns of `reduce`

  module _ (live : RowSet) (u : ColumnSet) (limit : ℕ) (s : Remaining) (h : Reduces words weights live u s) where
    -- what was taken weighs as much as the limit
    pub found_spent : limit ≤ s.cost → Low words weights live u limit
    found_spent l = smaller (CoversColumn words) (omega arith) (h.low 0 (nothing (CoversColumn words)))

    -- no column is left
    pub found_decided : s.cost < limit → ((x : ℕ) → In s.undecided x → ⊥) → LightestBelow words weights live u limit (record { weight = s.cost; rows = s.taken })
    found_decided l f = record {
      below = l;
      answers = rw add-zero at (answer_reduced (CoversColumn words) (weight_of weights) row_limit {limit = limit} {room = limit - s.cost} h (omega arith) (λ i. sym (or-false (member s.taken i)))
          (answer_nothing (CoversColumn words) (weight_of weights) row_limit (limit - s.cost) f));
    }

    module _ (l : s.cost < limit) where
      -- no cover of what is left is below the rest of the limit
      pub found_none : Low words weights s.live s.undecided (limit - s.cost) → Low words weights live u limit
      found_none b = smaller (CoversColumn words) (omega arith) (h.low (limit - s.cost) b)

      -- a row was chosen
      pub found_chosen : (rest : RowSet) (found a : Option Cover) → Kept words weights s.live s.undecided (limit - s.cost) rest
          → Found words weights rest s.undecided (limit - s.cost) found → WithTaken s.taken s.cost found a → Found words weights live u limit a
      found_chosen rest None a k f e = rw e (found_none (k.low _ (omega arith) f))
      found_chosen rest (Some d) a k f t = rw t.1 (record {
        below = omega (arith, f.below, t.2.weight);
        answers = rw t.2.weight (answer_reduced (CoversColumn words) (weight_of weights) row_limit {room = limit - s.cost} h (omega arith) t.2.rows
            (answer_fewer (CoversColumn words) (weight_of weights) row_limit k.fewer k.low f.answers));
      })

  -- ---- the lighter of an incumbent and the answer below it

  pub found_lighter : (live : RowSet) (u : ColumnSet) (limit : ℕ) (incumbent found : Option Cover) → IfSome incumbent (Incumbent words weights live u limit)
      → Found words weights live u (weight_or limit incumbent) found → Found words weights live u limit (option_or found incumbent)
  found_lighter live u limit None None i f = f
  found_lighter live u limit None (Some d) i f = f
  found_lighter live u limit (Some c) None i f = record { below = i.below; answers = record { low = f; within = omega (arith, i.below); cover = λ l. i.cover } }
  found_lighter live u limit (Some c) (Some d) i f =
      record { below = omega (arith, i.below, f.below); answers = record { low = f.answers.low; within = omega (arith, i.below, f.below); cover = λ l. f.answers.cover f.below } }

  -- ---- the two branches of a row

  -- the limit of the second is no higher
  pub lower_limit : (rest : RowSet) (left : ColumnSet) (limit r w : ℕ) (found a : Option Cover) → Found words weights rest left (limit - w) found → Taking found r w a → weight_or limit a ≤ limit
  lower_limit rest left limit r w None a f t = rw t (omega arith)
  lower_limit rest left limit r w (Some c) a f t = rw t.1 (omega (arith, f.below, t.2.weight))

  module _ (live rest : RowSet) (u left : ColumnSet) (limit r : ℕ) (l : r < row_limit) (is : Member live r)
      (e : (j : ℕ) → member rest j ≡ (member live j && not (eqb j r))) (d : (x : ℕ) → has left x ≡ (has u x && not (has (covered words r) x))) where
    -- what the answer with the row leaves a search without it
    low_with : (k : ℕ) (found : Option Cover) → Found words weights rest left k found → Low words weights rest left (weight_or k found)
    low_with k None f = f
    low_with k (Some c) f = f.answers.low

    weight_with : (found with : Option Cover) → Taking found r (weight_of weights r) with → weight_or limit with ≤ weight_of weights r + weight_or (limit - weight_of weights r) found
    weight_with None a t = rw t (omega arith)
    weight_with (Some c) a t = rw t.1 (omega (arith, t.2.weight))

    -- the row with the answer for what it leaves
    with_row : (found with : Option Cover) → Found words weights rest left (limit - weight_of weights r) found → Taking found r (weight_of weights r) with
        → IfSome with (Incumbent words weights live u limit)
    with_row None a f t = rw t tt
    with_row (Some c) a f t = rw t.1 (record {
      below = omega (arith, f.below, t.2.weight);
      cover = cover_same (CoversColumn words) (weight_of weights) row_limit t.2.rows (sym t.2.weight)
          (cover_with (CoversColumn words) (weight_of weights) row_limit r l is (left_out live rest r e) (left_in live rest r e)
          (λ c x. kept_or (has u c) (has (covered words r) c) (d c) x) (f.answers.cover f.below));
    })

    -- without the row, below that
    without_row : (k : ℕ) (b : ℕ) (other : Option Cover) → Low words weights rest left b → k ≤ weight_of weights r + b → Found words weights rest u k other → Found words weights live u k other
    without_row k b None low m f =
        branch (CoversColumn words) (weight_of weights) r (left_rest live rest r e) k
        (λ c x. kept_of_lem (has u c) (has (covered words r) c) (d c) x) low f (omega arith) (omega arith)
    without_row k b (Some c) low m f = record {
      below = f.below;
      answers = answer_without (CoversColumn words) (weight_of weights) row_limit r (left_in live rest r e) (left_rest live rest r e)
          (λ c x. kept_of_lem (has u c) (has (covered words r) c) (d c) x) low m f.answers;
    }

    -- the lighter of that and the answer without the row
    pub found_branches : (found with other : Option Cover) → Found words weights rest left (limit - weight_of weights r) found → Taking found r (weight_of weights r) with
        → Found words weights rest u (weight_or limit with) other → Found words weights live u limit (option_or other with)
    found_branches found with other f t x =
        found_lighter live u limit with other (with_row found with f t)
        (without_row (weight_or limit with) (weight_or (limit - weight_of weights r) found) other (low_with _ found f) (weight_with found with t) x)

  -- ---- the whole search, where the rows are all live

  module _ (all : RowSet) (columns : ColumnSet) (is : (j : ℕ) → member all j ≡ ltb j (row_count words)) where
    -- a cover has a row for each column
    covers_each : (limit : ℕ) (c : Cover) → LightestBelow words weights all columns limit c → Coverable words columns
    covers_each limit c f x k =
        let found = f.answers.cover f.below in
        let t = found.covers x k in (t.0, ltb-true t.0 (row_count words) (sym (is t.0) ∙ found.live t.0 t.1), t.2)

    -- so there is one exactly where each column has a row, as there is a first one there
    pub coverable : (limit : ℕ) (first found : Option Cover) → above_all ≤ limit → IfNone first (above_all ≤ limit → Uncovered words all columns)
        → Found words weights all columns limit (option_or found first) → IsSome (option_or found first) ↔ Coverable words columns
    coverable limit None None l u f = (
      λ h. cc,
      λ k.
          let t = u l in
          let r = k t.0 t.1 in
          absurd (t.2 r.0 (is r.0 ∙ lt-ltb r.0 (row_count words) r.1) r.2),
    )
    coverable limit None (Some d) l u f = (λ h. covers_each limit d f, λ h. refl)
    coverable limit (Some c) None l u f = (λ h. covers_each limit c f, λ h. refl)
    coverable limit (Some c) (Some d) l u f = (λ h. covers_each limit d f, λ h. refl)

    -- and the lightest is a minimum cover
    pub whole : (limit : ℕ) (found : Option Cover) → row_count words ≤ row_limit → Found words weights all columns limit found
        → IfSome found (λ c. MinimumCover words weights columns c.weight c.rows)
    whole limit None few f = tt
    whole limit (Some c) few f =
        minimum (CoversColumn words) (weight_of weights) row_limit (row_count words) few (λ i h. ltb-true i (row_count words) (sym (is i) ∙ h))
        (λ i l. is i ∙ lt-ltb i (row_count words) l) f.below f.answers

-- Stepping over the bytes of a text: a piece and then the rest are the whole; a wrong byte stays wrong; and to step over all bytes and to close is to
-- read the whole. The run is by induction on the bytes left, with the cells before them. Assumes nothing.
use mathlib.Core.Path.{◌≡◌, refl, sym, ap, ◌∙◌}
use mathlib.Core.Bool.{Bool, true, false, cond, ◌&&◌}
use mathlib.Core.List.{List, [], ◌∷◌, ◌++◌, append-nil}
use Prim.Native.Nat.{ℕ}
use lib.Dec.{eqb}
use lib.Seq.{append_snoc}
use Rattle.cube.specs.Calls.{Answer, refuses, gives}
use Rattle.numbers.proofs.Fronts.{take_cut}
use Rattle.text.specs.Characters.{line_feed}
use Rattle.text.specs.Input.{not_in_form, is_digit, width_of, is_cell, cell_of, is_end, before, read_run, of_width, read}
use Rattle.text.specs.Steps.{most_cells, keep, kept_of, State, at_start, after_digit, in_run, at_end, wrong, stepped, fed, closed}

pub fed_append : (s : State) (xs ys : List ℕ) → fed s (xs ++ ys) ≡ fed (fed s xs) ys
unfolding fed
fed_append s [] ys = refl
fed_append s (x ∷ xs) ys = fed_append (stepped s x) xs ys

fed_wrong : (xs : List ℕ) → fed wrong xs ≡ wrong
unfolding fed
fed_wrong [] = refl
fed_wrong (x ∷ xs) = fed_wrong xs

-- the cells xs before those of a run
joined : List ℕ → Answer (List ℕ) → Answer (List ℕ)
joined xs (refuses k) = refuses k
joined xs (gives ys) = gives (xs ++ ys)

joined_none : (r : Answer (List ℕ)) → joined [] r ≡ r
unfolding joined
joined_none (refuses k) = refl
joined_none (gives ys) = refl

joined_one : (xs : List ℕ) (c : ℕ) (r : Answer (List ℕ)) → joined (xs ++ (c ∷ [])) r ≡ joined xs (before c r)
unfolding joined
joined_one xs c (refuses k) = refl
joined_one xs c (gives ys) = ap gives (append_snoc xs c ys)

module _ (n : ℕ) where
  -- a run followed by the bytes bs, with the cells xs read
  abbrev Says : List ℕ → List ℕ → Type 0
  Says xs bs = closed (fed (in_run n (keep xs)) bs) ≡ kept_of (of_width n (joined xs (read_run bs)))

  ends : (xs bs : List ℕ) → closed (fed (at_end n (keep xs)) bs) ≡ kept_of (of_width n (joined xs (cond (is_end bs) (gives []) (refuses not_in_form))))
  unfolding fed joined
  ends xs [] = ap (λ (l : List ℕ). gives (record { width = n; cells = keep l })) (sym (append-nil xs))
  ends xs (b ∷ bs) = ap closed (fed_wrong bs)

  run_says : (xs bs : List ℕ) → Says xs bs
  unfolding fed read_run joined
  run_says xs [] = refl
  run_says xs (b ∷ bs) = go (eqb b line_feed) (is_cell b) (run_says (xs ++ (cell_of b ∷ [])) bs)
    where
      go : (feed cell : Bool) → Says (xs ++ (cell_of b ∷ [])) bs
          → closed (fed (cond feed (at_end n (keep xs)) (cond cell (in_run n (keep (keep xs ++ (cell_of b ∷ [])))) wrong)) bs)
          ≡ kept_of (of_width n (joined xs (cond feed (cond (is_end bs) (gives []) (refuses not_in_form)) (cond cell (before (cell_of b) (read_run bs)) (refuses not_in_form)))))
      go true cell ih = ends xs bs
      go false true ih =
          ap (λ (l : List ℕ). closed (fed (in_run n l) bs)) (take_cut most_cells xs (cell_of b ∷ [])) ∙ ih
          ∙ ap (λ (r : Answer (List ℕ)). kept_of (of_width n r)) (joined_one xs (cell_of b) (read_run bs))
      go false false ih = ap closed (fed_wrong bs)

-- "found over the whole input however long the run": `most_cells` of its cells at most are kept
pub stepping : (input : List ℕ) → closed (fed at_start input) ≡ kept_of (read input)
unfolding fed read
stepping [] = refl
stepping (d ∷ []) = go (is_digit d)
  where
    go : (digit : Bool) → closed (cond digit (after_digit (width_of d)) wrong) ≡ refuses not_in_form
    go true = refl
    go false = refl
stepping (d ∷ b ∷ bs) = go (is_digit d)
  where
    second : (feed : Bool) → closed (fed (cond feed (in_run (width_of d) []) wrong) bs) ≡ kept_of (cond feed (of_width (width_of d) (read_run bs)) (refuses not_in_form))
    second true = run_says (width_of d) [] bs ∙ ap (λ (r : Answer (List ℕ)). kept_of (of_width (width_of d) r)) (joined_none (read_run bs))
    second false = ap closed (fed_wrong bs)

    go : (digit : Bool)
        → closed (fed (stepped (cond digit (after_digit (width_of d)) wrong) b) bs)
        ≡ kept_of (cond (digit && eqb b line_feed) (of_width (width_of d) (read_run bs)) (refuses not_in_form))
    go true = second (eqb b line_feed)
    go false = ap closed (fed_wrong bs)

-- A list of rows in two arrays, place by place: row i is place i of each, so that a loop over the places finds what the list's own recursion
-- says. Assumes nothing.
use mathlib.Core.Path.{◌≡◌, refl, sym, ap, ◌∙◌}
use mathlib.Core.Bool.{Bool, true, false, not, ◌||◌}
use mathlib.Core.List.{List, [], ◌∷◌}
use Prim.Native.Nat.{ℕ, suc, ◌<◌}
use native.Mathlib.Omega.{arith}
use lib.ListN.{length, get_or}
use Rattle.numbers.specs.Below.{some}
use Rattle.cube.specs.Words.{Row, Cover, formed, each_row, rows_of}
use Rattle.cube.specs.Calls.{bad_row}
use Rattle.numbers.proofs.Bools.{not_and}
use Rattle.numbers.proofs.Below.{some_found, some_none, some_front}

-- row i of two arrays
abbrev pub row_in : List ℕ → List ℕ → ℕ → Row
row_in vs ws i = record { value = get_or vs i 0; care = get_or ws i 0 }

pub rows_length : (vs ws : List ℕ) → length vs ≡ length ws → length (rows_of vs ws) ≡ length vs
unfolding rows_of
rows_length [] ws e = refl
rows_length (v ∷ vs) [] e = absurd (omega arith)
rows_length (v ∷ vs) (w ∷ ws) e = ap suc (rows_length vs ws (omega arith))

-- some row of the list passes
any_row : (Row → Bool) → Cover → Bool
any_row f [] = false
any_row f (r ∷ rs) = f r || any_row f rs

any_place : (f : Row → Bool) (vs ws : List ℕ) → length vs ≡ length ws → any_row f (rows_of vs ws) ≡ some (length vs) (λ i. f (row_in vs ws i))
unfolding any_row rows_of some
any_place f [] ws e = refl
any_place f (v ∷ vs) [] e = absurd (omega arith)
any_place f (v ∷ vs) (w ∷ ws) e =
    ap (λ (b : Bool). f (record { value = v; care = w }) || b) (any_place f vs ws (omega arith))
    ∙ sym (some_front (length vs) (λ i. f (row_in (v ∷ vs) (w ∷ ws) i)))

-- some row of the list is not formed where the row in some place is not
bad_place : (n : ℕ) (vs ws : List ℕ) → length vs ≡ length ws → bad_row n (rows_of vs ws) ≡ some (length vs) (λ i. not (formed n (row_in vs ws i)))
unfolding each_row any_row
bad_place n vs ws e = any (rows_of vs ws) ∙ any_place (λ r. not (formed n r)) vs ws e
  where
    any : (rs : Cover) → not (each_row (formed n) rs) ≡ any_row (λ r. not (formed n r)) rs
    any [] = refl
    any (r ∷ rs) = not_and (formed n r) (each_row (formed n) rs) ∙ ap (λ (b : Bool). not (formed n r) || b) (any rs)

module _ (n : ℕ) (vs ws : List ℕ) (e : length vs ≡ length ws) where
  pub bad_found : (i : ℕ) → i < length vs → not (formed n (row_in vs ws i)) ≡ true → bad_row n (rows_of vs ws) ≡ true
  bad_found i l h = bad_place n vs ws e ∙ some_found (length vs) (λ i. not (formed n (row_in vs ws i))) i l h

  pub bad_none : ((i : ℕ) → i < length vs → not (formed n (row_in vs ws i)) ≡ false) → bad_row n (rows_of vs ws) ≡ false
  bad_none f = bad_place n vs ws e ∙ some_none (length vs) (λ i. not (formed n (row_in vs ws i))) f

-- The removal of the prime implicants without a cross changes neither McCluskey's single asterisk rows nor his basis rows: the theorem `Removal` of
-- `specs/McCluskey.antt`. A row with a cross in a column is never removed; and a selection is still one without the rows that have none, and shorter if it had
-- any. Assumes nothing.
use mathlib.Core.Path.{◌≡◌, refl, subst}
use mathlib.Core.Bool.{Bool, true, false}
use mathlib.Core.List.{List}
use Prim.Native.Nat.{ℕ, ◌≤◌}
use native.Mathlib.Omega.{arith}
use lib.Dec.{T}
use lib.ListN.{length}
use Rattle.std.specs.Bool.{passes}
use Rattle.numbers.specs.Below.{among}
use Rattle.cube.specs.Words.{serves}
use Rattle.cube.specs.McCluskey.{PrimeImplicant, Column, cross, CrossedRow, SingleAsterisk, Selection, BasisRows, SingleAsteriskLeft, SelectionLeft, BasisRowsLeft, Removal}
use Rattle.numbers.proofs.Kept.{kept, kept_in, kept_has, kept_most, kept_fewer}
use Rattle.cube.proofs.Theorems.{serves_by}
use Rattle.cube.proofs.McCluskey.{agreement, crossed_by}

module _ (n : ℕ) (t : List ℕ) where
  -- a row with a cross in a column is not removed
  crossed : (q c : ℕ) → PrimeImplicant n t q → Column n t c → T (cross n c q) → CrossedRow n t q
  crossed q c p k m = record { row = p; column = c; is_column = k; entry = m }

  -- ---- single asterisk rows

  asterisk_to : (q : ℕ) → SingleAsterisk n t q → SingleAsteriskLeft n t q
  unfolding crossed
  asterisk_to q a = record { row = crossed q a.column a.row a.is_column a.entry; sole = λ p r x. omega (arith, a.sole p r.row x) }

  asterisk_from : (q : ℕ) → SingleAsteriskLeft n t q → SingleAsterisk n t q
  asterisk_from q a =
      let r = a.row in
      record {
        row = r.row;
        column = r.column;
        is_column = r.is_column;
        entry = r.entry;
        sole = λ p i x. omega (arith, a.sole p (crossed p r.column i r.is_column x) x);
      }

  -- ---- basis rows

  -- the rows of a selection that are left are a selection
  module _ (selected : List ℕ) (s : Selection n t selected) where
    left : List ℕ
    left = kept (serves n t) selected

    left_selected : SelectionLeft n t left
    unfolding left
    left_selected = record {
      selection = record {
        rows = λ q a. s.rows q (kept_in (serves n t) selected q a).0;
        columns = λ c k.
            let r = s.columns c k in
            (r.0, kept_has (serves n t) selected r.0 r.1 (serves_by n t r.0 c k.row k.one r.2), r.2);
      };
      left = λ q a. let r = kept_in (serves n t) selected q a in crossed_by n t q (s.rows q r.0) r.1;
    }

    left_most : length left ≤ length selected
    unfolding left
    left_most = kept_most (serves n t) selected

    -- where no selection has fewer rows, each row has a cross
    all_left : length selected ≤ length left → (q : ℕ) → T (among q selected) → CrossedRow n t q
    unfolding left
    all_left l q a = go (serves n t q) refl
      where
        go : (b : Bool) → serves n t q ≡ b → CrossedRow n t q
        go true e = crossed_by n t q (s.rows q a) (passes (serves n t q) e)
        go false e = absurd (omega (arith, kept_fewer (serves n t) selected q a (λ x. subst T e x)))

  basis_to : (selected : List ℕ) → BasisRows n t selected → BasisRowsLeft n t selected
  basis_to selected b =
      let s = b.selection in
      record {
        selection = record { selection = s; left = all_left selected s (b.fewest (left selected s) (left_selected selected s).selection) };
        fewest = λ other o. omega (arith, b.fewest other o.selection);
      }

  basis_from : (selected : List ℕ) → BasisRowsLeft n t selected → BasisRows n t selected
  basis_from selected b = record {
    selection = b.selection.selection;
    fewest = λ other o. omega (arith, b.fewest (left other o) (left_selected other o), left_most other o);
  }

  pub removal : Removal n t
  removal = record {
    no_cross = λ q p. (
      λ e c k m. omega (arith, (agreement n t).crossed.each q (crossed q c p k m)),
      λ f. (agreement n t).crossed.no_other q (λ r. f r.column r.is_column r.entry),
    );
    single_asterisks = λ q. (asterisk_to q, asterisk_from q);
    basis_rows = λ selected. (basis_to selected, basis_from selected);
  }

-- The theorems of `specs/Theorems.antt`: the first places of the arrays are the values and the cares of the list that Plan's promise names, so they are
-- that list; and for one table it has as many rows as Plan asks for places. Assumes nothing.
use mathlib.Core.Path.{◌≡◌, refl, sym, ap, ap₂, ◌∙◌, subst⁻¹}
use mathlib.Core.List.{List, [], ◌∷◌, ◌++◌, map}
use Prim.Native.Nat.{ℕ, ◌-◌, ◌^◌, ◌≤◌}
use native.Mathlib.Omega.{arith}
use lib.Dec.{T}
use lib.ListN.{length, length-map, take, drop}
use Rattle.std.specs.Prelude.{Result, Ok, Err}
use Rattle.numbers.proofs.Fronts.{front_long, front_is, front_behind}
use Rattle.cube.specs.Words.{Row, Cover, rows_of, first_rows, cover_literals, number_of}
use Rattle.cube.specs.Calls.{bad_cell, written}
use Rattle.cube.specs.Minimum.{Minimum, odd_ones}
use Rattle.cube.specs.declared.Refusal.{Refusal}
use Rattle.cube.proofs.Calls.{first_passes, cells_left}
use Rattle.cube.proofs.Minimum.{minimum_rows}
use Rattle.cube.proofs.OddOnes.{filled}
use Rattle.plan.specs.Plan.{plan_refuses, ascending, values_of, cares_of, Plans}
use Rattle.plan.specs.Theorems.{Held, Delivered, ArraysHold, AllFilled}
use Rattle.plan.specs.declared.Totals.{Totals}
use Rattle.plan.proofs.Refusals.{refuses_none, plannable}
use Rattle.plan.proofs.Answers.{not_refused, rows_is, bits_is, accepted_refused}

-- the values and the cares of a list are the list
rows_back : (rs : Cover) → rows_of (values_of rs) (cares_of rs) ≡ rs
unfolding rows_of
rows_back [] = refl
rows_back (r ∷ rs) = ap (λ (l : Cover). r ∷ l) (rows_back rs)

module _ {n : ℕ} {t values cares values' cares' : List ℕ} where
  module _ {totals : Totals} (p : Plans n t values cares values' cares' (Ok totals)) where
    -- an array has a number for each row
    counts : (f : Row → ℕ) → totals.rows ≡ length (map f p.list)
    counts f = rows_is p ∙ sym (length-map p.list f)

    values_are : values' ≡ values_of p.list ++ drop (length (values_of p.list)) values
    values_are = p.values_are ∙ ap (λ (k : ℕ). written k (values_of p.list) values) (not_refused p)

    cares_are : cares' ≡ cares_of p.list ++ drop (length (cares_of p.list)) cares
    cares_are = p.cares_are ∙ ap (λ (k : ℕ). written k (cares_of p.list) cares) (not_refused p)

    -- the first places hold the list that the promise names
    pub values_stand : take totals.rows values' ≡ values_of p.list
    values_stand = front_is (values_of p.list) values (counts (λ r. r.value)) values_are

    pub cares_stand : take totals.rows cares' ≡ cares_of p.list
    cares_stand = front_is (cares_of p.list) cares (counts (λ r. r.care)) cares_are

    pub list_is : first_rows totals.rows values' cares' ≡ p.list
    list_is = ap₂ rows_of values_stand cares_stand ∙ rows_back p.list

    pub held : Held n t values cares values' cares' totals
    held = record {
      enough_values = front_long (values_of p.list) values (counts (λ r. r.value)) values_are;
      enough_cares = front_long (cares_of p.list) cares (counts (λ r. r.care)) cares_are;
      minimum = subst⁻¹ (Minimum n t) list_is (p.minimum (not_refused p));
      is_ascending = subst⁻¹ (λ (l : Cover). T (ascending (map (number_of n) l))) list_is (p.is_ascending (not_refused p));
      row_count = ap length list_is ∙ sym (rows_is p);
      bit_count = ap (cover_literals n) list_is ∙ sym (bits_is p);
      values_behind = front_behind (values_of p.list) values (counts (λ r. r.value)) values_are;
      cares_behind = front_behind (cares_of p.list) cares (counts (λ r. r.care)) cares_are;
      few = subst⁻¹ (λ (k : ℕ). k ≤ 2 ^ (n - 1)) (rows_is p) (minimum_rows n t p.list (p.minimum (not_refused p)));
    }

pub arrays_hold : (n : ℕ) (t values cares values' cares' : List ℕ) → ArraysHold n t values cares values' cares'
arrays_hold n t values cares values' cares' = record { counted = λ totals p. held p; accepted = delivered }
  where
    delivered : (r : Result Totals Refusal) → plan_refuses n t (length values) (length cares) ≡ 0 → Plans n t values cares values' cares' r
        → Delivered n t values cares values' cares' r
    delivered (Ok totals) e p = record { totals = totals; answer = refl; held = held p }
    delivered (Err d) e p = absurd (accepted_refused p e)

-- ---- the table that fills all places

pub all_filled : (n : ℕ) (values cares values' cares' : List ℕ) → AllFilled n values cares values' cares'
all_filled n values cares values' cares' = record {
  accepted = λ w v c. sym (refuses_none n (odd_ones n) (length values) (length cares) (cells_left n (odd_ones n) w (filled n).cells ∙ first_passes (bad_cell (odd_ones n)) 3 [] (filled n).good) v c);
  filled = λ totals p.
      let h = held p in
      let width = (plannable n (odd_ones n) (length values) (length cares) (not_refused p)).table.from in
      omega (arith, h.few, h.row_count, (filled n).rows width (first_rows totals.rows values' cares') h.minimum.formed h.minimum.right);
}

-- How Plan ends: it refuses and leaves both arrays as they were, or writes the chosen list. Assumes nothing.
use mathlib.Core.Path.{◌≡◌, refl, sym, ap₂, ◌∙◌, subst⁻¹}
use mathlib.Core.List.{List, [], ◌∷◌, map, map-map}
use Prim.Native.Nat.{ℕ, suc, ◌-◌, ◌^◌, ◌≤◌}
use native.Mathlib.Omega.{arith}
use lib.Dec.{T}
use lib.ListN.{length, length-map}
use Rattle.std.specs.Prelude.{Ok}
use Rattle.cube.specs.Words.{row_of, number_of, value_of, care_of}
use Rattle.cube.specs.Calls.{answered, written}
use Rattle.cube.proofs.Calls.{gives_answered}
use Rattle.cube.proofs.Minimum.{minimum_rows}
use Rattle.cube.proofs.Rows.{number_of_row}
use Rattle.plan.specs.Plan.{plan_refuses, ascending, Plans}
use Rattle.plan.specs.Steps.{rows_of_cubes, Cubes, Chosen}

-- the cubes of some rows are the numbers of these rows
numbers : (n : ℕ) (qs : List ℕ) → Cubes n qs → map (number_of n) (rows_of_cubes n qs) ≡ qs
numbers n [] f = refl
numbers n (q ∷ qs) f = ap₂ (λ (x : ℕ) (xs : List ℕ). x ∷ xs) (number_of_row n q (f 0 (omega arith))) (numbers n qs (λ i l. f (suc i) (omega arith)))

-- a shortest list has at most a row for each pair of codes
pub cubes_most : (n : ℕ) (t qs : List ℕ) (bits : ℕ) → Chosen n t qs bits → length qs ≤ 2 ^ (n - 1)
cubes_most n t qs bits chosen = omega (arith, length-map qs (row_of n), minimum_rows n t (rows_of_cubes n qs) chosen.minimum)

module _ (n : ℕ) (t values cares : List ℕ) where
  abbrev refusal : ℕ
  refusal = plan_refuses n t (length values) (length cares)

  pub plan_done : (qs : List ℕ) (bits : ℕ) → Chosen n t qs bits → 0 ≡ refusal → (values' cares' : List ℕ)
      → values' ≡ written 0 (map (value_of n) qs) values → cares' ≡ written 0 (map (care_of n) qs) cares
      → Plans n t values cares values' cares' (Ok (record { rows = length qs; bits = bits }))
  plan_done qs bits chosen none values' cares' v w = record {
    list = rows_of_cubes n qs;
    minimum = λ z. chosen.minimum;
    is_ascending = λ z. subst⁻¹ (λ (l : List ℕ). T (ascending l)) (numbers n qs chosen.below) chosen.is_ascending;
    answer =
        gives_answered (record { rows = length qs; bits = bits }) none
        ∙ ap₂ (λ (r b : ℕ). answered refusal (record { rows = r; bits = b })) (sym (length-map qs (row_of n))) chosen.counts;
    values_are = v ∙ ap₂ (λ (k : ℕ) (l : List ℕ). written k l values) none (sym (map-map (λ r. r.value) (row_of n) qs));
    cares_are = w ∙ ap₂ (λ (k : ℕ) (l : List ℕ). written k l cares) none (sym (map-map (λ r. r.care) (row_of n) qs));
  }

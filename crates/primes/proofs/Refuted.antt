-- Wrong answers of Primes that its promise shuts out, each on a named case: those for which no edit of the code keeps its shape, and document 02's case d with two
-- primes. Wrong refusals are refuted in `tables`. Assumes nothing.
use mathlib.Core.Path.{◌≡◌, ap}
use mathlib.Core.List.{List, [], ◌∷◌}
use Prim.Native.Nat.{ℕ}
use native.Mathlib.Omega.{arith}
use lib.ListN.{get_or}
use Rattle.std.specs.Prelude.{Result}
use Rattle.numbers.specs.Below.{every, some, those}
use Rattle.cube.specs.Words.{cube_matches, cube_literals, within, implicant, prime, serves, serving_primes_of}
use Rattle.cube.specs.Calls.{bad_cell, Listed}
use Rattle.cube.specs.declared.Refusal.{Refusal}
use Rattle.tables.specs.Listing.{primes_refuses}

-- case d of document 01: wanted 0, free 3
abbrev pub case_d : List ℕ
case_d = 1 ∷ 0 ∷ 0 ∷ 2 ∷ []

-- seven places that hold x, and the rest
abbrev seven : ℕ → List ℕ → List ℕ
seven x rest = x ∷ x ∷ x ∷ x ∷ x ∷ x ∷ x ∷ rest

-- wanted 0 and 3
abbrev both_wanted : List ℕ
both_wanted = 1 ∷ 0 ∷ 0 ∷ 1 ∷ []

-- its two primes, descending
pub descending : (r : Result ℕ Refusal) → Listed (primes_refuses 2 both_wanted 9) (serving_primes_of 2 both_wanted) (seven 7 (7 ∷ 7 ∷ [])) (4 ∷ 0 ∷ seven 7 []) r → ⊥
unfolding every some those cube_matches cube_literals within implicant prime serves serving_primes_of bad_cell
descending r p = let z : ◌≡◌ {A = ℕ} 4 0 = ap (λ (l : List ℕ). get_or l 0 0) p.places in omega arith

-- two primes for case d: 11, which matches the free code alone, beside 00
pub free_code_alone : (r : Result ℕ Refusal) → Listed (primes_refuses 2 case_d 9) (serving_primes_of 2 case_d) (seven 7 (7 ∷ 7 ∷ [])) (0 ∷ 4 ∷ seven 7 []) r → ⊥
unfolding every some those cube_matches cube_literals within implicant prime serves serving_primes_of bad_cell
free_code_alone r p = let z : ◌≡◌ {A = ℕ} 4 7 = ap (λ (l : List ℕ). get_or l 1 0) p.places in omega arith

-- a place written though the width is refused
pub written_on_refusal : (r : Result ℕ Refusal) → Listed (primes_refuses 0 case_d 1) (serving_primes_of 0 case_d) (7 ∷ []) (0 ∷ []) r → ⊥
written_on_refusal r p = let z : ◌≡◌ {A = ℕ} 0 7 = ap (λ (l : List ℕ). get_or l 0 0) p.places in omega arith

-- Wrong answers that the promise shuts out, each on a named table. Wrong refusals are refuted in `tables`. Assumes nothing.
use mathlib.Core.Path.{◌≡◌, ap}
use mathlib.Core.List.{List, [], ◌∷◌}
use Prim.Native.Nat.{ℕ}
use native.Mathlib.Omega.{arith}
use lib.ListN.{get_or}
use Rattle.std.specs.Prelude.{Result}
use Rattle.numbers.specs.Below.{every, some, those}
use Rattle.cube.specs.Words.{cube_matches, cube_literals, within, implicant, prime, alone, essential, essentials_of}
use Rattle.cube.specs.Calls.{bad_cell, Listed}
use Rattle.cube.specs.declared.Refusal.{Refusal}
use Rattle.tables.specs.Listing.{primes_refuses}
use Rattle.neighbours.specs.Theorems.{three_wanted}

-- seven places that hold 7
abbrev sevens : List ℕ
sevens = 7 ∷ 7 ∷ 7 ∷ 7 ∷ 7 ∷ 7 ∷ 7 ∷ []

-- a call leaves this in nine such places, for a table of width 2
abbrev Leaves : List ℕ → List ℕ → Result ℕ Refusal → Type 0
Leaves t new r = Listed (primes_refuses 2 t 9) (essentials_of 2 t) (7 ∷ 7 ∷ sevens) new r

-- every vicinity of a wanted code, as 002's Theorem 4 is printed: `--`, which matches the barred code 3, beside `0-` and `-0`
pub every-vicinity : (r : Result ℕ Refusal) → Leaves three_wanted (2 ∷ 6 ∷ 8 ∷ 7 ∷ 7 ∷ 7 ∷ 7 ∷ 7 ∷ 7 ∷ []) r → ⊥
unfolding every some those cube_matches cube_literals within implicant prime alone essential essentials_of bad_cell
every-vicinity r p = let z : ◌≡◌ {A = ℕ} 8 7 = ap (λ (l : List ℕ). get_or l 2 0) p.places in omega arith

-- 0 and 1 are wanted: `0-`, which is 2, is listed, and the next place is written too
pub place_past_count : (r : Result ℕ Refusal) → Leaves (1 ∷ 1 ∷ 0 ∷ 0 ∷ []) (2 ∷ 0 ∷ sevens) r → ⊥
unfolding every some those cube_matches cube_literals within implicant prime alone essential essentials_of bad_cell
place_past_count r p = let z : ◌≡◌ {A = ℕ} 0 7 = ap (λ (l : List ℕ). get_or l 1 0) p.places in omega arith

-- the vicinity of code 0 listed before it is seen that the cell of code 3 is 3
pub written_on_refusal : (r : Result ℕ Refusal) → Leaves (1 ∷ 0 ∷ 0 ∷ 3 ∷ []) (0 ∷ 7 ∷ sevens) r → ⊥
unfolding some bad_cell
written_on_refusal r p = let z : ◌≡◌ {A = ℕ} 0 7 = ap (λ (l : List ℕ). get_or l 0 0) p.places in omega arith

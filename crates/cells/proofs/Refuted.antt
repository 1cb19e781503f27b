-- Wrong answers of Cells that its promise shuts out: the earlier condition wins, and a refusal changes no byte. Assumes nothing.
use mathlib.Core.Path.{◌≡◌, ap}
use mathlib.Core.List.{List, [], ◌∷◌}
use Prim.Native.Nat.{ℕ}
use native.Mathlib.Omega.{arith}
use lib.ListN.{length, get_or}
use Rattle.std.specs.Prelude.{Result, Err}
use Rattle.cube.specs.Words.{codes_of}
use Rattle.cube.specs.Calls.{Listed}
use Rattle.cube.specs.declared.Refusal.{Refusal}
use Rattle.cube.specs.declared.Refusal.TheVariants.{ShortOutput, CubeNumber}
use Rattle.cube.proofs.Calls.{listed_number}
use Rattle.cells.specs.Cells.{cells_refuses}

-- 8 for cube 2187 at width 7
pub eight_before_one : (old new : List ℕ) → Listed (cells_refuses 7 2187 (length old)) (codes_of 7 2187) old new (Err CubeNumber) → ⊥
eight_before_one old new p = let z : ◌≡◌ {A = ℕ} 1 8 = listed_number CubeNumber p in omega arith

-- 4 for a buffer of any length, where the cube number is 729 at width 6
pub four_before_eight : (old new : List ℕ) → Listed (cells_refuses 6 729 (length old)) (codes_of 6 729) old new (Err ShortOutput) → ⊥
four_before_eight old new p = let z : ◌≡◌ {A = ℕ} 8 4 = listed_number ShortOutput p in omega arith

-- a byte written though the width is refused
pub written_on_refusal : (r : Result ℕ Refusal) → Listed (cells_refuses 0 0 1) (codes_of 0 0) (7 ∷ []) (0 ∷ []) r → ⊥
written_on_refusal r p = let z : ◌≡◌ {A = ℕ} 0 7 = ap (λ (l : List ℕ). get_or l 0 0) p.places in omega arith

-- Wrong lines that the promise of `line` shuts out, each on a named list. Assumes nothing.
use mathlib.Core.Path.{◌≡◌, sym, ap}
use mathlib.Core.List.{List, [], ◌∷◌, ◌++◌}
use Prim.Native.Nat.{ℕ}
use native.Mathlib.Omega.{arith}
use lib.ListN.{length, get_or}
use Rattle.text.specs.Characters.{bytes}
use Rattle.text.specs.Output.{decimal_by}
use Rattle.product.specs.Product.{joined_text, sums_text, literals_from, excluding_line}

-- a single literal without its brackets: x2' for the row -1-, or any other text of its length
pub no_brackets : length (excluding_line 3 (record { value = 2; care = 2 } ∷ [])) ≡ length (bytes "x2'\n") → ⊥
unfolding decimal_by joined_text sums_text literals_from
no_brackets e = omega (arith, e)

-- nothing but a line feed for an empty list, or any other single character
pub nothing_for_no_rows : length (excluding_line 3 []) ≡ length (bytes "\n") → ⊥
nothing_for_no_rows e = omega (arith, e)

-- x2 first: (x2'+x1) for the row 01, whatever stands behind
pub last_variable_first : (behind rest : List ℕ) → excluding_line 2 (record { value = 1; care = 3 } ∷ []) ++ behind ≡ bytes "(x2'+x1)\n" ++ rest → ⊥
unfolding decimal_by joined_text sums_text literals_from
last_variable_first behind rest e = let z : ◌≡◌ {A = ℕ} 50 49 = ap (λ (l : List ℕ). get_or l 2 0) (sym e) in omega arith

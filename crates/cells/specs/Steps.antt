-- What the steps of Cells leave: the first untested digit, and the halves of a cube. Assumes nothing.
use Rattle.std.specs.Prelude.{◌≡◌, ◌≢◌, ℕ, ◌^◌, ◌-◌, ◌<◌, [], ◌∷◌, ◌++◌, Option, MatchOption}
use Rattle.cube.specs.Words.{digit, cube_literals, codes_of}
use Rattle.spelling.specs.declared.Cube.{Cube}
use Rattle.cells.specs.declared.Split.{Split}
use Rattle.cells.specs.declared.Split.TheVariants.{Code, Halves}

-- r is the place of the first untested digit of q, x1's first, where there is one
abbrev pub FirstUntested : ℕ → ℕ → Option ℕ → Type 0
FirstUntested n q r =
    MatchOption r ((j : ℕ) → j < n → digit j q ≢ 2) (λ k. (k < n) × (digit k q ≡ 2) × ((j : ℕ) → k < j → j < n → digit j q ≢ 2))

-- a half of cube q of n digits: a cube of the same width with a smaller number and fewer untested digits
pub record Half (n q : ℕ) (half : Cube) : Type 0 where
  pub width : half.width ≡ n
  pub lower : half.number < q
  pub fewer : n - cube_literals n half.number < n - cube_literals n q

-- "splitting at the first untested digit, 0 half before 1 half, until none is left"
abbrev pub Splits : ℕ → ℕ → Split → Type 0
Splits n q (Code c) = (c < 2 ^ n) × (codes_of n q ≡ c ∷ [])
Splits n q (Halves low high) = Half n q low × Half n q high × (codes_of n q ≡ codes_of n low.number ++ codes_of n high.number)

-- Cells: "the codes that a cube matches, ascending, into a byte buffer; the answer is their count. [..] Refuses 1, 8, then 4 below 2^n bytes."
-- What it lists is `codes_of`. Assumes nothing.
use Rattle.std.specs.Prelude.{ℕ, ◌^◌, [], ◌∷◌}
use Rattle.cube.specs.Calls.{bad_width, bad_cube, short, when, first_of}

-- the number that Cells refuses with, or 0, for a buffer of this many bytes
abbrev pub cells_refuses : ℕ → ℕ → ℕ → ℕ
cells_refuses n q places = first_of (when (bad_width n) 1 ∷ when (bad_cube n q) 8 ∷ when (short places (2 ^ n)) 4 ∷ [])

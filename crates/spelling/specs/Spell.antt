-- Spell: "width and cube number give value and care. Refuses 1, then 8." Assumes nothing.
use Rattle.std.specs.Prelude.{ℕ, [], ◌∷◌}
use Rattle.cube.specs.Words.{Row, row_of}
use Rattle.cube.specs.Calls.{bad_width, bad_cube, when, first_of, Answer, answered}

-- the number that Spell refuses with, or 0
abbrev pub spell_refuses : ℕ → ℕ → ℕ
spell_refuses n q = first_of (when (bad_width n) 1 ∷ when (bad_cube n q) 8 ∷ [])

-- what Spell answers: "width and cube number give value and care."
abbrev pub spell_of : ℕ → ℕ → Answer Row
spell_of n q = answered (spell_refuses n q) (row_of n q)

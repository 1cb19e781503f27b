-- A set of columns as a word: its bit c tells that the column c is in it. Column c of a chart is code c, so a set of codes is a set of columns.
-- Definitions only. Assumes nothing.
use Rattle.std.specs.Prelude.{Bool, ℕ, ◌/◌, ◌%◌, ◌^◌, eqb}

-- bit b of the word x is set
unfoldable pub has_bit : ℕ → ℕ → Bool
has_bit x b = eqb (x / 2 ^ b % 2) 1

-- a set of columns is a word
abbrev pub ColumnSet : Type 0
ColumnSet = ℕ

-- the column c is in the set x: bit c of x is set
abbrev pub has : ColumnSet → ℕ → Bool
has x c = has_bit x c

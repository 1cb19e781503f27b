-- The columns of a chart row: "a 64-bit word whose bit c tells that wanted code c is matched [..] Free and barred codes are never columns."
-- Assumes nothing.
use Rattle.std.specs.Prelude.{ℕ, ◌^◌, List}
use Rattle.numbers.specs.Below.{word_of}
use Rattle.cube.specs.Words.{column}

-- the word of cube q
abbrev pub columns_of : ℕ → List ℕ → ℕ → ℕ
columns_of n t q = word_of (2 ^ n) (column n t q)

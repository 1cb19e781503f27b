-- Document 02's request "Essentials from the neighbours" in its own words: "For a wanted code, keep the bits whose flipping gives a barred code. The cube of
-- those bits [..]". Document 002 calls that cube the vicinity of the code. The width is open. Assumes nothing.
use Rattle.std.specs.Prelude.{ℕ, ◌^◌, List}
use Rattle.std.specs.Int.Bits.{bit_xor}
use Rattle.numbers.specs.Below.{word_of}
use Rattle.cube.specs.Words.{off_set, cube_of}

-- "flipping" bit k of code c, counted from the last, whose k is 0: the neighbour of the code at that bit (002: an adjacent minterm)
abbrev pub neighbour : ℕ → ℕ → ℕ
neighbour k c = bit_xor c (2 ^ k)

-- "keep the bits whose flipping gives a barred code": a one at each of them
unfoldable pub kept_bits : ℕ → List ℕ → ℕ → ℕ
kept_bits n t c = word_of n (λ k. off_set t (neighbour k c))

-- "The cube of those bits": the code's own bits there, all others untested (002: the product of all adjacency literals)
unfoldable pub vicinity : ℕ → List ℕ → ℕ → ℕ
vicinity n t c = cube_of n c (kept_bits n t c)

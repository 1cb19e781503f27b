-- What the iterators over sets have left, and what they give. Definitions only. Assumes nothing.
use Rattle.std.specs.Prelude.{ℕ, ◌-◌, Bool, ◌&&◌, ◌∷◌, Option, leb}
use Rattle.std.specs.Iterator.{Count}
use Rattle.numbers.specs.Ascending.{YieldsBelow, left_count}
use Rattle.matrix.specs.Sets.{RowSet, word_bits, has_bit, member}
use Rattle.matrix.specs.declared.rows.Rows.{Rows}
use Rattle.matrix.specs.declared.words.Bits.{Bits}

-- ---- the bits of a word

abbrev pub bits_end : Bits → ℕ
bits_end s = word_bits

-- the word that is left
abbrev pub bits_word : Bits → ℕ
bits_word s = s.left

abbrev pub bits_left : Bits → ℕ → Bool
bits_left s = has_bit s.left

abbrev pub YieldsBits : Bits → Option ℕ → Bits → Type 0
YieldsBits = YieldsBelow bits_end bits_left

abbrev pub bits_count : Bits → Count
bits_count = left_count bits_end bits_left

-- ---- the rows of a set

abbrev pub rows_end : Rows → ℕ
rows_end s = s.end

-- a row that is left: of the words that are left the first has the rows from `base` on
abbrev pub left_behind : RowSet → ℕ → ℕ → Bool
left_behind words base j = leb base j && member words (j - base)

abbrev pub rows_left : Rows → ℕ → Bool
rows_left s = left_behind (s.word ∷ s.rest.now) s.base

abbrev pub YieldsRows : Rows → Option ℕ → Rows → Type 0
YieldsRows = YieldsBelow rows_end rows_left

abbrev pub rows_count : Rows → Count
rows_count = left_count rows_end rows_left

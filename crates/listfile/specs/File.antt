-- The list file: "Byte 0 width, byte 1 row count, then all values, then all cares." The definitions are for any format of what stands before the values, with
-- the width at byte 0; `one_byte_count` is the one in use. Assumes nothing.
use Rattle.std.specs.Prelude.{ℕ, ◌+◌, ◌*◌, List, [], ◌∷◌, ◌++◌, length, take, drop, get_or}

-- what stands before the values
pub record Format : Type 0 where
  -- how many bytes it has
  pub size : ℕ
  -- these bytes, for a width and a row count
  pub bytes : ℕ → ℕ → List ℕ
  -- the row count that a file gives there
  pub count : List ℕ → ℕ

-- "Byte 0 width, byte 1 row count", and "The values go into the buffer from byte 2"
abbrev pub one_byte_count : Format
one_byte_count = record { size = 2; bytes = λ n rows. n ∷ rows ∷ []; count = λ file. get_or file 1 0 }

-- "2 + 2 × rows", at `one_byte_count`
abbrev pub file_length : Format → ℕ → ℕ
file_length format rows = format.size + 2 * rows

-- the file of a width and two arrays: "then all values, then all cares"
unfoldable pub file_of : Format → ℕ → List ℕ → List ℕ → List ℕ
file_of format n vs ws = format.bytes n (length vs) ++ (vs ++ ws)

-- the width that a file gives: "Byte 0"
abbrev pub width_in : List ℕ → ℕ
width_in file = get_or file 0 0

-- the values in a file, as many as its row count says
abbrev pub values_in : Format → List ℕ → List ℕ
values_in format file = take (format.count file) (drop format.size file)

-- "The cares are taken from the part of the file behind the values."
abbrev pub cares_in : Format → List ℕ → List ℕ
cares_in format file = take (format.count file) (drop (format.size + format.count file) file)

-- Read: "A reader takes a file and two arrays. It answers width and count. [..] Checks: 10, file under 2 bytes or not 2 + 2 × count long, first; then 1,
-- 7, and 4 for an array below count." Assumes nothing.
use Rattle.std.specs.Prelude.{◌≡◌, Bool, ◌||◌, Result, List, [], ◌∷◌, ◌++◌, ℕ, ◌≤◌, length}
use Rattle.cube.specs.Words.{Cover, rows_of}
use Rattle.cube.specs.Calls.{bad_width, short, most_rows, bad_row, bad_file, Condition, when, first_of, Answer, answered, answer_of, written}
use Rattle.cube.specs.declared.Refusal.{Refusal}
use Rattle.listfile.specs.File.{Format, file_length, width_in, values_in, cares_in}
use Rattle.listfile.specs.declared.Header.{Header}

-- the rows in a file
abbrev pub rows_in : Format → List ℕ → Cover
rows_in format file = rows_of (values_in format file) (cares_in format file)

-- "file under 2 bytes or not 2 + 2 × count long"
abbrev pub wrong_length : Format → List ℕ → Bool
wrong_length format file = bad_file (length file) format.size (file_length format (format.count file))

-- what a file is refused for: "10, [..] first; then 1, 7"
abbrev pub file_conditions : Format → List ℕ → List Condition
file_conditions format file = when (wrong_length format file) 10 ∷ when (bad_width (width_in file)) 1 ∷ when (bad_row (width_in file) (rows_in format file)) 7 ∷ []

-- the number that Read refuses with, or 0, for arrays of these lengths
abbrev pub read_refuses : Format → List ℕ → ℕ → ℕ → ℕ
read_refuses format file values cares =
    first_of (file_conditions format file ++ (when (short values (format.count file) || short cares (format.count file)) 4 ∷ []))

-- "It answers width and count.": those that a file gives
abbrev pub width_and_count : Format → List ℕ → Header
width_and_count format file = record { width = width_in file; count = format.count file }

-- what Read answers, for arrays of these lengths
abbrev pub read_of : Format → List ℕ → ℕ → ℕ → Answer Header
read_of format file values cares = answered (read_refuses format file values cares) (width_and_count format file)

-- What Read promises about its answer and the two arrays before and after, refused input included.
pub record Reads (format : Format) (file values cares values' cares' : List ℕ) (r : Result Header Refusal) : Type 0 where
  pub answer : answer_of r ≡ read_of format file (length values) (length cares)
  -- "Site installers receive our files and want the rows."
  pub values_are : values' ≡ written (read_refuses format file (length values) (length cares)) (values_in format file) values
  pub cares_are : cares' ≡ written (read_refuses format file (length values) (length cares)) (cares_in format file) cares
  -- and there are no more of them than a list may have
  pub few : read_refuses format file (length values) (length cares) ≡ 0 → format.count file ≤ most_rows

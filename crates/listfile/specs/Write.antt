-- Write: "the list file from width and two arrays. [..] The answer is 2 + 2 × rows. Refuses 1, 5, 6, 7, then 4 below that length." Assumes nothing.
use Rattle.std.specs.Prelude.{ℕ, Result, List, [], ◌∷◌, ◌++◌, length}
use Rattle.cube.specs.Words.{rows_of}
use Rattle.cube.specs.Calls.{bad_width, short, when, first_of, list_conditions, Listed}
use Rattle.cube.specs.declared.Refusal.{Refusal}
use Rattle.listfile.specs.File.{Format, file_length, file_of}

-- the number that Write refuses with, or 0, for a buffer of this many bytes
abbrev pub write_refuses : Format → ℕ → List ℕ → List ℕ → ℕ → ℕ
write_refuses format n vs ws places =
    first_of (when (bad_width n) 1 ∷ (list_conditions n vs ws ++ (when (short places (file_length format (length (rows_of vs ws)))) 4 ∷ [])))

-- What Write promises about its answer and the lent buffer before and after, refused input included.
abbrev pub Writes : Format → ℕ → (vs ws out out' : List ℕ) → Result ℕ Refusal → Type 0
Writes format n vs ws out out' r = Listed (write_refuses format n vs ws (length out)) (file_of format n vs ws) out out' r

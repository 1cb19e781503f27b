-- What a list is refused for before a row is looked at. Assumes nothing.
use Rattle.std.specs.Prelude.{ℕ, List, [], ◌∷◌, length}
use Rattle.cube.specs.Words.{rows_of}
use Rattle.cube.specs.Calls.{unequal_lengths, too_many_rows, Condition, when}

-- the first two of `list_conditions`: "5, 6"
abbrev pub length_conditions : List ℕ → List ℕ → List Condition
length_conditions vs ws = when (unequal_lengths vs ws) 5 ∷ when (too_many_rows (length (rows_of vs ws))) 6 ∷ []

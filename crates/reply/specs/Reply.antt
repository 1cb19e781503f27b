-- What the program `rows` prints: the output that `text` defines, of a list that Plan may write. Assumes nothing.
use Rattle.std.specs.Prelude.{List, ℕ}
use Rattle.plan.specs.Theorems.{MayWrite}
use Rattle.text.specs.Output.{rows_text, ProgramOutput}

-- the text is the whole output of `rows` for the whole input, however long its run is
abbrev pub RowsFor : List ℕ → List ℕ → Type 0
RowsFor input text = ProgramOutput rows_text MayWrite input text

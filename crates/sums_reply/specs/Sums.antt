-- What the program `sums` prints: "A program with the input and refusals of `rows` prints it on one line" (document 02), the product of sums of a list that
-- the keep-out call may write. Assumes nothing.
use Rattle.std.specs.Prelude.{List, ℕ}
use Rattle.keep_out.specs.KeepOut.{MayKeepOut}
use Rattle.text.specs.Output.{ProgramOutput}
use Rattle.product.specs.Product.{excluding_line}

-- the text is the whole output of `sums` for the whole input, however long its run is
abbrev pub SumsFor : List ℕ → List ℕ → Type 0
SumsFor input text = ProgramOutput excluding_line MayKeepOut input text

-- What is proved of the output beyond what each call prints. `proofs/` proves it. Assumes nothing.
use Rattle.std.specs.Prelude.{◌≡◌, List, ℕ}
use Rattle.text.specs.Characters.{bytes}
use Rattle.reply.specs.Reply.{RowsFor}

-- "Input `4` and `0000000101101111` gives exactly": here nothing is left open, since no other list is as good
abbrev pub GivesExactly : Type 0
GivesExactly = (text : List ℕ) → RowsFor (bytes "4\n0000000101101111\n") text → text ≡ bytes "11--\n1-01\n1-10\n-111\nrows 4 bits 11\n"

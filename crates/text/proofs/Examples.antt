-- A row's line shows the digits of its cube, by the positions of its bits; and the worked examples, which the checker computes.
-- Assumes nothing.
use mathlib.Core.Path.{refl, ap, ap₂, ◌∙◌}
use Prim.Native.Nat.{ℕ}
use native.Mathlib.Omega.{arith}
use Rattle.numbers.specs.Below.{tabulate, some}
use Rattle.cube.specs.Words.{digit_of, cover_literals, ones}
use Rattle.cube.specs.Calls.{bad_cell}
use Rattle.cube.specs.Theorems.{digit_of_variable}
use Rattle.cube.proofs.Positions.{positions}
use Rattle.cube.proofs.Rows.{spells_digit}
use Rattle.text.specs.Characters.{character_of}
use Rattle.text.specs.Input.{read, read_run}
use Rattle.text.specs.Output.{decimal_by, list_lines}
use Rattle.text.specs.Theorems.{ShowsDigits, Examples}

pub shows_digits : (n q : ℕ) → ShowsDigits n q
shows_digits n q k v =
    ap character_of (ap₂ digit_of ((positions n).value q k v) ((positions n).care q k v) ∙ spells_digit (digit_of_variable n k q) (omega arith))

pub examples : Examples
unfolding read read_run bad_cell some tabulate list_lines cover_literals ones decimal_by
examples = record { list = refl; no_end = λ l. refl; two_ends = λ l. refl; blank = λ l. refl; wide = λ l. refl; cells = λ l. refl }

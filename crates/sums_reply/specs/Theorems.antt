-- What is proved of the output beyond what each call prints: what the line says of the table, and document 02's example. `proofs/` proves it.
-- Assumes nothing.
use Rattle.std.specs.Prelude.{◌≡◌, ◌↔◌, Bool, true, false, List, [], ◌∷◌, ◌++◌, ℕ, ◌^◌, ◌<◌, T}
use Rattle.cube.specs.Words.{on_set, off_set}
use Rattle.cube.specs.Calls.{first_of, table_conditions, gives}
use Rattle.text.specs.Characters.{bytes, line_feed}
use Rattle.text.specs.Input.{Table, read}
use Rattle.product.specs.Value.{TextValue}
use Rattle.sums_reply.specs.Sums.{SumsFor}

-- the output is one line, a product of sums that is 1 on every wanted code of the table and 0 on every barred one
pub record SeparatesCodes (n : ℕ) (t output : List ℕ) : Type 0 where
  pub text : List ℕ
  pub line : output ≡ text ++ (line_feed ∷ [])
  pub wanted : (c : ℕ) → c < 2 ^ n → T (on_set t c) → (v : Bool) → TextValue n text c v ↔ (v ≡ true)
  pub barred : (c : ℕ) → c < 2 ^ n → T (off_set t c) → (v : Bool) → TextValue n text c v ↔ (v ≡ false)

-- for every input in form whose table is not refused
abbrev pub SumsSeparate : List ℕ → List ℕ → Type 0
SumsSeparate input output =
    SumsFor input output → (t : Table) → read input ≡ gives t → first_of (table_conditions t.width t.cells) ≡ 0 → SeparatesCodes t.width t.cells output

-- "`2` and `0111` give `(x1+x2)`": here nothing is left open, since no other list is as good
abbrev pub GivesSum : Type 0
GivesSum = (output : List ℕ) → SumsFor (bytes "2\n0111\n") output → output ≡ bytes "(x1+x2)\n"

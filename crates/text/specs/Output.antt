-- What a program prints for a table on its input, whatever way it shows a list; and the way in which `rows` does. Which of several equally good lists
-- is written is left open, so the list is a parameter; the rest is given by the input. Assumes nothing.
use Rattle.std.specs.Prelude.{◌≡◌, ℕ, zero, suc, ◌/◌, ◌%◌, cond, List, [], ◌∷◌, ◌++◌, ltb, length}
use Rattle.numbers.specs.Below.{tabulate}
use Rattle.cube.specs.Words.{Row, Cover, cover_literals, digit_of}
use Rattle.cube.specs.Theorems.{bit_of_variable}
use Rattle.cube.specs.Calls.{first_of, table_conditions, Answer, refuses, gives}
use Rattle.text.specs.Characters.{bytes, line_feed, digit_character, character_of}
use Rattle.text.specs.Input.{Table, read}

-- the decimal digits of x, at most suc k of them: those of x / 10 if there are more than one, and then the last
unfoldable pub decimal_by : ℕ → ℕ → List ℕ
decimal_by zero x = digit_character (x % 10) ∷ []
decimal_by (suc k) x = let high = decimal_by k (x / 10) in cond (ltb x 10) [] high ++ (digit_character (x % 10) ∷ [])

-- x in decimal: x itself bounds the number of its digits
abbrev pub in_decimal : ℕ → List ℕ
in_decimal x = decimal_by x x

-- "`-` for untested": the character of variable xk, from its bits of value and care
abbrev pub character_of_variable : ℕ → Row → ℕ → ℕ
character_of_variable n r k = character_of (digit_of (bit_of_variable n k r.value) (bit_of_variable n k r.care))

-- "one line per row, x1 first", "Every line printed ends in a line feed."
abbrev pub row_line : ℕ → Row → List ℕ
row_line n r = tabulate n 1 (character_of_variable n r) ++ (line_feed ∷ [])

-- "A list prints one line per row"
unfoldable pub list_lines : ℕ → Cover → List ℕ
list_lines n [] = []
list_lines n (r ∷ rs) = row_line n r ++ list_lines n rs

-- "then `rows R bits B`"
abbrev pub totals_line : ℕ → ℕ → List ℕ
totals_line rows bits = bytes "rows " ++ in_decimal rows ++ (bytes " bits " ++ in_decimal bits) ++ (line_feed ∷ [])

-- "prints `refused K`, K its number"
abbrev pub refused : ℕ → List ℕ
refused k = bytes "refused " ++ in_decimal k ++ (line_feed ∷ [])

-- a list with these totals
abbrev pub list_text : ℕ → Cover → ℕ → ℕ → List ℕ
list_text n list rows bits = list_lines n list ++ totals_line rows bits

-- what a program prints for a table: the number that a call whose arrays are long enough refuses it with, or a list, shown in the program's way
abbrev pub table_text : (ℕ → Cover → List ℕ) → ℕ → ℕ → Cover → List ℕ
table_text shown zero n list = shown n list
table_text shown (suc k) n list = refused (suc k)

-- "Other text prints `refused 9` [..]; otherwise a refusal by Plan prints `refused K`": what is printed for what a text says
abbrev pub printed : (ℕ → Cover → List ℕ) → Answer Table → Cover → List ℕ
printed shown (refuses k) list = refused k
printed shown (gives t) list = table_text shown (first_of (table_conditions t.width t.cells)) t.width list

-- the whole output for the whole input, of a program that shows lists in this way, where this list is written
abbrev pub output_by : (ℕ → Cover → List ℕ) → List ℕ → Cover → List ℕ
output_by shown input list = printed shown (read input) list

-- `rows` shows a list by its lines and its two counts
abbrev pub rows_text : ℕ → Cover → List ℕ
rows_text n list = list_text n list (length list) (cover_literals n list)

-- the whole output of `rows` for the whole input, where Plan writes this list
abbrev pub output_of : List ℕ → Cover → List ℕ
output_of input list = output_by rows_text input list

-- the text is the whole output for the whole input, however long its run is, of a program that shows lists in this way and may write those of which May
-- is true
pub record ProgramOutput (shown : ℕ → Cover → List ℕ) (May : ℕ → List ℕ → Cover → Type 0) (input text : List ℕ) : Type 0 where
  -- left open: which of several equally good lists it is
  pub list : Cover
  pub is_written : (t : Table) → read input ≡ gives t → first_of (table_conditions t.width t.cells) ≡ 0 → May t.width t.cells list
  pub is_output : text ≡ output_by shown input list

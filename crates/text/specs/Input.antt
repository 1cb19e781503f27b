-- The input of the programs: which texts are in form, and what they say. `InForm` is document 01's sentence, and `read` computes it;
-- `Theorems` ties the two together. Assumes nothing.
use Rattle.std.specs.Prelude.{◌≡◌, ℕ, ◌-◌, ◌<◌, Bool, true, false, cond, ◌&&◌, List, [], ◌∷◌, ◌++◌, map, eqb, leb}
use Prim.Native.Char.{code}
use Rattle.cube.specs.Calls.{bad_cell, Answer, refuses, gives}
use Rattle.text.specs.Characters.{line_feed, digit_character, character_of}

-- "one decimal digit, a line feed, a run, possibly empty, of `0` (barred), `1` (wanted) or `-` (free) with one cell per character from code 0 up,
-- a line feed, end.": the text of a width and cells
abbrev pub text_of : ℕ → List ℕ → List ℕ
text_of n cells = digit_character n ∷ line_feed ∷ map character_of cells ++ (line_feed ∷ [])

-- the input is in form, with this width and these cells
pub record InForm (input : List ℕ) (n : ℕ) (cells : List ℕ) : Type 0 where
  pub digit : n < 10
  pub meant : bad_cell cells ≡ false
  pub text : input ≡ text_of n cells

-- what a text in form says
pub record Table : Type 0 where
  pub width : ℕ
  pub cells : List ℕ

-- "9 text not in form (program only)."
abbrev pub not_in_form : ℕ
not_in_form = 9

-- "one decimal digit"
abbrev pub is_digit : ℕ → Bool
is_digit b = leb (code "0") b && leb b (code "9")

-- the width that a digit says
abbrev pub width_of : ℕ → ℕ
width_of b = b - code "0"

-- "`0` (barred), `1` (wanted) or `-` (free)"; any other byte is 3, which is not a cell
abbrev pub cell_of : ℕ → ℕ
cell_of b = cond (eqb b (code "0")) 0 (cond (eqb b (code "1")) 1 (cond (eqb b (code "-")) 2 3))

-- the byte belongs to a run
abbrev pub is_cell : ℕ → Bool
is_cell b = leb (cell_of b) 2

-- "end"
abbrev pub is_end : List ℕ → Bool
is_end [] = true
is_end (b ∷ bs) = false

-- a cell in front of those that were read
abbrev pub before : ℕ → Answer (List ℕ) → Answer (List ℕ)
before c (refuses k) = refuses k
before c (gives cells) = gives (c ∷ cells)

-- the cells of a run followed by a line feed and the end
unfoldable pub read_run : List ℕ → Answer (List ℕ)
read_run [] = refuses not_in_form
read_run (b ∷ bs) = cond (eqb b line_feed) (cond (is_end bs) (gives []) (refuses not_in_form)) (cond (is_cell b) (before (cell_of b) (read_run bs)) (refuses not_in_form))

-- the cells that were read, as a table of this width
abbrev pub of_width : ℕ → Answer (List ℕ) → Answer Table
of_width n (refuses k) = refuses k
of_width n (gives cells) = gives (record { width = n; cells = cells })

-- the width and the cells of a text in form; any other is refused
unfoldable pub read : List ℕ → Answer Table
read [] = refuses not_in_form
read (d ∷ []) = refuses not_in_form
read (d ∷ b ∷ bs) = cond (is_digit d && eqb b line_feed) (of_width (width_of d) (read_run bs)) (refuses not_in_form)

-- What the functions of `text` promise, step by step: the grammar a byte at a time with the cells that are kept, and room for what is printed; and what the
-- steps to a program's output promise. No promise of a program cites it. Assumes nothing.
use Rattle.std.specs.Prelude.{◌≡◌, ℕ, ◌+◌, ◌-◌, ◌*◌, ◌^◌, ◌≤◌, Bool, cond, Option, None, Some, List, [], ◌∷◌, ◌++◌, eqb, length, take}
use Rattle.numbers.specs.Below.{flag}
use Rattle.cube.specs.Words.{Cover}
use Rattle.cube.specs.Calls.{widest, first_of, table_conditions, Answer, refuses, gives}
use Rattle.text.specs.Characters.{bytes, line_feed}
use Rattle.text.specs.Output.{printed}
use Rattle.text.specs.Input.{Table, not_in_form, is_digit, width_of, is_cell, cell_of}

-- ---- the grammar, a byte at a time

-- one cell more than the widest table has
abbrev pub most_cells : ℕ
most_cells = 2 ^ widest + 1

-- the cells that are kept of a run
abbrev pub keep : List ℕ → List ℕ
keep cells = take most_cells cells

-- the same for what a text says
abbrev pub kept_of : Answer Table → Answer Table
kept_of (refuses k) = refuses k
kept_of (gives t) = gives (record { width = t.width; cells = keep t.cells })

-- what the bytes so far are the beginning of
pub data State : Type 0 where
  -- a text: nothing has been read yet
  at_start : State
  -- a digit, which says this width
  after_digit : ℕ → State
  -- the width, a line feed and a run of which these cells are kept
  in_run : ℕ → List ℕ → State
  -- the same and the last line feed
  at_end : ℕ → List ℕ → State
  -- no text in form
  wrong : State

-- the state after one more byte
abbrev pub stepped : State → ℕ → State
stepped at_start b = cond (is_digit b) (after_digit (width_of b)) wrong
stepped (after_digit n) b = cond (eqb b line_feed) (in_run n []) wrong
stepped (in_run n cells) b = cond (eqb b line_feed) (at_end n cells) (cond (is_cell b) (in_run n (keep (cells ++ (cell_of b ∷ [])))) wrong)
stepped (at_end n cells) b = wrong
stepped wrong b = wrong

-- all bytes of a piece, one after the other
unfoldable pub fed : State → List ℕ → State
fed s [] = s
fed s (b ∷ bs) = fed (stepped s b) bs

-- "end": what was read is a text in form, or is not
abbrev pub closed : State → Answer Table
closed at_start = refuses not_in_form
closed (after_digit n) = refuses not_in_form
closed (in_run n cells) = refuses not_in_form
closed (at_end n cells) = gives (record { width = n; cells = cells })
closed wrong = refuses not_in_form

-- how many cells are kept in a state; at most `most_cells`, where the bytes so far lead to it
abbrev pub cells_kept : State → ℕ
cells_kept at_start = 0
cells_kept (after_digit n) = 0
cells_kept (in_run n cells) = length cells
cells_kept (at_end n cells) = length cells
cells_kept wrong = 0

-- ---- room for what is printed

-- the digits of the largest 64-bit number
abbrev pub most_digits : ℕ
most_digits = 20

-- the variables whose numbers have one digit: x1 to x9
abbrev pub most_variables : ℕ
most_variables = 9

-- the lines of the most rows of a shortest list at the widest width, and the last line
abbrev pub most_output : ℕ
most_output = (widest + 1) * 2 ^ (widest - 1) + (length (bytes "rows  bits ") + 2 * most_digits + 1)

-- the line of a refusal, whose number has at most three digits
abbrev pub most_refusal : ℕ
most_refusal = length (bytes "refused 255\n")

-- a list that can be printed: this many rows of this width
pub record Printable (n rows : ℕ) : Type 0 where
  pub width : n ≤ widest
  pub few : rows ≤ 2 ^ (widest - 1)

-- ---- a digit of a row

-- a tested 0, a tested 1, or 2 where it is not tested
abbrev pub digit_number : Option Bool → ℕ
digit_number None = 2
digit_number (Some tested) = flag tested

-- ---- the steps to the output of a program that shows lists in this way and may show those of which May is true

module _ (shown : ℕ → Cover → List ℕ) (May : ℕ → List ℕ → Cover → Type 0) where
  -- the text shows a list for the table
  pub record ShowsTable (n : ℕ) (t text : List ℕ) : Type 0 where
    pub list : Cover
    pub is_written : May n t list
    pub is_text : text ≡ shown n list

  -- the text is what is printed for what was read, at the end of the input
  pub record PrintsState (state : State) (text : List ℕ) : Type 0 where
    pub list : Cover
    pub is_written : (t : Table) → closed state ≡ gives t → first_of (table_conditions t.width t.cells) ≡ 0 → May t.width t.cells list
    pub is_output : text ≡ printed shown (closed state) list

-- What is proved about the texts, as statements over any input, table, number and list. `proofs/` proves them. Assumes nothing.
use Rattle.std.specs.Prelude.{◌≡◌, ◌↔◌, List, [], ◌∷◌, ◌++◌, ℕ, ◌/◌, ◌%◌, ◌<◌, ◌≤◌}
use Rattle.cube.specs.Words.{Cover, row_of}
use Rattle.cube.specs.Theorems.{digit_of_variable, Variable}
use Rattle.cube.specs.Calls.{refuses, gives}
use Rattle.text.specs.Characters.{bytes, digit_character, character_of}
use Rattle.text.specs.Input.{InForm, not_in_form, read}
use Rattle.text.specs.Output.{in_decimal, character_of_variable, output_of}

-- ---- the input

-- `read` is document 01's sentence: it gives a width and cells exactly where the input is in form with them, and refuses every other text
pub record Grammar (input : List ℕ) : Type 0 where
  pub in_form : (n : ℕ) (cells : List ℕ) → InForm input n cells ↔ (read input ≡ gives (record { width = n; cells = cells }))
  pub other : ((n : ℕ) (cells : List ℕ) → InForm input n cells → ⊥) ↔ (read input ≡ refuses not_in_form)

-- ---- the output

-- a number in decimal is the digits of its tenth and then its last digit
pub record Decimal (x : ℕ) : Type 0 where
  pub low : x < 10 → in_decimal x ≡ digit_character x ∷ []
  pub high : 10 ≤ x → in_decimal x ≡ in_decimal (x / 10) ++ (digit_character (x % 10) ∷ [])

-- the line of the row that spells a cube shows the cube's digits, `-` for 2
abbrev pub ShowsDigits : ℕ → ℕ → Type 0
ShowsDigits n q = (k : ℕ) → Variable n k → character_of_variable n (row_of n q) k ≡ character_of (digit_of_variable n k q)

-- ---- worked examples

-- the rows 11--, 1-01, 1-10 and -111
abbrev pub example_list : Cover
example_list =
    record { value = 12; care = 12 } ∷ record { value = 9; care = 11 } ∷ record { value = 10; care = 11 } ∷ record { value = 7; care = 7 } ∷ []

pub record Examples : Type 0 where
  -- "Input `4` and `0000000101101111` gives exactly"
  pub list : output_of (bytes "4\n0000000101101111\n") example_list ≡ bytes "11--\n1-01\n1-10\n-111\nrows 4 bits 11\n"
  -- whatever Plan would write: no last line feed, a second line feed, a blank; width 7; three cells at width 2
  pub no_end : (list : Cover) → output_of (bytes "4\n0000000101101111") list ≡ bytes "refused 9\n"
  pub two_ends : (list : Cover) → output_of (bytes "4\n0000000101101111\n\n") list ≡ bytes "refused 9\n"
  pub blank : (list : Cover) → output_of (bytes "2\n01 1\n") list ≡ bytes "refused 9\n"
  pub wide : (list : Cover) → output_of (bytes "7\n01\n") list ≡ bytes "refused 1\n"
  pub cells : (list : Cover) → output_of (bytes "2\n011\n") list ≡ bytes "refused 2\n"

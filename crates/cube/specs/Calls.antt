-- What the calls share: the numbers of refusals with their conditions, an answer, and what is left in a lent place.
-- The greatest width and the most rows of a list are given here once. Assumes nothing.
use Rattle.std.specs.Prelude.{◌≡◌, ℕ, zero, suc, ◌^◌, Bool, cond, not, ◌||◌, List, [], ◌∷◌, ◌++◌, Result, Ok, Err, eqb, ltb, leb, length, drop}
use Rattle.numbers.specs.Below.{some}
use Rattle.cube.specs.Words.{cell, Cover, all_formed, rows_of}
use Rattle.cube.specs.declared.Refusal.{Refusal}
use Rattle.cube.specs.declared.Refusal.TheVariants.{Width, TableLength, Cell, ShortOutput, UnequalLengths, TooManyRows, UnformedRow, CubeNumber, Text, FileLength}

-- "Width n is 1 to 6."
abbrev pub widest : ℕ
widest = 6

-- "1 width not 1 to 6."
abbrev pub bad_width : ℕ → Bool
bad_width n = ltb n 1 || ltb widest n

-- "2 table not 2^n cells."
abbrev pub bad_length : ℕ → List ℕ → Bool
bad_length n t = not (eqb (length t) (2 ^ n))

-- "3 a cell above 2."
unfoldable pub bad_cell : List ℕ → Bool
bad_cell t = some (length t) (λ c. ltb 2 (cell t c))

-- "4 lent output too short.": fewer places than are needed
abbrev pub short : ℕ → ℕ → Bool
short places needed = ltb places needed

-- "5 arrays of unequal length."
abbrev pub unequal_lengths : List ℕ → List ℕ → Bool
unequal_lengths vs ws = not (eqb (length vs) (length ws))

-- "255 rows pass Check, 256 refuse.": the most rows of a list
abbrev pub most_rows : ℕ
most_rows = 255

-- "6 more than 255 rows."
abbrev pub too_many_rows : ℕ → Bool
too_many_rows rows = ltb most_rows rows

-- "7 a row not formed."
abbrev pub bad_row : ℕ → Cover → Bool
bad_row n rs = not (all_formed n rs)

-- "8 cube number 3^n or more."
abbrev pub bad_cube : ℕ → ℕ → Bool
bad_cube n q = leb (3 ^ n) q

-- "10, file under 2 bytes or not 2 + 2 × count long": the bytes of a file, those that its header takes, and those that it should have
abbrev pub bad_file : ℕ → ℕ → ℕ → Bool
bad_file bytes header needed = ltb bytes header || not (eqb bytes needed)

-- a condition with its number
pub record Condition : Type 0 where
  pub holds : Bool
  pub number : ℕ

-- condition b with number k
abbrev pub when : Bool → ℕ → Condition
when b k = record { holds = b; number = k }

-- "the earlier one wins": the number of the first condition that holds, or 0 where none does
abbrev pub first_of : List Condition → ℕ
first_of [] = 0
first_of (x ∷ xs) = cond x.holds x.number (first_of xs)

-- what every call on a table refuses first: "1, 2, 3"
abbrev pub table_conditions : ℕ → List ℕ → List Condition
table_conditions n t = when (bad_width n) 1 ∷ when (bad_length n t) 2 ∷ when (bad_cell t) 3 ∷ []

-- what a call on a list in two arrays refuses: "5, 6, 7"
abbrev pub list_conditions : ℕ → List ℕ → List ℕ → List Condition
list_conditions n vs ws =
    when (unequal_lengths vs ws) 5 ∷ when (too_many_rows (length (rows_of vs ws))) 6 ∷ when (bad_row n (rows_of vs ws)) 7 ∷ []

-- what a call answers: a refusal's number alone, or its values
pub data Answer (A : Type 0) : Type 0 where
  refuses : ℕ → Answer A
  gives : A → Answer A

-- the answer of a call that refuses with this number, or gives a where the number is 0
abbrev pub answered : {A : Type 0} → ℕ → A → Answer A
answered zero a = gives a
answered (suc k) a = refuses (suc k)

-- "A refusal [..] changes no lent byte, place or chart row. On success, places past the count are unchanged.": a lent list afterwards
abbrev pub written : {A : Type 0} → ℕ → List A → List A → List A
written zero new old = new ++ drop (length new) old
written (suc k) new old = old

-- the paper's number of a refusal
abbrev pub refusal_number : Refusal → ℕ
refusal_number Width = 1
refusal_number TableLength = 2
refusal_number Cell = 3
refusal_number ShortOutput = 4
refusal_number UnequalLengths = 5
refusal_number TooManyRows = 6
refusal_number UnformedRow = 7
refusal_number CubeNumber = 8
refusal_number Text = 9
refusal_number FileLength = 10

-- the number that a call refused with, or 0 where it did not
abbrev pub refusal_of : {A : Type 0} → Result A Refusal → ℕ
refusal_of (Ok a) = 0
refusal_of (Err r) = refusal_number r

-- what a call answers, by the value that it gives or the number that it refused with
abbrev pub answer_of : {A : Type 0} → Result A Refusal → Answer A
answer_of (Ok a) = gives a
answer_of (Err r) = refuses (refusal_number r)

-- What a call that writes a list and answers its length promises about the answer and the lent places, refused input included.
pub record Listed {A : Type 0} (refusal : ℕ) (list old new : List A) (r : Result ℕ Refusal) : Type 0 where
  pub answer : answer_of r ≡ answered refusal (length list)
  pub places : new ≡ written refusal list old

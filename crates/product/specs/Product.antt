-- The product of sums of a list, document 02: "The excluding list is also printed as a product of sums, one sum per row, [..] In it a tested 0 of variable k
-- prints as `xk`, a tested 1 as `xk'`, x1 first, joined by `+` in brackets, also round a single literal; a row without tested bits prints `0`, an empty list
-- `1`. [..] in list order with nothing between sums". The width n is open. Assumes nothing.
use Rattle.std.specs.Prelude.{ℕ, zero, suc, Bool, cond, List, [], ◌∷◌, ◌++◌, map, eqb}
use Rattle.cube.specs.Words.{Row, Cover, digit_of}
use Rattle.cube.specs.Theorems.{bit_of_variable}
use Rattle.text.specs.Characters.{bytes, line_feed}
use Rattle.text.specs.Output.{in_decimal}

-- ---- a product of sums, and its text

-- a variable xk, or its complement
pub record Literal : Type 0 where
  pub variable : ℕ
  pub complemented : Bool

-- the literals that `+` joins, possibly none
abbrev pub Sum : Type 0
Sum = List Literal

-- the sums that stand side by side, possibly none
abbrev pub Product : Type 0
Product = List Sum

-- "`xk` [..] `xk'`"
abbrev pub literal_text : Literal → List ℕ
literal_text l = bytes "x" ++ in_decimal l.variable ++ cond l.complemented (bytes "'") []

-- the literals behind the first, each "joined by `+`"
unfoldable pub joined_text : Sum → List ℕ
joined_text [] = []
joined_text (l ∷ ls) = bytes "+" ++ literal_text l ++ joined_text ls

-- "in brackets, also round a single literal"; none "prints `0`"
abbrev pub sum_text : Sum → List ℕ
sum_text [] = bytes "0"
sum_text (l ∷ ls) = bytes "(" ++ literal_text l ++ joined_text ls ++ bytes ")"

-- "with nothing between sums"
unfoldable pub sums_text : Product → List ℕ
sums_text [] = []
sums_text (s ∷ ss) = sum_text s ++ sums_text ss

-- "an empty list `1`"
abbrev pub product_text : Product → List ℕ
product_text [] = bytes "1"
product_text (s ∷ ss) = sums_text (s ∷ ss)

-- ---- the product of sums of a list

-- "a tested 0 of variable k prints as `xk`, a tested 1 as `xk'`", an untested bit not at all: the literals of a digit of variable xk
abbrev pub literals_of_digit : ℕ → ℕ → Sum
literals_of_digit k d = cond (eqb d 2) [] (record { variable = k; complemented = eqb d 1 } ∷ [])

-- the same from the bits of value and care
abbrev pub literals_of_variable : ℕ → Row → ℕ → Sum
literals_of_variable n r k = literals_of_digit k (digit_of (bit_of_variable n k r.value) (bit_of_variable n k r.care))

-- those of m variables, from xk on
unfoldable pub literals_from : ℕ → Row → ℕ → ℕ → Sum
literals_from n r zero k = []
literals_from n r (suc m) k = literals_of_variable n r k ++ literals_from n r m (suc k)

-- "one sum per row", "x1 first"
abbrev pub row_sum : ℕ → Row → Sum
row_sum n r = literals_from n r n 1

-- "in list order"
abbrev pub product_of : ℕ → Cover → Product
product_of n list = map (row_sum n) list

-- the text of a list
abbrev pub excluding_text : ℕ → Cover → List ℕ
excluding_text n list = product_text (product_of n list)

-- "prints it on one line"
abbrev pub excluding_line : ℕ → Cover → List ℕ
excluding_line n list = excluding_text n list ++ (line_feed ∷ [])

-- What the functions of `product` promise on the way: what is left of the text of a sum, and room for what is printed. No promise of the program cites it.
-- Assumes nothing.
use Rattle.std.specs.Prelude.{Bool, cond, List, [], ◌∷◌, ◌++◌, ℕ, ◌+◌, ◌-◌, ◌*◌, ◌^◌, eqb}
use Prim.Native.Char.{code}
use Rattle.numbers.specs.Below.{flag}
use Rattle.cube.specs.Calls.{widest}
use Rattle.product.specs.Product.{Literal, Sum, literal_text}

-- the literal of a tested bit of variable xk
abbrev pub literal_of : ℕ → Bool → Literal
literal_of k one = record { variable = k; complemented = eqb (flag one) 1 }

-- the last character of a sum, by the character that would be before its next literal: a bracket where it has none
abbrev pub last_character : ℕ → ℕ
last_character before = cond (eqb before (code "(")) (code "0") (code ")")

-- what is left of the text of a sum with these literals left, where this character, a bracket or a plus sign, is before the next one
unfoldable pub rest_text : ℕ → Sum → List ℕ
rest_text before [] = last_character before ∷ []
rest_text before (l ∷ ls) = before ∷ literal_text l ++ rest_text (code "+") ls

-- room for any line of a shortest list at the widest width: a bracket or plus sign, `x`, a digit and `'` for each literal, the last bracket of each sum,
-- and the line feed
abbrev pub most_line : ℕ
most_line = (4 * widest + 1) * 2 ^ (widest - 1) + 1

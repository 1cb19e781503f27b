-- The value of a product of sums under a code, by the rules of Boolean algebra, and the value of a text: that of the product which the text is.
-- `Theorems` says that a text is that of one product only. Assumes nothing.
use Rattle.std.specs.Prelude.{◌≡◌, ℕ, Bool, true, false, cond, not, ◌&&◌, ◌||◌, List, [], ◌∷◌, eqb}
use Rattle.cube.specs.Theorems.{bit_of_variable}
use Rattle.product.specs.Product.{Literal, Sum, Product, product_text}

-- a variable, one of x1 to xn, is its bit in the code, and `'` complements
abbrev pub literal_value : ℕ → ℕ → Literal → Bool
literal_value n c l = cond l.complemented (not (eqb (bit_of_variable n l.variable c) 1)) (eqb (bit_of_variable n l.variable c) 1)

-- `+` is or, and `0`, the sum of no literal, is 0
unfoldable pub sum_value : ℕ → ℕ → Sum → Bool
sum_value n c [] = false
sum_value n c (l ∷ ls) = literal_value n c l || sum_value n c ls

-- sums side by side are and, and `1`, the product of no sum, is 1
unfoldable pub product_value : ℕ → ℕ → Product → Bool
product_value n c [] = true
product_value n c (s ∷ ss) = sum_value n c s && product_value n c ss

-- a text has this value under code c: it is the text of a product of sums that has it
pub record TextValue (n : ℕ) (text : List ℕ) (c : ℕ) (v : Bool) : Type 0 where
  pub product : Product
  pub is_text : text ≡ product_text product
  pub value : product_value n c product ≡ v

-- What is proved of the product of sums of a list, over any width and any list of formed rows. Proved, in this order, by `Reading`, `Meaning` and
-- `Examples` of `proofs/`. Assumes nothing.
use Rattle.std.specs.Prelude.{◌≡◌, ◌↔◌, Bool, true, false, not, [], ◌∷◌, ℕ, T}
use Rattle.cube.specs.Words.{Cover, all_formed, cover_matches}
use Rattle.text.specs.Characters.{bytes}
use Rattle.product.specs.Product.{Product, product_text, excluding_text, excluding_line}
use Rattle.product.specs.Value.{TextValue}

-- a text is read in one way: it determines the product of sums that it is the text of
abbrev pub ReadOneWay : Type 0
ReadOneWay = (p q : Product) → product_text p ≡ product_text q → p ≡ q

-- "which is 1 exactly on the codes that no row matches": the text of a list has one value under each code, 1 where no row matches it and 0 where one does
abbrev pub ExcludesMatched : ℕ → Cover → Type 0
ExcludesMatched n list = T (all_formed n list) → (c : ℕ) (v : Bool) → TextValue n (excluding_text n list) c v ↔ (v ≡ not (cover_matches list c))

-- worked examples
pub record ProductExamples : Type 0 where
  -- "`2` and `0111` give `(x1+x2)`": the list of that table is the row 00
  pub both_zero : excluding_line 2 (record { value = 0; care = 3 } ∷ []) ≡ bytes "(x1+x2)\n"
  -- "a tested 1 as `xk'`", "nothing between sums", "also round a single literal": the rows 1-0 and -1-
  pub two_sums : excluding_line 3 (record { value = 4; care = 5 } ∷ record { value = 2; care = 2 } ∷ []) ≡ bytes "(x1'+x3)(x2')\n"
  -- "a row without tested bits prints `0`, an empty list `1`"
  pub no_bits : excluding_line 2 (record { value = 0; care = 0 } ∷ []) ≡ bytes "0\n"
  pub no_rows : excluding_line 2 [] ≡ bytes "1\n"
  -- (x1+x2) is 0 under 00 and 1 under 01, and (x1'+x2) is 0 under 10
  pub zero : TextValue 2 (bytes "(x1+x2)") 0 false
  pub one : TextValue 2 (bytes "(x1+x2)") 1 true
  pub complement : TextValue 2 (bytes "(x1'+x2)") 2 false

-- The worked examples, which the checker computes. Assumes nothing.
use mathlib.Core.Path.{refl}
use mathlib.Core.Bool.{Bool, true, false}
use mathlib.Core.List.{[], ◌∷◌}
use Rattle.text.specs.Output.{decimal_by}
use Rattle.product.specs.Product.{Literal, joined_text, sums_text, literals_from}
use Rattle.product.specs.Value.{sum_value, product_value}
use Rattle.product.specs.Theorems.{ProductExamples}

abbrev x1 : Bool → Literal
x1 complemented = record { variable = 1; complemented = complemented }

abbrev x2 : Literal
x2 = record { variable = 2; complemented = false }

pub product_examples : ProductExamples
unfolding decimal_by joined_text sums_text literals_from sum_value product_value
product_examples = record {
  both_zero = refl;
  two_sums = refl;
  no_bits = refl;
  no_rows = refl;
  zero = record { product = (x1 false ∷ x2 ∷ []) ∷ []; is_text = refl; value = refl };
  one = record { product = (x1 false ∷ x2 ∷ []) ∷ []; is_text = refl; value = refl };
  complement = record { product = (x1 true ∷ x2 ∷ []) ∷ []; is_text = refl; value = refl };
}

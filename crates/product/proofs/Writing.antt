-- The text of a sum literal by literal and that of a product sum by sum, as the functions write them: what is written and what is left are the whole.
-- Assumes nothing.
use Rattle.std.proofs.Common.{ℕ, zero, suc, ◌+◌, ◌-◌, ◌<◌, ◌≤◌, ◌≡◌, Bool, true, false, Option, Some, None, List, [], ◌∷◌, ◌++◌, length, arith, refl, sym, ap, ap₂, ◌∙◌, append-nil, append_assoc, add-zero, zero-add, suc-add}
use Prim.Native.Char.{code}
use Rattle.std.proofs.lemmas.List.{nil_from_length}
use Rattle.cube.specs.Words.{Row, digit_of, rows_of}
use Rattle.cube.specs.Theorems.{bit_of_variable}
use Rattle.text.specs.Characters.{bytes}
use Rattle.text.specs.Steps.{digit_number}
use Rattle.product.specs.Product.{Sum, Product, literal_text, joined_text, sum_text, sums_text, product_text, product_of, excluding_text, literals_of_digit, literals_of_variable, literals_from}
use Rattle.product.specs.Steps.{literal_of, rest_text}

-- ---- the literals of a row

module _ (n : ℕ) (r : Row) where
  -- those of i variables, and then those of j more
  literals_split : (i j k : ℕ) → literals_from n r (i + j) k ≡ literals_from n r i k ++ literals_from n r j (k + i)
  unfolding literals_from
  literals_split zero j k = ap₂ (literals_from n r) (zero-add j) (sym (add-zero k))
  literals_split (suc i) j k =
      let next : suc k + i ≡ k + suc i = omega arith in
      ap (λ (m : ℕ). literals_from n r m k) (suc-add i j) ∙ ap (λ (ls : Sum). literals_of_variable n r k ++ ls) (literals_split i j (suc k))
      ∙ sym (append_assoc (literals_of_variable n r k) (literals_from n r i (suc k)) (literals_from n r j (suc k + i)))
      ∙ ap (λ (m : ℕ). literals_of_variable n r k ++ literals_from n r i (suc k) ++ literals_from n r j m) next

  pub literals_more : (i k : ℕ) → literals_from n r (i + 1) k ≡ literals_from n r i k ++ literals_of_variable n r (k + i)
  unfolding literals_from
  literals_more i k = literals_split i 1 k ∙ ap (λ (ls : Sum). literals_from n r i k ++ ls) (append-nil (literals_of_variable n r (k + i)))

-- ---- a sum that is not closed yet

joined_rest : (ls : Sum) → rest_text (code "+") ls ≡ joined_text ls ++ bytes ")"
unfolding joined_text rest_text
joined_rest [] = refl
joined_rest (l ∷ ls) =
    ap (λ (t : List ℕ). (code "+" ∷ literal_text l) ++ t) (joined_rest ls) ∙ sym (append_assoc (bytes "+" ++ literal_text l) (joined_text ls) (bytes ")"))

-- at its start all of its text is left
pub all_left : (ls : Sum) → rest_text (code "(") ls ≡ sum_text ls
unfolding rest_text
all_left [] = refl
all_left (l ∷ ls) =
    ap (λ (t : List ℕ). (code "(" ∷ literal_text l) ++ t) (joined_rest ls) ∙ sym (append_assoc (bytes "(" ++ literal_text l) (joined_text ls) (bytes ")"))

-- behind what is written the literals of a row from xk on are left of a whole text, where this character is before the next one
abbrev pub Left : ℕ → Row → List ℕ → ℕ → ℕ → List ℕ → Type 0
Left n r all k before out = (k ≤ n + 1) × (before < 128) × (out ++ rest_text before (literals_from n r (n + 1 - k) k) ≡ all)

-- the variables from xk on are left of a row, and t is the bit that it tests of the first of these
module _ (n : ℕ) (r : Row) (k : ℕ) (l : k ≤ n) (t : Option Bool)
    (e : digit_number t ≡ digit_of (bit_of_variable n k r.value) (bit_of_variable n k r.care)) where
  abbrev left : ℕ → Sum
  left j = literals_from n r (n + 1 - j) j

  more : left k ≡ literals_of_digit k (digit_number t) ++ left (k + 1)
  unfolding literals_from
  more =
      let next : n + 1 - k ≡ suc (n + 1 - (k + 1)) = omega arith in
      let behind : suc k ≡ k + 1 = omega arith in
      ap (λ (m : ℕ). literals_from n r m k) next ∙ ap₂ (λ (d j : ℕ). literals_of_digit k d ++ literals_from n r (n + 1 - (k + 1)) j) (sym e) behind

  pub none_tested : (before : ℕ) → ((c : Bool) → t ≡ Some c → ⊥) → rest_text before (left k) ≡ rest_text before (left (k + 1))
  none_tested before q = ap (rest_text before) (more ∙ ap (λ (t : Option Bool). literals_of_digit k (digit_number t) ++ left (k + 1)) (none t q))
    where
      none : (t : Option Bool) → ((c : Bool) → t ≡ Some c → ⊥) → t ≡ None
      none None q = refl
      none (Some c) q = absurd (q c refl)

  pub one_tested : (before : ℕ) (c : Bool) → t ≡ Some c
      → rest_text before (left k) ≡ (before ∷ literal_text (literal_of k c)) ++ rest_text (code "+") (left (k + 1))
  unfolding rest_text
  one_tested before c q =
      ap (rest_text before) (more ∙ ap (λ (t : Option Bool). literals_of_digit k (digit_number t) ++ left (k + 1)) q ∙ go c)
    where
      go : (c : Bool) → literals_of_digit k (digit_number (Some c)) ++ left (k + 1) ≡ literal_of k c ∷ left (k + 1)
      go true = refl
      go false = refl

-- ---- the text of a list

pub product_text_lem : (p : Product) → 0 < length p → product_text p ≡ sums_text p
product_text_lem [] l = absurd (omega arith)
product_text_lem (s ∷ ss) l = refl

module _ (n : ℕ) where
  pub no_row : (vs ws : List ℕ) → length vs ≡ 0 → excluding_text n (rows_of vs ws) ≡ bytes "1"
  unfolding rows_of
  no_row vs ws e = ap (λ (vs : List ℕ). excluding_text n (rows_of vs ws)) (nil_from_length vs e)

  pub some_row : (vs ws : List ℕ) → (length vs ≡ 0 → ⊥) → length vs ≡ length ws → excluding_text n (rows_of vs ws) ≡ sums_text (product_of n (rows_of vs ws))
  unfolding rows_of
  some_row [] ws e l = absurd (e refl)
  some_row (v ∷ vs) [] e l = absurd (omega arith)
  some_row (v ∷ vs) (w ∷ ws) e l = refl

-- The text of a list is 1 exactly on the codes that no row matches, by De Morgan: a row matches a code where each of its digits fits its bit, and the
-- literal of a digit is 1 exactly where the digit does not fit; so the sum of a row is 1 where the row does not match. Assumes nothing.
use mathlib.Core.Path.{◌≡◌, refl, sym, ap, ap₂, ◌∙◌, subst, subst⁻¹}
use mathlib.Core.Bool.{Bool, true, false, not, ◌&&◌, ◌||◌, or-false, not-not}
use mathlib.Core.List.{[], ◌∷◌, ◌++◌}
use Prim.Native.Nat.{ℕ, zero, suc, ◌+◌, ◌-◌, ◌<◌}
use native.Mathlib.Numerals.{add-one}
use native.Mathlib.Omega.{arith}
use lib.Dec.{T, eqb, T_not}
use Rattle.numbers.specs.Below.{some}
use Rattle.numbers.proofs.Below.{none_at, none_by}
use Rattle.numbers.proofs.Bools.{and_l, and_r, or_exchange, not_or, same}
use Rattle.cube.specs.Words.{Row, Cover, row_matches, formed, each_row, all_formed, cover_matches, fits, digit_of, cube_matches, number_of}
use Rattle.cube.specs.Theorems.{bit_of_variable, digit_of_variable, Variable}
use Rattle.cube.proofs.Positions.{positions}
use Rattle.cube.proofs.Rows.{row_is_cube, row_back, spells_digit}
use Rattle.product.specs.Product.{Sum, literals_of_digit, literals_of_variable, literals_from, row_sum, product_of, excluding_text}
use Rattle.product.specs.Value.{literal_value, sum_value, product_value, TextValue}
use Rattle.product.specs.Theorems.{ExcludesMatched}
use Rattle.product.proofs.Writing.{literals_more}
use Rattle.product.proofs.Reading.{read_one_way}

not_fails : (b : Bool) → (T (not b) → ⊥) → T b
not_fails true h = tt
not_fails false h = h tt

-- ---- a digit

-- b is the bit of the code
zero_fits : (b : ℕ) → b < 2 → (eqb b 1 || false) ≡ not (fits 0 b)
zero_fits zero l = refl
zero_fits (suc zero) l = refl
zero_fits (suc (suc b)) l = absurd (omega arith)

one_fits : (b : ℕ) → b < 2 → (not (eqb b 1) || false) ≡ not (fits 1 b)
one_fits zero l = refl
one_fits (suc zero) l = refl
one_fits (suc (suc b)) l = absurd (omega arith)

digit_value : (n c k d : ℕ) → d < 3 → sum_value n c (literals_of_digit k d) ≡ not (fits d (bit_of_variable n k c))
unfolding sum_value
digit_value n c k zero l = zero_fits (bit_of_variable n k c) (omega arith)
digit_value n c k (suc zero) l = one_fits (bit_of_variable n k c) (omega arith)
digit_value n c k (suc (suc zero)) l = refl
digit_value n c k (suc (suc (suc d))) l = absurd (omega arith)

-- ---- a row

sum-append : (n c : ℕ) (ls ms : Sum) → sum_value n c (ls ++ ms) ≡ (sum_value n c ms || sum_value n c ls)
unfolding sum_value
sum-append n c [] ms = sym (or-false (sum_value n c ms))
sum-append n c (l ∷ ls) ms =
    ap (λ (b : Bool). literal_value n c l || b) (sum-append n c ls ms) ∙ or_exchange (literal_value n c l) (sum_value n c ms) (sum_value n c ls)

module _ (n c : ℕ) (r : Row) where
  -- the literals of variable x(i + 1) are 1
  abbrev is_one : ℕ → Bool
  is_one i = sum_value n c (literals_of_variable n r (1 + i))

  some_one : (m : ℕ) → sum_value n c (literals_from n r m 1) ≡ some m is_one
  unfolding sum_value literals_from some
  some_one zero = refl
  some_one (suc m) =
      ap (λ (k : ℕ). sum_value n c (literals_from n r k 1)) (sym (add-one m)) ∙ ap (sum_value n c) (literals_more n r m 1)
      ∙ sum-append n c (literals_from n r m 1) (literals_of_variable n r (1 + m)) ∙ ap (λ (b : Bool). is_one m || b) (some_one m)

  module _ (f : T (formed n r)) where
    abbrev digit : ℕ → ℕ
    digit k = digit_of_variable n k (number_of n r)

    digit_is : (k : ℕ) → Variable n k → digit_of (bit_of_variable n k r.value) (bit_of_variable n k r.care) ≡ digit k
    digit_is k v =
        ap (λ (r : Row). digit_of (bit_of_variable n k r.value) (bit_of_variable n k r.care)) (sym (row_back n r f))
        ∙ ap₂ digit_of ((positions n).value (number_of n r) k v) ((positions n).care (number_of n r) k v) ∙ spells_digit (digit k) (omega arith)

    -- the literals of a variable are 1 exactly where its digit does not fit
    variable_value : (k : ℕ) → Variable n k → sum_value n c (literals_of_variable n r k) ≡ not (fits (digit k) (bit_of_variable n k c))
    variable_value k v = ap (λ (d : ℕ). sum_value n c (literals_of_digit k d)) (digit_is k v) ∙ digit_value n c k (digit k) (omega arith)

    none_one : T (not (some n is_one)) → T (cube_matches n (number_of n r) c)
    none_one h = ((positions n).matches (number_of n r) c).1 each
      where
        each : (k : ℕ) → Variable n k → T (fits (digit k) (bit_of_variable n k c))
        each k v =
            let before : 1 + (k - 1) ≡ k = omega (arith, v.0) in
            let one = subst⁻¹ (λ (j : ℕ). T (sum_value n c (literals_of_variable n r j))) before in
            not_fails (fits (digit k) (bit_of_variable n k c)) (λ x. none_at n is_one h (k - 1) (omega (arith, v.0, v.1)) (one (subst⁻¹ T (variable_value k v) x)))

    matches_none : T (cube_matches n (number_of n r) c) → T (not (some n is_one))
    matches_none h = none_by n is_one each
      where
        each : (i : ℕ) → i < n → T (is_one i) → ⊥
        each i l x =
            let v : Variable n (1 + i) = (omega arith, omega arith) in
            T_not (fits (digit (1 + i)) (bit_of_variable n (1 + i) c)) (subst T (variable_value (1 + i) v) x) (((positions n).matches (number_of n r) c).0 h (1 + i) v)

    row_value : sum_value n c (row_sum n r) ≡ not (row_matches r c)
    row_value =
        some_one n ∙ sym (not-not (some n is_one))
        ∙ ap not (same (not (some n is_one)) (cube_matches n (number_of n r) c) none_one matches_none ∙ sym (row_is_cube n r f c))

-- ---- a list

list_value : (n c : ℕ) (list : Cover) → T (all_formed n list) → product_value n c (product_of n list) ≡ not (cover_matches list c)
unfolding product_value cover_matches each_row
list_value n c [] h = refl
list_value n c (r ∷ rs) h =
    ap₂ ◌&&◌ (row_value n c r (and_l (formed n r) (all_formed n rs) h)) (list_value n c rs (and_r (formed n r) (all_formed n rs) h))
    ∙ sym (not_or (row_matches r c) (cover_matches rs c))

pub excludes_matched : (n : ℕ) (list : Cover) → ExcludesMatched n list
excludes_matched n list h c v = (of_text, to_text)
  where
    of_text : TextValue n (excluding_text n list) c v → v ≡ not (cover_matches list c)
    of_text t = sym t.value ∙ ap (product_value n c) (sym (read_one_way (product_of n list) t.product t.is_text)) ∙ list_value n c list h

    to_text : v ≡ not (cover_matches list c) → TextValue n (excluding_text n list) c v
    to_text e = record { product = product_of n list; is_text = refl; value = list_value n c list h ∙ sym e }

-- The words by positions: variable xk has weight 2^(n-k) in a code and 3^(n-k) in a cube number. The place of xk counted from the last is n - k,
-- and each recursion of the words goes through the places 0 to n - 1. Assumes nothing.
use mathlib.Core.Path.{◌≡◌, refl, sym, ap, ap₂, ◌∙◌, subst⁻¹}
use mathlib.Core.Bool.{Bool}
use Prim.Native.Nat.{ℕ, zero, suc, ◌+◌, ◌-◌, ◌/◌, ◌%◌, ◌<◌}
use native.Mathlib.Nat.{not-suc-le-zero, le_of_suc-le-suc}
use native.Mathlib.Omega.{arith}
use lib.Dec.{T, eqb}
use lib.ListN.{length}
use Rattle.numbers.specs.Below.{flag, those}
use Rattle.cube.specs.Words.{ones, fits, tested, digit, cube_matches, cube_literals, value_of, care_of}
use Rattle.cube.specs.Theorems.{bit_of_variable, digit_of_variable, Variable, Positions}
use Rattle.numbers.proofs.Below.{count_none, count_suc, those_same, flag_lt}
use Rattle.cube.proofs.Digits.{bit, digit-weight, bit-weight, bit_lt, last_bit, rest_bits, matches_last, matches_rest, matches_by}

-- ---- by places counted from the last

pub places_of : (n q c : ℕ) → T (cube_matches n q c) → (i : ℕ) → i < n → T (fits (digit i q) (bit i c))
unfolding digit bit
places_of zero q c h i l = absurd (not-suc-le-zero l)
places_of (suc n) q c h zero l = matches_last n q c h
places_of (suc n) q c h (suc i) l = places_of n (q / 3) (c / 2) (matches_rest n q c h) i (le_of_suc-le-suc l)

pub of_places : (n q c : ℕ) → ((i : ℕ) → i < n → T (fits (digit i q) (bit i c))) → T (cube_matches n q c)
unfolding digit bit cube_matches
of_places zero q c f = tt
of_places (suc n) q c f = matches_by n q c (f 0 (omega arith)) (of_places n (q / 3) (c / 2) (λ i l. f (suc i) (omega arith)))

pub value_bit : (n q i : ℕ) → i < n → bit i (value_of n q) ≡ flag (eqb (digit i q) 1)
unfolding digit bit value_of
value_bit zero q i l = absurd (not-suc-le-zero l)
value_bit (suc n) q zero l = last_bit (value_of n (q / 3)) (flag (eqb (q % 3) 1)) (flag_lt (eqb (q % 3) 1))
value_bit (suc n) q (suc i) l =
    ap (bit i) (rest_bits (value_of n (q / 3)) (flag (eqb (q % 3) 1)) (flag_lt (eqb (q % 3) 1))) ∙ value_bit n (q / 3) i (le_of_suc-le-suc l)

care_bit : (n q i : ℕ) → i < n → bit i (care_of n q) ≡ flag (tested (digit i q))
unfolding digit bit care_of
care_bit zero q i l = absurd (not-suc-le-zero l)
care_bit (suc n) q zero l = last_bit (care_of n (q / 3)) (flag (tested (q % 3))) (flag_lt (tested (q % 3)))
care_bit (suc n) q (suc i) l =
    ap (bit i) (rest_bits (care_of n (q / 3)) (flag (tested (q % 3))) (flag_lt (tested (q % 3)))) ∙ care_bit n (q / 3) i (le_of_suc-le-suc l)

-- counting the numbers below n + 1 that pass: 0 first, then the others
count_shift : (n : ℕ) (f : ℕ → Bool) → length (those (suc n) f) ≡ flag (f 0) + length (those n (λ i. f (suc i)))
count_shift zero f = omega (arith, count_suc f 0, count_none f, count_none (λ i. f (suc i)))
count_shift (suc n) f = omega (arith, count_suc f (suc n), count_shift n f, count_suc (λ i. f (suc i)) n)

pub literals_count : (n q : ℕ) → cube_literals n q ≡ length (those n (λ i. tested (digit i q)))
unfolding cube_literals digit
literals_count zero q = sym (count_none (λ i. tested (digit i q)))
literals_count (suc n) q = omega (arith, literals_count n (q / 3), count_shift n (λ i. tested (digit i q)))

pub one_is : (b : ℕ) → b < 2 → b ≡ flag (eqb b 1)
one_is zero l = refl
one_is (suc zero) l = refl
one_is (suc (suc b)) l = absurd (omega arith)

ones-count : (n w : ℕ) → ones n w ≡ length (those n (λ i. eqb (bit i w) 1))
unfolding ones bit
ones-count zero w = sym (count_none (λ i. eqb (bit i w) 1))
ones-count (suc n) w = omega (arith, ones-count n (w / 2), one_is (w % 2) (bit_lt w), count_shift n (λ i. eqb (bit i w) 1))

-- ---- by variables

module _ (n : ℕ) where
  digit_is : (k q : ℕ) → digit (n - k) q ≡ digit_of_variable n k q
  digit_is k q = digit-weight (n - k) q

  bit_is : (k c : ℕ) → bit (n - k) c ≡ bit_of_variable n k c
  bit_is k c = bit-weight (n - k) c

  place_back : (i : ℕ) → i < n → n - (n - i) ≡ i
  place_back i l = omega arith

  by_variables : (q c : ℕ) → ((k : ℕ) → Variable n k → T (fits (digit_of_variable n k q) (bit_of_variable n k c))) → (i : ℕ) → i < n → T (fits (digit i q) (bit i c))
  by_variables q c f i l =
      subst⁻¹ (λ (j : ℕ). T (fits (digit j q) (bit j c))) (sym (place_back i l))
      (subst⁻¹ T (ap₂ fits (digit_is (n - i) q) (bit_is (n - i) c)) (f (n - i) (omega arith, omega arith)))

  pub positions : Positions n
  positions = record {
    digits = digit-weight;
    matches = λ q c. (
      λ h k v. let e : n - k < n = omega (arith, v.0, v.1) in subst⁻¹ T (sym (ap₂ fits (digit_is k q) (bit_is k c))) (places_of n q c h (n - k) e),
      λ f. of_places n q c (by_variables q c f),
    );
    value = λ q k v.
        let e : n - k < n = omega (arith, v.0, v.1) in
        sym (bit_is k (value_of n q)) ∙ value_bit n q (n - k) e ∙ ap (λ (d : ℕ). flag (eqb d 1)) (digit_is k q);
    care = λ q k v.
        let e : n - k < n = omega (arith, v.0, v.1) in
        sym (bit_is k (care_of n q)) ∙ care_bit n q (n - k) e ∙ ap (λ (d : ℕ). flag (tested d)) (digit_is k q);
    literals = λ q.
        literals_count n q
        ∙ ap length (those_same n (λ i. tested (digit i q)) (λ i. tested (digit_of_variable n (n - i) q)) (λ i l. ap tested (ap (λ (j : ℕ). digit j q) (sym (place_back i l)) ∙ digit_is (n - i) q)));
    ones_in = λ w.
        ones-count n w
        ∙ ap length (those_same n (λ i. eqb (bit i w) 1) (λ i. eqb (bit_of_variable n (n - i) w) 1) (λ i l. ap (λ (b : ℕ). eqb b 1) (ap (λ (j : ℕ). bit j w) (sym (place_back i l)) ∙ bit_is (n - i) w)));
  }

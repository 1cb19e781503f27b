-- Why the cube of the kept bits is essential exactly when it is an implicant, and why every essential prime is such a cube. An implicant that matches a code
-- tests each bit whose flipping gives a barred code, or it would match that code too; so it lies within the vicinity (002, Theorem 1). And where flipping a bit
-- gives a code that is not barred, some prime matches both codes, and an essential prime that alone matches the wanted one is that prime. Assumes nothing.
use mathlib.Core.Path.{◌≡◌, refl, sym, ap, ◌∙◌, subst, subst⁻¹}
use mathlib.Core.Logic.{◌⊎◌, inl, inr, ⊎_elim}
use mathlib.Core.Bool.{Bool, not}
use mathlib.Core.List.{List}
use Prim.Native.Nat.{ℕ, ◌-◌, ◌^◌, ◌<◌}
use native.Mathlib.Omega.{arith}
use lib.Dec.{T, eqb, eqb→eq, T_not, not_T}
use mir.Facts.{yes_eqb}
use Rattle.std.proofs.lemmas.Bool.{cases_eq}
use Rattle.numbers.specs.Below.{flag, word_of}
use Rattle.cube.specs.Words.{on_set, off_set, fits, digit, cube_matches, digit_of, cube_of, implicant, prime, essential}
use Rattle.numbers.proofs.Bools.{is_true, is_false, holds_or_not}
use Rattle.numbers.proofs.Bits.{bit_of}
use Rattle.cube.proofs.Digits.{bit, bit_at_lt, bit-weight, contained, contained_matches, matches_contained, digits_same, bits_same, fits_e, fits_two, fits_same}
use Rattle.cube.proofs.Positions.{places_of, of_places}
use Rattle.cube.proofs.Rows.{cube_lt, cube_digit}
use Rattle.cube.proofs.Implicants.{implicant_at, implicant_by, prime-implicant, prime-within, prime_above}
use Rattle.cube.proofs.Theorems.{meanings, not_barred}
use Rattle.neighbours.specs.Vicinity.{neighbour, kept_bits, vicinity}
use Rattle.neighbours.specs.Theorems.{VicinityDigits, FromWanted}
use Rattle.neighbours.proofs.Flipping.{neighbour_lt, flipped_bit, other_bit}

-- ---- the cube of those bits of code c that pass a test

module _ (n : ℕ) (f : ℕ → Bool) (c : ℕ) where
  abbrev cube_on : ℕ
  cube_on = cube_of n c (word_of n f)

  its_digit : (k : ℕ) → k < n → digit k cube_on ≡ digit_of (bit k c) (flag (f k))
  its_digit k l = cube_digit n c (word_of n f) k l ∙ ap (digit_of (bit k c)) (bit-weight k (word_of n f) ∙ bit_of n f k l)

  kept_digit : (k : ℕ) → k < n → T (f k) → digit k cube_on ≡ bit k c
  kept_digit k l h = its_digit k l ∙ ap (λ (b : Bool). digit_of (bit k c) (flag b)) (is_true (f k) h)

  untested_digit : (k : ℕ) → k < n → (T (f k) → ⊥) → digit k cube_on ≡ 2
  untested_digit k l h = its_digit k l ∙ ap (λ (b : Bool). digit_of (bit k c) (flag b)) (is_false (f k) h)

  -- it matches the codes that have the same bits there, and so the code itself
  on_matches : (x : ℕ) → ((k : ℕ) → k < n → T (f k) → bit k x ≡ bit k c) → T (cube_matches n cube_on x)
  on_matches x g =
      of_places n cube_on x λ k l.
      ⊎_elim (λ h. fits_same (digit k cube_on) (bit k x) (kept_digit k l h ∙ sym (g k l h)))
      (λ h. fits_two (digit k cube_on) (bit k x) (untested_digit k l h)) (holds_or_not (f k))

  on_agrees : (x : ℕ) → T (cube_matches n cube_on x) → (k : ℕ) → k < n → T (f k) → bit k x ≡ bit k c
  on_agrees x m k l h =
      ⊎_elim (λ e. absurd (omega (arith, kept_digit k l h, bit_at_lt k c))) (λ e. sym e ∙ kept_digit k l h)
      (fits_e (digit k cube_on) (bit k x) (places_of n cube_on x m k l))

-- an untested digit does not tell a code from its neighbour
matches_neighbour : (n p k c : ℕ) → digit k p ≡ 2 → T (cube_matches n p c) → T (cube_matches n p (neighbour k c))
matches_neighbour n p k c e m =
    of_places n p (neighbour k c) λ j l.
    ⊎_elim (λ x. fits_two (digit j p) (bit j (neighbour k c)) (ap (λ (i : ℕ). digit i p) x ∙ e))
    (λ ne. subst⁻¹ (λ (b : ℕ). T (fits (digit j p) b)) (other_bit k j c ne) (places_of n p c m j l)) (cases_eq j k)

-- ---- the vicinity of a code

module _ (n : ℕ) (t : List ℕ) (c : ℕ) where
  -- bit k is kept
  abbrev keeps : ℕ → Bool
  keeps k = off_set t (neighbour k c)

  vicinity_lt : vicinity n t c < 3 ^ n
  unfolding vicinity
  vicinity_lt = cube_lt n c (kept_bits n t c)

  vicinity_kept : (k : ℕ) → k < n → T (keeps k) → digit k (vicinity n t c) ≡ bit k c
  unfolding vicinity kept_bits
  vicinity_kept = kept_digit n keeps c

  vicinity_untested : (k : ℕ) → k < n → (T (keeps k) → ⊥) → digit k (vicinity n t c) ≡ 2
  unfolding vicinity kept_bits
  vicinity_untested = untested_digit n keeps c

  vicinity_matches : (x : ℕ) → ((k : ℕ) → k < n → T (keeps k) → bit k x ≡ bit k c) → T (cube_matches n (vicinity n t c) x)
  unfolding vicinity kept_bits
  vicinity_matches = on_matches n keeps c

  pub vicinity_digits : VicinityDigits n t c
  vicinity_digits = record {
    below = vicinity_lt;
    kept = λ k l h. vicinity_kept k l h ∙ bit-weight k c;
    untested = vicinity_untested;
  }

  -- the vicinity matches its code
  own : T (cube_matches n (vicinity n t c) c)
  own = vicinity_matches c (λ k l h. refl)

  module _ (l : c < 2 ^ n) where
    -- an implicant that matches the code tests each kept bit
    tests_kept : (p : ℕ) → T (implicant n t p) → T (cube_matches n p c) → (k : ℕ) → k < n → T (keeps k) → digit k p ≡ bit k c
    tests_kept p i m k h b =
        ⊎_elim (λ e. absurd (implicant_at n t p i (neighbour k c) (neighbour_lt n k c h l) (matches_neighbour n p k c e m) b)) (λ e. e)
        (fits_e (digit k p) (bit k c) (places_of n p c m k h))

    -- so it lies within the vicinity: 002, Theorem 1
    lies_within : (p : ℕ) → T (implicant n t p) → T (cube_matches n p c) → T (contained n p (vicinity n t c))
    lies_within p i m = matches_contained n p (vicinity n t c) λ x b y. vicinity_matches x (agree x y)
      where
        agree : (x : ℕ) → T (cube_matches n p x) → (k : ℕ) → k < n → T (keeps k) → bit k x ≡ bit k c
        agree x y k h b =
            let d : digit k p ≡ bit k c = tests_kept p i m k h b in
            ⊎_elim (λ e. absurd (omega (arith, bit_at_lt k c))) (λ e. sym e ∙ d) (fits_e (digit k p) (bit k x) (places_of n p x y k h))

    -- where it is an implicant, it is the only prime that matches the code, and so it is prime itself: 002, Theorems 2 and 3
    module _ (i : T (implicant n t (vicinity n t c))) where
      only-prime : (p : ℕ) → p < 3 ^ n → T (prime n t p) → T (cube_matches n p c) → p ≡ vicinity n t c
      only-prime p m h y = prime-within n t p (vicinity n t c) m vicinity_lt h i (lies_within p (prime-implicant n t p h) y)

      vicinity-prime : T (prime n t (vicinity n t c))
      vicinity-prime =
          let above = prime_above n t (vicinity n t c) vicinity_lt i in
          subst (λ (p : ℕ). T (prime n t p))
          (only-prime above.cube above.below above.is_prime (contained_matches n (vicinity n t c) above.cube c above.contains own)) above.is_prime

      pub vicinity-essential : T (on_set t c) → T (essential n t (vicinity n t c))
      vicinity-essential w = ((meanings n t).essential_is (vicinity n t c)).1 (vicinity-prime, (c, l, w, own, only-prime))

    -- ---- an essential prime is the vicinity of the code that it alone matches

    -- the cube that matches a code and its neighbour at bit k
    module _ (w : T (on_set t c)) (k : ℕ) (h : k < n) (free : T (keeps k) → ⊥) where
      all_but : ℕ → Bool
      all_but j = not (eqb j k)

      pair : ℕ
      pair = cube_on n all_but c

      differs : (j : ℕ) → T (all_but j) → j ≡ k → ⊥
      unfolding all_but
      differs j d e = T_not (eqb j k) d (yes_eqb e)

      pair_matches : T (cube_matches n pair c)
      unfolding pair
      pair_matches = on_matches n all_but c c (λ j m d. refl)

      pair_matches_neighbour : T (cube_matches n pair (neighbour k c))
      unfolding pair
      pair_matches_neighbour = on_matches n all_but c (neighbour k c) (λ j m d. other_bit k j c (differs j d))

      -- it matches no other code
      pair_alone : (x : ℕ) → x < 2 ^ n → T (cube_matches n pair x) → (x ≡ c) ⊎ (x ≡ neighbour k c)
      unfolding pair all_but
      pair_alone x m y = ⊎_elim (λ e. inl (bits_same n x c m l (alike e))) (λ ne. inr (bits_same n x (neighbour k c) m (neighbour_lt n k c h l) (unlike ne))) (cases_eq (bit k x) (bit k c))
        where
          beside : (j : ℕ) → j < n → (j ≡ k → ⊥) → bit j x ≡ bit j c
          beside j b ne = on_agrees n all_but c x y j b (not_T (eqb j k) (λ d. ne (eqb→eq j k d)))

          alike : bit k x ≡ bit k c → (j : ℕ) → j < n → bit j x ≡ bit j c
          alike e j b = ⊎_elim (λ d. subst⁻¹ (λ (i : ℕ). bit i x ≡ bit i c) d e) (beside j b) (cases_eq j k)

          unlike : (bit k x ≡ bit k c → ⊥) → (j : ℕ) → j < n → bit j x ≡ bit j (neighbour k c)
          unlike ne j b =
              let other : bit k x ≡ 1 - bit k c = omega (arith, bit_at_lt k x, bit_at_lt k c, ne) in
              ⊎_elim (λ d. subst⁻¹ (λ (i : ℕ). bit i x ≡ bit i (neighbour k c)) d (other ∙ sym (flipped_bit k c)))
              (λ d. beside j b d ∙ sym (other_bit k j c d)) (cases_eq j k)

      pair_implicant : T (implicant n t pair)
      pair_implicant =
          implicant_by n t pair λ x m y b.
          ⊎_elim (λ e. not_barred t c w (subst (λ (i : ℕ). T (off_set t i)) e b)) (λ e. free (subst (λ (i : ℕ). T (off_set t i)) e b)) (pair_alone x m y)

      -- a prime that alone matches the code matches the neighbour too, so it does not test bit k
      not_tested : (q : ℕ) → T (cube_matches n q c) → ((p : ℕ) → p < 3 ^ n → T (prime n t p) → T (cube_matches n p c) → p ≡ q) → digit k q ≡ 2
      unfolding pair
      not_tested q m only =
          let above = prime_above n t pair (cube_lt n c _) pair_implicant in
          let is : above.cube ≡ q = only above.cube above.below above.is_prime (contained_matches n pair above.cube c above.contains pair_matches) in
          let both : T (cube_matches n q (neighbour k c)) = subst (λ (p : ℕ). T (cube_matches n p (neighbour k c))) is (contained_matches n pair above.cube (neighbour k c) above.contains pair_matches_neighbour) in
          ⊎_elim (λ e. e)
          (λ e. ⊎_elim (λ d. d) (λ d. absurd (omega (arith, flipped_bit k c, bit_at_lt k c))) (fits_e (digit k q) (bit k (neighbour k c)) (places_of n q (neighbour k c) both k h)))
          (fits_e (digit k q) (bit k c) (places_of n q c m k h))

    sole_is_vicinity : (q : ℕ) → q < 3 ^ n → T (on_set t c) → T (prime n t q) → T (cube_matches n q c)
        → ((p : ℕ) → p < 3 ^ n → T (prime n t p) → T (cube_matches n p c) → p ≡ q) → vicinity n t c ≡ q
    sole_is_vicinity q m w h y only =
        digits_same n (vicinity n t c) q vicinity_lt m λ k b.
        ⊎_elim (λ d. vicinity_kept k b d ∙ sym (tests_kept q (prime-implicant n t q h) y k b d))
        (λ d. vicinity_untested k b d ∙ sym (not_tested w k b d q y only)) (holds_or_not (keeps k))

-- every essential prime is the vicinity of a wanted code
pub from_wanted : (n : ℕ) (t : List ℕ) (q : ℕ) → q < 3 ^ n → T (essential n t q) → FromWanted n t q
from_wanted n t q l h =
    let e = ((meanings n t).essential_is q).0 h in
    let s = e.1 in
    record { code = s.0; below = s.1; wanted = s.2; cube = sole_is_vicinity n t s.0 s.1 q l s.2 e.0 s.3 s.4 }

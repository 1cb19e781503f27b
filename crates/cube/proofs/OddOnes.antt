-- The theorem `Filled` of `specs/Minimum.antt`. A cube with an untested digit matches a code with an even number of ones, so where these are barred an
-- implicant tests every digit and matches one code; each pair of codes has one that is wanted, and no two of them share a row. Assumes nothing.
use mathlib.Core.Path.{◌≡◌, refl, sym, ap, ap₂, ◌∙◌, subst, subst⁻¹}
use mathlib.Core.Logic.{◌⊎◌, inl, inr, ⊎_elim}
use mathlib.Core.Bool.{false, not, ◌&&◌, ◌||◌}
use mathlib.Core.List.{List, [], ◌∷◌}
use Prim.Native.Nat.{ℕ, zero, suc, ◌+◌, ◌-◌, ◌*◌, ◌^◌, ◌/◌, ◌%◌, ◌<◌, ◌≤◌}
use native.Mathlib.Nat.{not-suc-le-zero, le_of_suc-le-suc, pow-suc}
use native.Mathlib.Omega.{arith}
use lib.Dec.{T, ltb, leb, le→leb}
use lib.ListN.{length}
use mir.Facts.{yes_eqb}
use borrow.Author.Tests.{le-ltb}
use Rattle.numbers.proofs.Bools.{and_i, or_r}
use Rattle.numbers.proofs.Below.{every_by, some_none, tabulate_at, tabulate-length}
use Rattle.cube.specs.Words.{cell, on_set, ones, Cover, all_formed, implements, fits, digit, cube_matches, cube_literals, value_of, implicant}
use Rattle.cube.specs.Calls.{bad_cell}
use Rattle.cube.specs.Minimum.{odd_ones, Filled}
use Rattle.cube.proofs.Digits.{three, last_lt, bit_lt, last_bit, rest_bits, code_more, matches_more, fits_two, fits_same, value_lt, value_matches, value_alone}
use Rattle.cube.proofs.Implicants.{implicant_at}
use Rattle.cube.proofs.Independent.{Mark, apart, least_right, apart_from, independent, apart_by, independent_more, bounded}

ones_more : (n c b : ℕ) → b < 2 → ones (suc n) (c * 2 + b) ≡ ones n c + b
unfolding ones
ones_more n c b l = ap₂ (λ (i j : ℕ). ones n i + j) (rest_bits c b l) (last_bit c b l)

-- ---- a cube tests every digit, or matches codes with an even and with an odd number of ones

abbrev TestsAll : ℕ → ℕ → Type 0
TestsAll n q = (k : ℕ) → k < n → digit k q ≡ 2 → ⊥

-- a code of the cube whose number of ones has the remainder b
record Found (n q b : ℕ) : Type 0 where
  code : ℕ
  below : code < 2 ^ n
  matched : T (cube_matches n q code)
  remainder : ones n code % 2 ≡ b

abbrev Both : ℕ → ℕ → Type 0
Both n q = (b : ℕ) → b < 2 → Found n q b

-- a code with one more bit
found_more : (n q d : ℕ) → d < 2 → T (fits (q % 3) d) → (c : ℕ) → c < 2 ^ n → T (cube_matches n (q / 3) c) → Found (suc n) q ((ones n c + d) % 2)
found_more n q d l f c k h = record {
  code = c * 2 + d;
  below = code_more n c d l k;
  matched = subst⁻¹ T (matches_more n q c d l) (and_i (fits (q % 3) d) (cube_matches n (q / 3) c) f h);
  remainder = ap (λ (i : ℕ). i % 2) (ones_more n c d l);
}

all_or_both : (n q : ℕ) → TestsAll n q ⊎ Both n q
unfolding digit
all_or_both zero q = inl (λ k l e. not-suc-le-zero l)
all_or_both (suc n) q = go (three (q % 3) (last_lt q)) (all_or_both n (q / 3))
  where
    -- the last digit is free: its bit makes up the number of ones
    free : q % 3 ≡ 2 → Both (suc n) q
    free e b l =
        let v : ℕ = value_of n (q / 3) in
        let d : ℕ = (ones n v + b) % 2 in
        let same : (ones n v + d) % 2 ≡ b = omega arith in
        subst (Found (suc n) q) same (found_more n q d (bit_lt (ones n v + b)) (fits_two (q % 3) d e) v (value_lt n (q / 3)) (value_matches n (q / 3)))

    -- the last digit is tested: it is up to the others
    fixed : (d : ℕ) → q % 3 ≡ d → d < 2 → TestsAll n (q / 3) ⊎ Both n (q / 3) → TestsAll (suc n) q ⊎ Both (suc n) q
    fixed d e l (inl all) = inl each
      where
        each : (k : ℕ) → k < suc n → digit k q ≡ 2 → ⊥
        each zero m z = omega arith
        each (suc k) m z = all k (le_of_suc-le-suc m) z
    fixed d e l (inr both) = inr λ b m.
        let f = both ((b + d) % 2) (bit_lt (b + d)) in
        let same : (ones n f.code + d) % 2 ≡ b = omega (arith, f.remainder) in
        subst (Found (suc n) q) same (found_more n q d l (fits_same (q % 3) d e) f.code f.below f.matched)

    go : (q % 3 ≡ 0) ⊎ ((q % 3 ≡ 1) ⊎ (q % 3 ≡ 2)) → TestsAll n (q / 3) ⊎ Both n (q / 3) → TestsAll (suc n) q ⊎ Both (suc n) q
    go (inl e) rest = fixed 0 e (omega arith) rest
    go (inr (inl e)) rest = fixed 1 e (omega arith) rest
    go (inr (inr e)) rest = inr (free e)

-- ---- the table

has_cells : (n : ℕ) → length (odd_ones n) ≡ 2 ^ n
has_cells n = tabulate-length _ (2 ^ n) 0

cell_is : (n c : ℕ) → c < 2 ^ n → cell (odd_ones n) c ≡ ones n c % 2
cell_is n c l = tabulate_at (λ c. ones n c % 2) (2 ^ n) c l

no_bad_cell : (n : ℕ) → bad_cell (odd_ones n) ≡ false
unfolding bad_cell
no_bad_cell n = some_none (length (odd_ones n)) (λ c. ltb 2 (cell (odd_ones n) c)) λ c l.
    le-ltb 2 (cell (odd_ones n) c) (omega (arith, cell_is n c (omega (arith, has_cells n)), bit_lt (ones n c)))

-- ---- the wanted code of each pair

module _ (n : ℕ) where
  abbrev t : List ℕ
  t = odd_ones (suc n)

  -- an implicant tests every digit, so it matches one code
  one_code : (q c d : ℕ) → T (implicant (suc n) t q) → c < 2 ^ suc n → d < 2 ^ suc n → T (cube_matches (suc n) q c) → T (cube_matches (suc n) q d) → c ≡ d
  one_code q c d i k l x y =
      ⊎_elim (λ all. value_alone (suc n) q all c k x ∙ sym (value_alone (suc n) q all d l y))
      (λ both. let f = both 0 (omega arith) in absurd (implicant_at (suc n) t q i f.code f.below f.matched (yes_eqb (cell_is (suc n) f.code f.below ∙ f.remainder))))
      (all_or_both (suc n) q)

  wanted_of : ℕ → ℕ
  wanted_of i = i * 2 + (1 - ones n i % 2)

  pair_of : (i : ℕ) → wanted_of i / 2 ≡ i
  unfolding wanted_of
  pair_of i = omega arith

  wanted_below : (i : ℕ) → i < 2 ^ n → wanted_of i < 2 ^ suc n
  unfolding wanted_of
  wanted_below i l = omega (arith, pow-suc 2 n)

  is_wanted : (i : ℕ) → i < 2 ^ n → T (on_set t (wanted_of i))
  unfolding wanted_of
  is_wanted i l = yes_eqb (cell_is (suc n) (wanted_of i) (wanted_below i l) ∙ ap (λ (k : ℕ). k % 2) (ones_more n i (1 - ones n i % 2) (omega arith)) ∙ omega (arith, bit_lt (ones n i)))

  -- the wanted codes of the first pairs
  marks : ℕ → List Mark
  marks zero = []
  marks (suc m) = record { code = wanted_of m; least = 0 } ∷ marks m

  marks_length : (m : ℕ) → length (marks m) ≡ m
  unfolding marks
  marks_length zero = refl
  marks_length (suc m) = ap suc (marks_length m)

  two_apart : (i j : ℕ) → j < i → i < 2 ^ n → T (apart (suc n) t (wanted_of i) (wanted_of j))
  two_apart i j l k = apart_by (suc n) t (wanted_of i) (wanted_of j) λ p x a b.
      let e : wanted_of i ≡ wanted_of j = one_code p (wanted_of i) (wanted_of j) x (wanted_below i k) (wanted_below j (omega arith)) a b in
      let same : i ≡ j = sym (pair_of i) ∙ ap (λ (c : ℕ). c / 2) e ∙ pair_of j in
      omega arith

  all_apart : (i m : ℕ) → m ≤ i → i < 2 ^ n → T (apart_from (suc n) t (wanted_of i) (marks m))
  unfolding apart_from marks
  all_apart i zero l k = tt
  all_apart i (suc m) l k =
      and_i (apart (suc n) t (wanted_of i) (wanted_of m)) (apart_from (suc n) t (wanted_of i) (marks m)) (two_apart i m l k) (all_apart i m (omega arith) k)

  no_least : (i : ℕ) → T (least_right (suc n) t (record { code = wanted_of i; least = 0 }))
  no_least i = every_by (3 ^ suc n) (λ p. not (implicant (suc n) t p && cube_matches (suc n) p (wanted_of i)) || leb 0 (cube_literals (suc n) p)) λ p m.
      or_r (not (implicant (suc n) t p && cube_matches (suc n) p (wanted_of i))) (leb 0 (cube_literals (suc n) p)) (le→leb 0 (cube_literals (suc n) p) (omega arith))

  marks_independent : (m : ℕ) → m ≤ 2 ^ n → T (independent (suc n) t (marks m))
  unfolding independent marks
  marks_independent zero l = tt
  marks_independent (suc m) l =
      independent_more (suc n) t (record { code = wanted_of m; least = 0 }) (marks m) (wanted_below m l) (is_wanted m l) (no_least m) (all_apart m m (omega arith) l)
      (marks_independent m (omega arith))

  each_row_lem : (list : Cover) → T (all_formed (suc n) list) → T (implements (suc n) t list) → 2 ^ n ≤ length list
  each_row_lem list f g = omega (arith, marks_length (2 ^ n), (bounded (suc n) t list g (marks (2 ^ n)) (marks_independent (2 ^ n) (omega arith)) f).0)

pub filled : (n : ℕ) → Filled n
filled n = record { cells = has_cells n; good = no_bad_cell n; rows = at n }
  where
    at : (n : ℕ) → 1 ≤ n → (list : Cover) → T (all_formed n list) → T (implements n (odd_ones n) list) → 2 ^ (n - 1) ≤ length list
    at zero l list f g = absurd (not-suc-le-zero l)
    at (suc n) l list f g = let less : suc n - 1 ≡ n = omega arith in subst⁻¹ (λ (k : ℕ). 2 ^ k ≤ length list) less (each_row_lem n list f g)

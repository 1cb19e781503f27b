-- The codes of a cube, ascending, split at its first untested digit: those of the 0 half come before those of the 1 half, because every code
-- of the 0 half is below the value of the 1 half, its lowest code. So an implicant splits as its codes do, and so does a cube that serves. Assumes nothing.
use mathlib.Core.Path.{◌≡◌, refl, sym, ap, ap₂, ◌∙◌, subst, subst⁻¹}
use mathlib.Core.Logic.{◌⊎◌, inl, inr, ⊎_elim}
use mathlib.Core.Bool.{Bool, true, false, cond, not, ◌&&◌, ◌||◌, and-true, and-false, or_assoc, or_comm, or-false}
use mathlib.Core.List.{List, [], ◌∷◌, ◌++◌}
use Prim.Native.Nat.{ℕ, zero, suc, ◌+◌, ◌*◌, ◌^◌, ◌/◌, ◌%◌, ◌<◌, ◌≤◌}
use native.Mathlib.Nat.{not-suc-le-zero, le_of_suc-le-suc, pow-suc}
use native.Mathlib.Omega.{arith}
use lib.Dec.{T, eqb, lit<}
use lib.ListN.{length}
use Rattle.numbers.specs.Below.{flag, some, those}
use Rattle.cube.specs.Words.{on_set, off_set, fits, tested, digit, cube_matches, cube_literals, value_of, codes_of, implicant, serves}
use Rattle.numbers.proofs.Bools.{and_l, and_r, not_or}
use Rattle.numbers.proofs.Below.{every_fails, those_one, those_split, those-length, flag_lt}
use Rattle.cube.proofs.Digits.{put_digit, last_lt, is_tested, is_untested, matches_last, matches_rest, matches_at, value_at, value_lt, value_matches, value_alone, contained_matches, put_narrower, put_literals, matches_halves, fits_e}

-- the value is the lowest code
value_least : (n q c : ℕ) → T (cube_matches n q c) → value_of n q ≤ c
unfolding value_of
value_least zero q c h = omega arith
value_least (suc n) q c h =
    omega (arith, value_least n (q / 3) (c / 2) (matches_rest n q c h), last (q % 3) (c % 2) (fits_e (q % 3) (c % 2) (matches_last n q c h)))
  where
    below : (d : ℕ) → flag (eqb d 1) ≤ d
    below zero = omega arith
    below (suc zero) = omega arith
    below (suc (suc d)) = omega (arith, flag_lt (eqb (suc (suc d)) 1))

    last : (d b : ℕ) → (d ≡ 2) ⊎ (d ≡ b) → flag (eqb d 1) ≤ b
    last d b (inl e) = subst⁻¹ (λ (i : ℕ). flag (eqb i 1) ≤ b) e (omega arith)
    last d b (inr e) = subst (λ (i : ℕ). flag (eqb d 1) ≤ i) e (below d)

-- every code of the 0 half is below the value of the 1 half
half_below : (n k q c : ℕ) → k < n → ((j : ℕ) → k < j → j < n → digit j q ≡ 2 → ⊥) → c < 2 ^ n
    → T (cube_matches n (put_digit k 0 q) c) → c < value_of n (put_digit k 1 q)
unfolding put_digit digit
half_below zero k q c l a m h = absurd (not-suc-le-zero l)
half_below (suc n) zero q c l a m h =
    let p : 2 ^ suc n ≡ 2 ^ n * 2 = pow-suc 2 n in
    let g : T (fits 0 (c % 2)) × T (cube_matches n (q / 3) (c / 2)) = parts n (q / 3) 0 c (lit< tt) h in
    let x : c / 2 ≡ value_of n (q / 3) = value_alone n (q / 3) (λ j k. a (suc j) (omega arith) (omega arith)) (c / 2) (omega arith) g.1 in
    let y : c % 2 ≡ 0 = ⊎_elim (λ e. absurd (omega arith)) (λ e. omega arith) (fits_e 0 (c % 2) g.0) in
    omega (arith, value_at n (q / 3) 1 (lit< tt))
  where
    parts : (n x d c : ℕ) → d < 3 → T (cube_matches (suc n) (x * 3 + d) c) → T (fits d (c % 2)) × T (cube_matches n x (c / 2))
    parts n x d c l h =
        let m = subst T (matches_at n x d l c) h in
        (and_l (fits d (c % 2)) (cube_matches n x (c / 2)) m, and_r (fits d (c % 2)) (cube_matches n x (c / 2)) m)
half_below (suc n) (suc k) q c l a m h =
    let p : 2 ^ suc n ≡ 2 ^ n * 2 = pow-suc 2 n in
    let i : c / 2 < value_of n (put_digit k 1 (q / 3)) = half_below n k (q / 3) (c / 2) (le_of_suc-le-suc l) (λ j kj jn. a (suc j) (omega arith) (omega arith)) (omega arith)
    (and_r (fits (q % 3) (c % 2)) (cube_matches n (put_digit k 0 (q / 3)) (c / 2)) (subst T (matches_at n (put_digit k 0 (q / 3)) (q % 3) (last_lt q) c) h)) in
    omega (arith, value_at n (put_digit k 1 (q / 3)) (q % 3) (last_lt q))

-- the first untested digit, at place k: the codes of the cube are those of its 0 half and then those of its 1 half
pub codes_split : (n k q : ℕ) → k < n → digit k q ≡ 2 → ((j : ℕ) → k < j → j < n → digit j q ≡ 2 → ⊥)
    → codes_of n q ≡ codes_of n (put_digit k 0 q) ++ codes_of n (put_digit k 1 q)
unfolding codes_of
codes_split n k q l e a =
    those_split (cube_matches n q) (cube_matches n (put_digit k 0 q)) (cube_matches n (put_digit k 1 q)) (value_of n (put_digit k 1 q)) (2 ^ n) (record {
      either = λ c m h. matches_halves n k q c h;
      first = λ c m h. (contained_matches n (put_digit k 0 q) q c (put_narrower n k 0 q l (lit< tt) e) h, half_below n k q c l a m h);
      second = λ c m h. (contained_matches n (put_digit k 1 q) q c (put_narrower n k 1 q l (lit< tt) e) h, value_least n (put_digit k 1 q) c h);
    })

-- no untested digit: the one code is the value
pub codes_one : (n q : ℕ) → ((k : ℕ) → k < n → digit k q ≡ 2 → ⊥) → codes_of n q ≡ value_of n q ∷ []
unfolding codes_of
codes_one n q f = those_one (2 ^ n) (cube_matches n q) (value_of n q) (value_lt n q) (value_matches n q) (value_alone n q f)

pub codes_length : (n q : ℕ) → length (codes_of n q) ≤ 2 ^ n
unfolding codes_of
codes_length n q = those-length (cube_matches n q) (2 ^ n)

-- the number of untested digits falls from a cube to its half
pub untested_falls : (n k d q : ℕ) → k < n → d < 2 → digit k q ≡ 2 → cube_literals n q < cube_literals n (put_digit k d q)
untested_falls n k d q l m e =
    omega (arith, put_literals n k d q l (omega arith), is_untested (digit k q) e, is_tested d (λ x. omega arith))

pub literals_le : (n q : ℕ) → cube_literals n q ≤ n
unfolding cube_literals
literals_le zero q = omega arith
literals_le (suc n) q = omega (arith, literals_le n (q / 3), flag_lt (tested (q % 3)))

-- ---- implicants, and cubes that serve, by their codes

-- a code of the list passes
unfoldable any_of : (ℕ → Bool) → List ℕ → Bool
any_of g [] = false
any_of g (c ∷ cs) = g c || any_of g cs

module _ (g : ℕ → Bool) where
  any_append : (xs ys : List ℕ) → any_of g (xs ++ ys) ≡ (any_of g xs || any_of g ys)
  unfolding any_of
  any_append [] ys = refl
  any_append (x ∷ xs) ys = ap (λ (b : Bool). g x || b) (any_append xs ys) ∙ sym (or_assoc (g x) (any_of g xs) (any_of g ys))

  any_cond : (b : Bool) (m : ℕ) → any_of g (cond b (m ∷ []) []) ≡ (g m && b)
  unfolding any_of
  any_cond true m = or-false (g m) ∙ sym (and-true (g m))
  any_cond false m = sym (and-false (g m))

  any_those : (m : ℕ) (f : ℕ → Bool) → any_of g (those m f) ≡ some m (λ c. g c && f c)
  unfolding those some any_of
  any_those zero f = refl
  any_those (suc m) f =
      any_append (those m f) (cond (f m) (m ∷ []) []) ∙ ap₂ ◌||◌ (any_those m f) (any_cond (f m) m) ∙ or_comm (some m (λ c. g c && f c)) (g m && f m)

  any_codes : (n q : ℕ) → some (2 ^ n) (λ c. g c && cube_matches n q c) ≡ any_of g (codes_of n q)
  unfolding codes_of
  any_codes n q = sym (any_those (2 ^ n) (cube_matches n q))

  any_one : (n q c : ℕ) → codes_of n q ≡ c ∷ [] → any_of g (codes_of n q) ≡ g c
  unfolding any_of
  any_one n q c e = ap (any_of g) e ∙ or-false (g c)

  any_two : (n q a b : ℕ) → codes_of n q ≡ codes_of n a ++ codes_of n b → any_of g (codes_of n q) ≡ (any_of g (codes_of n a) || any_of g (codes_of n b))
  any_two n q a b e = ap (any_of g) e ∙ any_append (codes_of n a) (codes_of n b)

module _ (n : ℕ) (t : List ℕ) where
  implicant_none : (q : ℕ) → implicant n t q ≡ not (any_of (off_set t) (codes_of n q))
  unfolding implicant
  implicant_none q = every_fails (2 ^ n) (cube_matches n q) (off_set t) ∙ ap not (any_codes (off_set t) n q)

  serves_any : (q : ℕ) → serves n t q ≡ any_of (on_set t) (codes_of n q)
  unfolding serves
  serves_any q = any_codes (on_set t) n q

  -- a cube of one code
  module _ (q c : ℕ) (e : codes_of n q ≡ c ∷ []) where
    pub implicant_one : implicant n t q ≡ not (off_set t c)
    implicant_one = implicant_none q ∙ ap not (any_one (off_set t) n q c e)

    pub serves_one : serves n t q ≡ on_set t c
    serves_one = serves_any q ∙ any_one (on_set t) n q c e

  -- a cube of two halves
  module _ (q a b : ℕ) (e : codes_of n q ≡ codes_of n a ++ codes_of n b) where
    pub implicant_two : implicant n t q ≡ (implicant n t a && implicant n t b)
    implicant_two =
        implicant_none q ∙ ap not (any_two (off_set t) n q a b e) ∙ not_or (any_of (off_set t) (codes_of n a)) (any_of (off_set t) (codes_of n b))
        ∙ sym (ap₂ ◌&&◌ (implicant_none a) (implicant_none b))

    pub serves_two : serves n t q ≡ (serves n t a || serves n t b)
    serves_two = serves_any q ∙ any_two (on_set t) n q a b e ∙ sym (ap₂ ◌||◌ (serves_any a) (serves_any b))

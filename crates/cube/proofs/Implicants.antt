-- Implicants and primes: an implicant splits at an untested digit; a prime is an implicant of which no single literal can be given up; and every
-- implicant lies within a prime that tests no more digits. Assumes nothing.
use mathlib.Core.Path.{◌≡◌, refl, sym, ap, subst⁻¹}
use mathlib.Core.Logic.{⊎_elim}
use mathlib.Core.Bool.{Bool, true, false, not, ◌&&◌, ◌||◌}
use mathlib.Core.List.{List}
use Prim.Native.Nat.{ℕ, zero, suc, ◌^◌, ◌<◌}
use native.Mathlib.Omega.{arith}
use lib.Dec.{T, eqb, ltb, eqb→eq, lit<, ltb→lt, lt→ltb, T_not, not_T}
use mir.Facts.{yes_eqb}
use Rattle.std.specs.Bool.{passes}
use Rattle.std.proofs.lemmas.Bool.{cases_lt}
use Rattle.numbers.specs.Below.{some}
use Rattle.cube.specs.Words.{off_set, tested, digit, cube_matches, cube_literals, value_of, within, implicant, wider, prime}
use Rattle.numbers.proofs.Bools.{and_l, and_r, and_i, imp_e, imp_i, nand_e, nand_i, same}
use Rattle.numbers.proofs.Below.{every_at, every_by, some_at, none_at, none_by}
use Rattle.cube.proofs.Digits.{put_digit, contained, contained_matches, matches_contained, contained_refl, contained_trans, contained_same, put_wider, put_literals, put_lt, put_narrower, is_tested, matches_halves, value_lt, value_matches, value_alone, spare}

-- ---- implicants

pub implicant_at : (n : ℕ) (t : List ℕ) (q : ℕ) → T (implicant n t q) → (c : ℕ) → c < 2 ^ n → T (cube_matches n q c) → T (off_set t c) → ⊥
unfolding implicant
implicant_at n t q h c l =
    nand_e (cube_matches n q c) (off_set t c) (every_at (2 ^ n) (λ c. not (cube_matches n q c) || not (off_set t c)) h c l)

pub implicant_by : (n : ℕ) (t : List ℕ) (q : ℕ) → ((c : ℕ) → c < 2 ^ n → T (cube_matches n q c) → T (off_set t c) → ⊥) → T (implicant n t q)
unfolding implicant
implicant_by n t q f =
    every_by (2 ^ n) (λ c. not (cube_matches n q c) || not (off_set t c)) (λ c l. nand_i (cube_matches n q c) (off_set t c) (f c l))

pub implicant_contained : (n : ℕ) (t : List ℕ) (q p : ℕ) → T (contained n q p) → T (implicant n t p) → T (implicant n t q)
implicant_contained n t q p s h = implicant_by n t q (λ c l x. implicant_at n t p h c l (contained_matches n q p c s x))

pub contained_within : (n q p : ℕ) → T (contained n q p) → T (within n q p)
unfolding within
contained_within n q p s =
    every_by (2 ^ n) (λ c. not (cube_matches n q c) || cube_matches n p c) (λ c l. imp_i (cube_matches n q c) (cube_matches n p c) (contained_matches n q p c s))

pub within_at : (n q p : ℕ) → T (within n q p) → (c : ℕ) → c < 2 ^ n → T (cube_matches n q c) → T (cube_matches n p c)
unfolding within
within_at n q p w c l =
    imp_e (cube_matches n q c) (cube_matches n p c) (every_at (2 ^ n) (λ c. not (cube_matches n q c) || cube_matches n p c) w c l)

pub within_contained : (n q p : ℕ) → T (within n q p) → T (contained n q p)
within_contained n q p w = matches_contained n q p (within_at n q p w)

-- an implicant splits at an untested digit
pub implicant_split : (n : ℕ) (t : List ℕ) (k q : ℕ) → k < n → digit k q ≡ 2
    → implicant n t q ≡ (implicant n t (put_digit k 0 q) && implicant n t (put_digit k 1 q))
implicant_split n t k q l e = same (implicant n t q) (implicant n t low && implicant n t high) to from
  where
    low : ℕ
    low = put_digit k 0 q

    high : ℕ
    high = put_digit k 1 q

    to : T (implicant n t q) → T (implicant n t low && implicant n t high)
    to h =
        and_i (implicant n t low) (implicant n t high) (implicant_contained n t low q (put_narrower n k 0 q l (lit< tt) e) h)
        (implicant_contained n t high q (put_narrower n k 1 q l (lit< tt) e) h)

    from : T (implicant n t low && implicant n t high) → T (implicant n t q)
    from h = implicant_by n t q λ c m x.
        ⊎_elim (implicant_at n t low (and_l (implicant n t low) (implicant n t high) h) c m)
        (implicant_at n t high (and_r (implicant n t low) (implicant n t high) h) c m) (matches_halves n k q c x)

-- and a cube with no untested digit is an implicant exactly when its code is not barred
pub implicant_code : (n : ℕ) (t : List ℕ) (q : ℕ) → ((k : ℕ) → k < n → digit k q ≡ 2 → ⊥) → implicant n t q ≡ not (off_set t (value_of n q))
implicant_code n t q f =
    same (implicant n t q) (not (off_set t (value_of n q)))
    (λ h. not_T (off_set t (value_of n q)) (implicant_at n t q h (value_of n q) (value_lt n q) (value_matches n q)))
    (λ h. implicant_by n t q (λ c l x y. T_not (off_set t (value_of n q)) h (subst⁻¹ (λ (i : ℕ). T (off_set t i)) (sym (value_alone n q f c l x)) y)))

-- ---- primes

-- digit k of q is a literal that can be given up: without it the cube is still an implicant
abbrev pub expands : ℕ → List ℕ → ℕ → ℕ → Bool
expands n t q k = tested (digit k q) && implicant n t (put_digit k 2 q)

-- the one-digit test: an implicant of which no literal can be given up
unfoldable pub maximal : ℕ → List ℕ → ℕ → Bool
maximal n t q = implicant n t q && not (some n (expands n t q))

-- what a wider implicant is
module _ (n : ℕ) (t : List ℕ) (q p : ℕ) (h : T (wider n t q p)) where
  rest : T (ltb (cube_literals n p) (cube_literals n q) && within n q p)
  rest = and_r (implicant n t p) (ltb (cube_literals n p) (cube_literals n q) && within n q p) h

  pub wider-implicant : T (implicant n t p)
  wider-implicant = and_l (implicant n t p) (ltb (cube_literals n p) (cube_literals n q) && within n q p) h

  pub wider_fewer : cube_literals n p < cube_literals n q
  wider_fewer = ltb→lt _ _ (and_l (ltb (cube_literals n p) (cube_literals n q)) (within n q p) rest)

  pub wider_contains : T (contained n q p)
  wider_contains = within_contained n q p (and_r (ltb (cube_literals n p) (cube_literals n q)) (within n q p) rest)

module _ (n : ℕ) (t : List ℕ) (q : ℕ) where
  -- giving up a literal makes a wider implicant
  expands_wider : (k : ℕ) → k < n → T (expands n t q k) → T (wider n t q (put_digit k 2 q))
  expands_wider k m h =
      let p : ℕ = put_digit k 2 q in
      let ne : digit k q ≡ 2 → ⊥ = λ e. T_not (eqb (digit k q) 2) (and_l (tested (digit k q)) (implicant n t p) h) (yes_eqb e) in
      and_i (implicant n t p) (ltb (cube_literals n p) (cube_literals n q) && within n q p) (and_r (tested (digit k q)) (implicant n t p) h)
      (and_i (ltb (cube_literals n p) (cube_literals n q)) (within n q p)
      (lt→ltb (cube_literals n p) (cube_literals n q) (omega (arith, put_literals n k 2 q m (lit< tt), is_tested (digit k q) ne)))
      (contained_within n q p (put_wider n k q m)))

  -- and a wider implicant shows a literal to give up
  wider_expands : (p : ℕ) → T (wider n t q p) → (k : ℕ) × (k < n) × T (expands n t q k)
  wider_expands p h =
      let s = spare n q p (wider_contains n t q p h) (wider_fewer n t q p h) in
      let r : ℕ = put_digit s.place 2 q in (
        s.place,
        s.inside,
        and_i (tested (digit s.place q)) (implicant n t r) (not_T (eqb (digit s.place q) 2) (λ e. s.is_literal (eqb→eq _ 2 e)))
            (implicant_contained n t r p s.still (wider-implicant n t q p h)),
      )

  pub prime_is_maximal : q < 3 ^ n → prime n t q ≡ maximal n t q
  unfolding prime maximal
  prime_is_maximal l =
      ap (λ (b : Bool). implicant n t q && b)
      (same (not (some (3 ^ n) (wider n t q))) (not (some n (expands n t q)))
      (λ h. none_by n (expands n t q) (λ k m x. none_at (3 ^ n) (wider n t q) h (put_digit k 2 q) (put_lt n k 2 q m (lit< tt) l) (expands_wider k m x)))
      (λ h. none_by (3 ^ n) (wider n t q) (λ p m x. let e = wider_expands p x in none_at n (expands n t q) h e.0 e.1 e.2)))

pub prime-implicant : (n : ℕ) (t : List ℕ) (q : ℕ) → T (prime n t q) → T (implicant n t q)
unfolding prime
prime-implicant n t q h = and_l (implicant n t q) (not (some (3 ^ n) (wider n t q))) h

-- a prime within an implicant is that implicant
pub prime-within : (n : ℕ) (t : List ℕ) (q p : ℕ) → q < 3 ^ n → p < 3 ^ n → T (prime n t q) → T (implicant n t p) → T (contained n q p) → q ≡ p
unfolding prime
prime-within n t q p l m h i s = ⊎_elim (λ f. absurd (narrower f)) (λ f. contained_same n q p l m s f) (cases_lt (cube_literals n p) (cube_literals n q))
  where
    narrower : cube_literals n p < cube_literals n q → ⊥
    narrower f =
        none_at (3 ^ n) (wider n t q) (and_r (implicant n t q) (not (some (3 ^ n) (wider n t q))) h) p m
        (and_i (implicant n t p) (ltb (cube_literals n p) (cube_literals n q) && within n q p) i
        (and_i (ltb (cube_literals n p) (cube_literals n q)) (within n q p) (lt→ltb (cube_literals n p) (cube_literals n q) f) (contained_within n q p s)))

-- a prime that contains q
pub record PrimeAbove (n : ℕ) (t : List ℕ) (q : ℕ) : Type 0 where
  pub cube : ℕ
  pub below : cube < 3 ^ n
  pub is_prime : T (prime n t cube)
  pub contains : T (contained n q cube)

-- Every implicant lies within a prime: it is prime, or there is a wider implicant, and so on; this ends, since the literals grow fewer.
climb : (n : ℕ) (t : List ℕ) (fuel q : ℕ) → cube_literals n q < fuel → q < 3 ^ n → T (implicant n t q) → PrimeAbove n t q
unfolding prime
climb n t zero q f l h = absurd (omega arith)
climb n t (suc fuel) q f l h = go (some (3 ^ n) (wider n t q)) refl (λ p. climb n t fuel p)
  where
    above : (p : ℕ) → T (wider n t q p) → PrimeAbove n t p → PrimeAbove n t q
    above p w r = record {
      cube = r.cube;
      below = r.below;
      is_prime = r.is_prime;
      contains = contained_trans n q p r.cube (wider_contains n t q p w) r.contains;
    }

    go : (b : Bool) → some (3 ^ n) (wider n t q) ≡ b → ((p : ℕ) → cube_literals n p < fuel → p < 3 ^ n → T (implicant n t p) → PrimeAbove n t p) → PrimeAbove n t q
    go true e ih =
        let w = some_at (3 ^ n) (wider n t q) (passes (some (3 ^ n) (wider n t q)) e) in
        above w.0 w.2 (ih w.0 (omega (arith, wider_fewer n t q w.0 w.2)) w.1 (wider-implicant n t q w.0 w.2))
    go false e ih = record {
      cube = q;
      below = l;
      is_prime = and_i (implicant n t q) (not (some (3 ^ n) (wider n t q))) h (subst⁻¹ (λ (b : Bool). T (not b)) e tt);
      contains = contained_refl n q;
    }

pub prime_above : (n : ℕ) (t : List ℕ) (q : ℕ) → q < 3 ^ n → T (implicant n t q) → PrimeAbove n t q
prime_above n t q l h = climb n t (suc (cube_literals n q)) q (omega arith) l h

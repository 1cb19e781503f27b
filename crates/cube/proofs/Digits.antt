-- The digits of cubes: the last one and the rest, a digit put at a place, and containment digit by digit. A cube is contained in another
-- exactly when the other matches all that it matches; where the other tests fewer digits, some tested digit can be given up on the way.
-- The width is open. Assumes nothing.
use mathlib.Core.Path.{◌≡◌, refl, sym, ap, ap₂, ◌∙◌, subst, subst⁻¹}
use mathlib.Core.Logic.{◌⊎◌, inl, inr, ⊎_elim}
use mathlib.Core.Bool.{Bool, true, not, ◌&&◌}
use Prim.Native.Nat.{ℕ, zero, suc, ◌+◌, ◌*◌, ◌^◌, ◌/◌, ◌%◌, ◌<◌, ◌≤◌}
use native.Mathlib.Nat.{not-suc-le-zero, le_of_suc-le-suc, mod-lt, pow-zero, pow-suc, pow-succ', div-add-mod', div-lt_iff_lt-mul, div-div-eq-div-mul, div-one, mul_assoc}
use native.Mathlib.Omega.{arith}
use lib.Dec.{T, eqb, eqb→eq, eqb_refl, lit<}
use borrow.Author.Tests.{eq-eqb, ne_eqb}
use Rattle.std.proofs.lemmas.Bool.{cases_eq}
use Rattle.numbers.specs.Below.{flag}
use Rattle.cube.specs.Words.{fits, tested, digit, cube_matches, cube_literals, value_of}
use Rattle.numbers.proofs.Below.{flag_lt}
use Rattle.numbers.proofs.Bools.{and_l, and_r, and_i, or_e, or_r}

-- the cube with digit d put at place k, counted from the last
unfoldable pub put_digit : ℕ → ℕ → ℕ → ℕ
put_digit zero d q = q / 3 * 3 + d
put_digit (suc k) d q = put_digit k d (q / 3) * 3 + q % 3

-- cube q is contained in p: each digit of p is 2 or q's
unfoldable pub contained : ℕ → ℕ → ℕ → Bool
contained zero q p = true
contained (suc n) q p = fits (p % 3) (q % 3) && contained n (q / 3) (p / 3)

-- ---- one digit

pub two : (b : ℕ) → b < 2 → (b ≡ 0) ⊎ (b ≡ 1)
two zero l = inl refl
two (suc zero) l = inr refl
two (suc (suc b)) l = absurd (omega arith)

pub three : (d : ℕ) → d < 3 → (d ≡ 0) ⊎ ((d ≡ 1) ⊎ (d ≡ 2))
three zero l = inl refl
three (suc zero) l = inr (inl refl)
three (suc (suc zero)) l = inr (inr refl)
three (suc (suc (suc d))) l = absurd (omega arith)

pub last_lt : (q : ℕ) → q % 3 < 3
last_lt q = mod-lt q (lit< tt)

pub bit_lt : (c : ℕ) → c % 2 < 2
bit_lt c = mod-lt c (lit< tt)

pub is_tested : (d : ℕ) → (d ≡ 2 → ⊥) → flag (tested d) ≡ 1
is_tested d h = ap (λ (b : Bool). flag (not b)) (ne_eqb d 2 h)

pub is_untested : (d : ℕ) → d ≡ 2 → flag (tested d) ≡ 0
is_untested d h = ap (λ (b : Bool). flag (not b)) (eq-eqb d 2 h)

-- a digit fits a bit: it is 2 or the bit
pub fits_e : (d b : ℕ) → T (fits d b) → (d ≡ 2) ⊎ (d ≡ b)
fits_e d b h = ⊎_elim (λ x. inl (eqb→eq d 2 x)) (λ x. inr (eqb→eq d b x)) (or_e (eqb d 2) (eqb d b) h)

pub fits_two : (d b : ℕ) → d ≡ 2 → T (fits d b)
fits_two d b e = subst⁻¹ (λ (i : ℕ). T (fits i b)) e tt

pub fits_same : (d b : ℕ) → d ≡ b → T (fits d b)
fits_same d b e = or_r (eqb d 2) (eqb d b) (subst (λ (i : ℕ). T (eqb d i)) e (eqb_refl d))

-- a digit fits the bit of its value
pub fits_value : (d : ℕ) → d < 3 → T (fits d (flag (eqb d 1)))
fits_value zero l = tt
fits_value (suc zero) l = tt
fits_value (suc (suc zero)) l = tt
fits_value (suc (suc (suc d))) l = absurd (omega arith)

-- e fits every bit that d fits: it is 2 or d
fits-digit : (d e : ℕ) → d < 3 → ((b : ℕ) → b < 2 → T (fits d b) → T (fits e b)) → T (fits e d)
fits-digit d e l f = go (three d l)
  where
    both : (e ≡ 2) ⊎ (e ≡ 0) → (e ≡ 2) ⊎ (e ≡ 1) → T (fits e d)
    both (inl x) y = fits_two e d x
    both (inr x) (inl y) = fits_two e d y
    both (inr x) (inr y) = absurd (omega arith)

    go : (d ≡ 0) ⊎ ((d ≡ 1) ⊎ (d ≡ 2)) → T (fits e d)
    go (inl x) = subst⁻¹ (λ (i : ℕ). T (fits e i)) x (f 0 (lit< tt) (fits_same d 0 x))
    go (inr (inl x)) = subst⁻¹ (λ (i : ℕ). T (fits e i)) x (f 1 (lit< tt) (fits_same d 1 x))
    go (inr (inr x)) = both (fits_e e 0 (f 0 (lit< tt) (fits_two d 0 x))) (fits_e e 1 (f 1 (lit< tt) (fits_two d 1 x)))

-- ---- the last digit and the rest

module _ (x d : ℕ) (l : d < 3) where
  pub last_digit_lem : (x * 3 + d) % 3 ≡ d
  last_digit_lem = omega arith

  pub rest_digits : (x * 3 + d) / 3 ≡ x
  rest_digits = omega arith

module _ (x b : ℕ) (l : b < 2) where
  pub last_bit : (x * 2 + b) % 2 ≡ b
  last_bit = omega arith

  pub rest_bits : (x * 2 + b) / 2 ≡ x
  rest_bits = omega arith

-- a code with one more bit is below twice the bound
pub code_more : (n c b : ℕ) → b < 2 → c < 2 ^ n → c * 2 + b < 2 ^ suc n
code_more n c b l h = subst⁻¹ (λ (m : ℕ). c * 2 + b < m) (pow-suc 2 n) (omega arith)

-- the parts of a match and of a containment
module _ (n q c : ℕ) where
  pub matches_last : T (cube_matches (suc n) q c) → T (fits (q % 3) (c % 2))
  unfolding cube_matches
  matches_last h = and_l (fits (q % 3) (c % 2)) (cube_matches n (q / 3) (c / 2)) h

  pub matches_rest : T (cube_matches (suc n) q c) → T (cube_matches n (q / 3) (c / 2))
  unfolding cube_matches
  matches_rest h = and_r (fits (q % 3) (c % 2)) (cube_matches n (q / 3) (c / 2)) h

  pub matches_by : T (fits (q % 3) (c % 2)) → T (cube_matches n (q / 3) (c / 2)) → T (cube_matches (suc n) q c)
  unfolding cube_matches
  matches_by f h = and_i (fits (q % 3) (c % 2)) (cube_matches n (q / 3) (c / 2)) f h

module _ (n q p : ℕ) where
  contained_last : T (contained (suc n) q p) → T (fits (p % 3) (q % 3))
  unfolding contained
  contained_last h = and_l (fits (p % 3) (q % 3)) (contained n (q / 3) (p / 3)) h

  contained_rest : T (contained (suc n) q p) → T (contained n (q / 3) (p / 3))
  unfolding contained
  contained_rest h = and_r (fits (p % 3) (q % 3)) (contained n (q / 3) (p / 3)) h

  contained_by : T (fits (p % 3) (q % 3)) → T (contained n (q / 3) (p / 3)) → T (contained (suc n) q p)
  unfolding contained
  contained_by f h = and_i (fits (p % 3) (q % 3)) (contained n (q / 3) (p / 3)) f h

-- a cube written as x * 3 + d
module _ (n x d : ℕ) (l : d < 3) where
  pub matches_at : (c : ℕ) → cube_matches (suc n) (x * 3 + d) c ≡ (fits d (c % 2) && cube_matches n x (c / 2))
  unfolding cube_matches
  matches_at c = ap₂ (λ (i j : ℕ). fits i (c % 2) && cube_matches n j (c / 2)) (last_digit_lem x d l) (rest_digits x d l)

  pub literals_at : cube_literals (suc n) (x * 3 + d) ≡ cube_literals n x + flag (tested d)
  unfolding cube_literals
  literals_at = ap₂ (λ (i j : ℕ). cube_literals n j + flag (tested i)) (last_digit_lem x d l) (rest_digits x d l)

  pub value_at : value_of (suc n) (x * 3 + d) ≡ value_of n x * 2 + flag (eqb d 1)
  unfolding value_of
  value_at = ap₂ (λ (i j : ℕ). value_of n j * 2 + flag (eqb i 1)) (last_digit_lem x d l) (rest_digits x d l)

  contained_at_l : (p : ℕ) → contained (suc n) (x * 3 + d) p ≡ (fits (p % 3) d && contained n x (p / 3))
  unfolding contained
  contained_at_l p = ap₂ (λ (i j : ℕ). fits (p % 3) i && contained n j (p / 3)) (last_digit_lem x d l) (rest_digits x d l)

  contained_at_r : (q : ℕ) → contained (suc n) q (x * 3 + d) ≡ (fits d (q % 3) && contained n (q / 3) x)
  unfolding contained
  contained_at_r q = ap₂ (λ (i j : ℕ). fits i (q % 3) && contained n (q / 3) j) (last_digit_lem x d l) (rest_digits x d l)

-- a code written as c * 2 + b
pub matches_more : (n q c b : ℕ) → b < 2 → cube_matches (suc n) q (c * 2 + b) ≡ (fits (q % 3) b && cube_matches n (q / 3) c)
unfolding cube_matches
matches_more n q c b l = ap₂ (λ (x y : ℕ). fits (q % 3) x && cube_matches n (q / 3) y) (last_bit c b l) (rest_bits c b l)

-- ---- the value: the lowest code of a cube

pub value_lt : (n q : ℕ) → value_of n q < 2 ^ n
unfolding value_of
value_lt zero q = lit< tt
value_lt (suc n) q = code_more n (value_of n (q / 3)) (flag (eqb (q % 3) 1)) (flag_lt (eqb (q % 3) 1)) (value_lt n (q / 3))

pub value_matches : (n q : ℕ) → T (cube_matches n q (value_of n q))
unfolding cube_matches value_of
value_matches zero q = tt
value_matches (suc n) q =
    let b : ℕ = flag (eqb (q % 3) 1) in
    subst⁻¹ T (matches_more n q (value_of n (q / 3)) b (flag_lt (eqb (q % 3) 1)))
    (and_i (fits (q % 3) b) (cube_matches n (q / 3) (value_of n (q / 3))) (fits_value (q % 3) (last_lt q)) (value_matches n (q / 3)))

-- a cube with no untested digit matches only its value
pub value_alone : (n q : ℕ) → ((k : ℕ) → k < n → digit k q ≡ 2 → ⊥) → (c : ℕ) → c < 2 ^ n → T (cube_matches n q c) → c ≡ value_of n q
unfolding digit value_of
value_alone zero q f c l h = let e : 2 ^ 0 ≡ 1 = refl in omega arith
value_alone (suc n) q f c l h =
    let e : 2 ^ suc n ≡ 2 ^ n * 2 = pow-suc 2 n in
    let r : c / 2 ≡ value_of n (q / 3) = value_alone n (q / 3) (λ k m. f (suc k) (omega arith)) (c / 2) (omega arith) (matches_rest n q c h) in
    let s : c % 2 ≡ flag (eqb (q % 3) 1) = last (c % 2) (q % 3) (bit_lt c) (λ x. f 0 (omega arith) x) (fits_e (q % 3) (c % 2) (matches_last n q c h)) in
    omega arith
  where
    last : (b d : ℕ) → b < 2 → (d ≡ 2 → ⊥) → (d ≡ 2) ⊎ (d ≡ b) → b ≡ flag (eqb d 1)
    last b d m g (inl x) = absurd (g x)
    last zero d m g (inr x) = subst⁻¹ (λ (i : ℕ). 0 ≡ flag (eqb i 1)) x refl
    last (suc zero) d m g (inr x) = subst⁻¹ (λ (i : ℕ). 1 ≡ flag (eqb i 1)) x refl
    last (suc (suc b)) d m g (inr x) = absurd (omega arith)

-- ---- containment is matching

pub contained_matches : (n q p c : ℕ) → T (contained n q p) → T (cube_matches n q c) → T (cube_matches n p c)
unfolding cube_matches
contained_matches zero q p c s h = tt
contained_matches (suc n) q p c s h =
    matches_by n p c
    (⊎_elim (λ e. fits_two (p % 3) (c % 2) e) (λ e. subst⁻¹ (λ (d : ℕ). T (fits d (c % 2))) e (matches_last n q c h))
    (fits_e (p % 3) (q % 3) (contained_last n q p s)))
    (contained_matches n (q / 3) (p / 3) (c / 2) (contained_rest n q p s) (matches_rest n q c h))

-- p matches all that q matches, with one more variable
module _ (n q p : ℕ) (f : (c : ℕ) → c < 2 ^ suc n → T (cube_matches (suc n) q c) → T (cube_matches (suc n) p c)) where
  one_bit_more : (c b : ℕ) → b < 2 → c < 2 ^ n → T (fits (q % 3) b) → T (cube_matches n (q / 3) c) → T (fits (p % 3) b && cube_matches n (p / 3) c)
  one_bit_more c b l m h k =
      subst T (matches_more n p c b l)
      (f (c * 2 + b) (code_more n c b l m) (subst⁻¹ T (matches_more n q c b l) (and_i (fits (q % 3) b) (cube_matches n (q / 3) c) h k)))

  its_last : T (fits (p % 3) (q % 3))
  its_last = fits-digit (q % 3) (p % 3) (last_lt q) λ b l h.
      and_l (fits (p % 3) b) (cube_matches n (p / 3) (value_of n (q / 3))) (one_bit_more (value_of n (q / 3)) b l (value_lt n (q / 3)) h (value_matches n (q / 3)))

  its_rest : (c : ℕ) → c < 2 ^ n → T (cube_matches n (q / 3) c) → T (cube_matches n (p / 3) c)
  its_rest c l h =
      let b : ℕ = flag (eqb (q % 3) 1) in
      and_r (fits (p % 3) b) (cube_matches n (p / 3) c) (one_bit_more c b (flag_lt (eqb (q % 3) 1)) l (fits_value (q % 3) (last_lt q)) h)

pub matches_contained : (n q p : ℕ) → ((c : ℕ) → c < 2 ^ n → T (cube_matches n q c) → T (cube_matches n p c)) → T (contained n q p)
unfolding contained
matches_contained zero q p f = tt
matches_contained (suc n) q p f = contained_by n q p (its_last n q p f) (matches_contained n (q / 3) (p / 3) (its_rest n q p f))

pub contained_refl : (n q : ℕ) → T (contained n q q)
unfolding contained
contained_refl zero q = tt
contained_refl (suc n) q = contained_by n q q (fits_same (q % 3) (q % 3) refl) (contained_refl n (q / 3))

pub contained_trans : (n q p r : ℕ) → T (contained n q p) → T (contained n p r) → T (contained n q r)
contained_trans n q p r a b = matches_contained n q r (λ c l h. contained_matches n p r c b (contained_matches n q p c a h))

-- a containing cube tests no more digits
pub contained_literals : (n q p : ℕ) → T (contained n q p) → cube_literals n p ≤ cube_literals n q
unfolding cube_literals
contained_literals zero q p h = omega arith
contained_literals (suc n) q p h =
    omega (arith, contained_literals n (q / 3) (p / 3) (contained_rest n q p h), last (p % 3) (q % 3) (fits_e (p % 3) (q % 3) (contained_last n q p h)))
  where
    last : (e d : ℕ) → (e ≡ 2) ⊎ (e ≡ d) → flag (tested e) ≤ flag (tested d)
    last e d (inl x) = omega (arith, is_untested e x)
    last e d (inr x) = omega (arith, ap (λ (i : ℕ). flag (tested i)) x)

-- and one that tests as many is the same
same_step : (n q p : ℕ) → q < 3 ^ suc n → p < 3 ^ suc n → T (contained (suc n) q p) → cube_literals (suc n) q ≤ cube_literals (suc n) p
    → (cube_literals n (q / 3) ≤ cube_literals n (p / 3) → q / 3 ≡ p / 3) → q ≡ p
unfolding cube_literals
same_step n q p l m h f ih = go (fits_e (p % 3) (q % 3) (contained_last n q p h)) (three (q % 3) (last_lt q))
  where
    alike : p % 3 ≡ q % 3 → q ≡ p
    alike x = let r : q / 3 ≡ p / 3 = ih (omega (arith, ap (λ (i : ℕ). flag (tested i)) x)) in omega arith

    dashed : p % 3 ≡ 2 → (q % 3 ≡ 2 → ⊥) → q ≡ p
    dashed x ne =
        absurd (omega (arith, contained_literals n (q / 3) (p / 3) (contained_rest n q p h), is_untested (p % 3) x, is_tested (q % 3) ne))

    go : (p % 3 ≡ 2) ⊎ (p % 3 ≡ q % 3) → (q % 3 ≡ 0) ⊎ ((q % 3 ≡ 1) ⊎ (q % 3 ≡ 2)) → q ≡ p
    go (inr x) d = alike x
    go (inl x) (inl d) = dashed x (λ y. omega arith)
    go (inl x) (inr (inl d)) = dashed x (λ y. omega arith)
    go (inl x) (inr (inr d)) = alike (omega arith)

pub contained_same : (n q p : ℕ) → q < 3 ^ n → p < 3 ^ n → T (contained n q p) → cube_literals n q ≤ cube_literals n p → q ≡ p
contained_same zero q p l m h f = let e : 3 ^ 0 ≡ 1 = refl in omega arith
contained_same (suc n) q p l m h f =
    let e : 3 ^ suc n ≡ 3 ^ n * 3 = pow-suc 3 n in
    same_step n q p l m h f (λ g. contained_same n (q / 3) (p / 3) (omega arith) (omega arith) (contained_rest n q p h) g)

-- ---- a digit put at a place

pub put_lt : (n k d q : ℕ) → k < n → d < 3 → q < 3 ^ n → put_digit k d q < 3 ^ n
unfolding put_digit
put_lt zero k d q l m h = absurd (not-suc-le-zero l)
put_lt (suc n) zero d q l m h = omega (arith, pow-suc 3 n)
put_lt (suc n) (suc k) d q l m h =
    let e : 3 ^ suc n ≡ 3 ^ n * 3 = pow-suc 3 n in
    let g : put_digit k d (q / 3) < 3 ^ n = put_lt n k d (q / 3) (le_of_suc-le-suc l) m (omega arith) in
    omega arith

-- a digit made 2: the cube is contained in what it becomes, which tests one digit fewer
pub put_wider : (n k q : ℕ) → k < n → T (contained n q (put_digit k 2 q))
unfolding put_digit
put_wider zero k q l = absurd (not-suc-le-zero l)
put_wider (suc n) zero q l = subst⁻¹ T (contained_at_r n (q / 3) 2 (lit< tt) q) (contained_refl n (q / 3))
put_wider (suc n) (suc k) q l =
    let x : ℕ = put_digit k 2 (q / 3) in
    subst⁻¹ T (contained_at_r n x (q % 3) (last_lt q) q)
    (and_i (fits (q % 3) (q % 3)) (contained n (q / 3) x) (fits_same (q % 3) (q % 3) refl) (put_wider n k (q / 3) (le_of_suc-le-suc l)))

pub put_literals : (n k d q : ℕ) → k < n → d < 3 → cube_literals n (put_digit k d q) + flag (tested (digit k q)) ≡ cube_literals n q + flag (tested d)
unfolding put_digit digit cube_literals
put_literals zero k d q l m = absurd (not-suc-le-zero l)
put_literals (suc n) zero d q l m = omega (arith, literals_at n (q / 3) d m)
put_literals (suc n) (suc k) d q l m =
    omega (arith, literals_at n (put_digit k d (q / 3)) (q % 3) (last_lt q), put_literals n k d (q / 3) (le_of_suc-le-suc l) m)

-- an untested digit made 0 or 1: what the cube becomes is contained in it, and the two together match what it matches
pub put_narrower : (n k d q : ℕ) → k < n → d < 3 → digit k q ≡ 2 → T (contained n (put_digit k d q) q)
unfolding put_digit digit
put_narrower zero k d q l m e = absurd (not-suc-le-zero l)
put_narrower (suc n) zero d q l m e =
    subst⁻¹ T (contained_at_l n (q / 3) d m q)
    (and_i (fits (q % 3) d) (contained n (q / 3) (q / 3)) (fits_two (q % 3) d e) (contained_refl n (q / 3)))
put_narrower (suc n) (suc k) d q l m e =
    let x : ℕ = put_digit k d (q / 3) in
    subst⁻¹ T (contained_at_l n x (q % 3) (last_lt q) q)
    (and_i (fits (q % 3) (q % 3)) (contained n x (q / 3)) (fits_same (q % 3) (q % 3) refl) (put_narrower n k d (q / 3) (le_of_suc-le-suc l) m e))

pub digit_lt : (k q : ℕ) → digit k q < 3
unfolding digit
digit_lt zero q = last_lt q
digit_lt (suc k) q = digit_lt k (q / 3)

-- the digits afterwards
pub put_digit_lem : (k d q : ℕ) → d < 3 → digit k (put_digit k d q) ≡ d
unfolding put_digit digit
put_digit_lem zero d q m = last_digit_lem (q / 3) d m
put_digit_lem (suc k) d q m = ap (digit k) (rest_digits (put_digit k d (q / 3)) (q % 3) (last_lt q)) ∙ put_digit_lem k d (q / 3) m

pub put_other : (k j d q : ℕ) → d < 3 → (j ≡ k → ⊥) → digit j (put_digit k d q) ≡ digit j q
unfolding put_digit digit
put_other zero zero d q m ne = absurd (ne refl)
put_other zero (suc j) d q m ne = ap (digit j) (rest_digits (q / 3) d m)
put_other (suc k) zero d q m ne = last_digit_lem (put_digit k d (q / 3)) (q % 3) (last_lt q)
put_other (suc k) (suc j) d q m ne =
    ap (digit j) (rest_digits (put_digit k d (q / 3)) (q % 3) (last_lt q)) ∙ put_other k j d (q / 3) m (λ e. ne (ap suc e))

-- numbers with the same digits in base b are the same: d k reads the digit at place k, counted from the last
places_same : (b : ℕ) → 0 < b → (d : ℕ → ℕ → ℕ) → ((x : ℕ) → d 0 x ≡ x % b) → ((k x : ℕ) → d (suc k) x ≡ d k (x / b)) → (n x y : ℕ)
    → x < b ^ n → y < b ^ n → ((k : ℕ) → k < n → d k x ≡ d k y) → x ≡ y
places_same b pos d last rest zero x y l m f = omega (arith, pow-zero b)
places_same b pos d last rest (suc n) x y l m f =
    sym (div-add-mod' x b)
    ∙ ap₂ (λ (i j : ℕ). i * b + j)
    (places_same b pos d last rest n (x / b) (y / b) (below x l) (below y m) (λ k j. sym (rest k x) ∙ f (suc k) (omega arith) ∙ rest k y))
    (sym (last x) ∙ f 0 (omega arith) ∙ last y)
    ∙ div-add-mod' y b
  where
    below : (z : ℕ) → z < b ^ suc n → z / b < b ^ n
    below z h = (div-lt_iff_lt-mul pos).1 (subst (λ (i : ℕ). z < i) (pow-suc b n) h)

-- cubes with the same digits, and codes with the same bits
pub digits_same : (n q p : ℕ) → q < 3 ^ n → p < 3 ^ n → ((k : ℕ) → k < n → digit k q ≡ digit k p) → q ≡ p
unfolding digit
digits_same = places_same 3 (lit< tt) digit (λ q. refl) (λ k q. refl)

-- cubes with the same digits but for the one at place k: each is the other with its own digit put there
pub put_between : (n k q p : ℕ) → k < n → q < 3 ^ n → p < 3 ^ n → ((j : ℕ) → j < n → (j ≡ k → ⊥) → digit j q ≡ digit j p) → q ≡ put_digit k (digit k q) p
put_between n k q p l a b f = digits_same n q (put_digit k (digit k q) p) a (put_lt n k (digit k q) p l (digit_lt k q) b) λ j m.
    ⊎_elim (λ e. subst⁻¹ (λ (i : ℕ). digit i q ≡ digit i (put_digit k (digit k q) p)) e (sym (put_digit_lem k (digit k q) p (digit_lt k q))))
    (λ ne. f j m ne ∙ sym (put_other k j (digit k q) p (digit_lt k q) ne)) (cases_eq j k)

-- the bit of a code at place k, counted from the last
unfoldable pub bit : ℕ → ℕ → ℕ
bit zero c = c % 2
bit (suc k) c = bit k (c / 2)

pub bit_at_lt : (k c : ℕ) → bit k c < 2
unfolding bit
bit_at_lt zero c = bit_lt c
bit_at_lt (suc k) c = bit_at_lt k (c / 2)

pub bits_same : (n c d : ℕ) → c < 2 ^ n → d < 2 ^ n → ((k : ℕ) → k < n → bit k c ≡ bit k d) → c ≡ d
unfolding bit
bits_same = places_same 2 (lit< tt) bit (λ c. refl) (λ k c. refl)

matches_put : (n k d q c : ℕ) → d < 3 → T (fits d (bit k c)) → T (cube_matches n q c) → T (cube_matches n (put_digit k d q) c)
unfolding put_digit bit cube_matches
matches_put zero k d q c m f h = tt
matches_put (suc n) zero d q c m f h =
    subst⁻¹ T (matches_at n (q / 3) d m c) (and_i (fits d (c % 2)) (cube_matches n (q / 3) (c / 2)) f (matches_rest n q c h))
matches_put (suc n) (suc k) d q c m f h =
    let x : ℕ = put_digit k d (q / 3) in
    subst⁻¹ T (matches_at n x (q % 3) (last_lt q) c)
    (and_i (fits (q % 3) (c % 2)) (cube_matches n x (c / 2)) (matches_last n q c h) (matches_put n k d (q / 3) (c / 2) m f (matches_rest n q c h)))

pub matches_halves : (n k q c : ℕ) → T (cube_matches n q c) → T (cube_matches n (put_digit k 0 q) c) ⊎ T (cube_matches n (put_digit k 1 q) c)
matches_halves n k q c h =
    ⊎_elim (λ e. inl (matches_put n k 0 q c (lit< tt) (fits_same 0 (bit k c) (sym e)) h))
    (λ e. inr (matches_put n k 1 q c (lit< tt) (fits_same 1 (bit k c) (sym e)) h)) (two (bit k c) (bit_at_lt k c))

-- ---- a literal to give up: p contains q and tests fewer digits, so some tested digit of q can be made 2 and p still contains the cube

pub record Spare (n q p : ℕ) : Type 0 where
  pub place : ℕ
  pub inside : place < n
  pub is_literal : digit place q ≡ 2 → ⊥
  pub still : T (contained n (put_digit place 2 q) p)

spare_last : (n q p : ℕ) → (q % 3 ≡ 2 → ⊥) → p % 3 ≡ 2 → T (contained n (q / 3) (p / 3)) → Spare (suc n) q p
unfolding digit put_digit
spare_last n q p h e s = record {
  place = 0;
  inside = omega arith;
  is_literal = h;
  still = subst⁻¹ T (contained_at_l n (q / 3) 2 (lit< tt) p) (and_i (fits (p % 3) 2) (contained n (q / 3) (p / 3)) (fits_two (p % 3) 2 e) s);
}

spare_rest : (n q p : ℕ) → T (fits (p % 3) (q % 3)) → Spare n (q / 3) (p / 3) → Spare (suc n) q p
unfolding digit put_digit
spare_rest n q p f g =
    let x : ℕ = put_digit g.place 2 (q / 3) in
    record {
      place = suc g.place;
      inside = omega (arith, g.inside);
      is_literal = g.is_literal;
      still = subst⁻¹ T (contained_at_l n x (q % 3) (last_lt q) p) (and_i (fits (p % 3) (q % 3)) (contained n x (p / 3)) f g.still);
    }

spare_step : (n q p : ℕ) → T (contained (suc n) q p) → cube_literals (suc n) p < cube_literals (suc n) q
    → (cube_literals n (p / 3) < cube_literals n (q / 3) → Spare n (q / 3) (p / 3)) → Spare (suc n) q p
unfolding cube_literals
spare_step n q p s h ih = go (fits_e (p % 3) (q % 3) (contained_last n q p s)) (three (q % 3) (last_lt q))
  where
    alike : p % 3 ≡ q % 3 → Spare (suc n) q p
    alike e = spare_rest n q p (contained_last n q p s) (ih (omega (arith, ap (λ (i : ℕ). flag (tested i)) e)))

    go : (p % 3 ≡ 2) ⊎ (p % 3 ≡ q % 3) → (q % 3 ≡ 0) ⊎ ((q % 3 ≡ 1) ⊎ (q % 3 ≡ 2)) → Spare (suc n) q p
    go (inr e) d = alike e
    go (inl e) (inl d) = spare_last n q p (λ x. omega arith) e (contained_rest n q p s)
    go (inl e) (inr (inl d)) = spare_last n q p (λ x. omega arith) e (contained_rest n q p s)
    go (inl e) (inr (inr d)) = alike (omega arith)

pub spare : (n q p : ℕ) → T (contained n q p) → cube_literals n p < cube_literals n q → Spare n q p
unfolding cube_literals
spare zero q p s h = absurd (not-suc-le-zero h)
spare (suc n) q p s h = spare_step n q p s h (λ l. spare n (q / 3) (p / 3) (contained_rest n q p s) l)

-- ---- digits by weights, as the code reads them

pub digit-weight : (k q : ℕ) → digit k q ≡ q / 3 ^ k % 3
unfolding digit
digit-weight zero q = ap (λ (i : ℕ). i % 3) (sym (div-one q))
digit-weight (suc k) q =
    digit-weight k (q / 3) ∙ ap (λ (i : ℕ). i % 3) (div-div-eq-div-mul q 3 (3 ^ k) ∙ ap (λ (i : ℕ). q / i) (sym (pow-succ' 3 k)))

pub bit-weight : (k c : ℕ) → bit k c ≡ c / 2 ^ k % 2
unfolding bit
bit-weight zero c = ap (λ (i : ℕ). i % 2) (sym (div-one c))
bit-weight (suc k) c =
    bit-weight k (c / 2) ∙ ap (λ (i : ℕ). i % 2) (div-div-eq-div-mul c 2 (2 ^ k) ∙ ap (λ (i : ℕ). c / i) (sym (pow-succ' 2 k)))

pub put_weight : (k d q : ℕ) → put_digit k d q + digit k q * 3 ^ k ≡ q + d * 3 ^ k
unfolding put_digit digit
put_weight zero d q = omega arith
put_weight (suc k) d q = omega (arith, put_weight k d (q / 3), times (digit k (q / 3)), times d)
  where
    times : (a : ℕ) → a * 3 ^ suc k ≡ a * 3 ^ k * 3
    times a = ap (λ (i : ℕ). a * i) (pow-suc 3 k) ∙ sym (mul_assoc a (3 ^ k) 3)

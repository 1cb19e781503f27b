-- Formed rows and cubes correspond one to one, the theorem `OneToOne` of `specs/Theorems.antt`: the cube of a row matches the same codes with as many
-- literals, and the row of a cube is formed and spells that cube. The cube of some bits of a code matches the codes that agree with it there, whether or
-- not the code has ones elsewhere. Each law is proved bit by bit, from the last variable on. Assumes nothing.
use mathlib.Core.Path.{◌≡◌, refl, sym, ap, ap₂, ◌∙◌}
use mathlib.Core.Bool.{Bool, true, false, cond, ◌&&◌, ◌||◌}
use Prim.Native.Nat.{ℕ, zero, suc, ◌+◌, ◌*◌, ◌^◌, ◌/◌, ◌%◌, ◌<◌, ◌≤◌, min}
use native.Mathlib.Nat.{not-suc-le-zero, le_of_suc-le-suc, pow-suc}
use native.Mathlib.Omega.{arith}
use lib.Dec.{T, eqb, ltb, eqb→eq, ltb→lt, lt→ltb, lit<}
use lib.Bits.{bit_and, and_step, and_zero_r}
use mir.Facts.{yes_eqb}
use borrow.Author.Tests.{eq-eqb, ne_eqb}
use Rattle.numbers.specs.Below.{flag}
use Rattle.cube.specs.Words.{Row, row_matches, formed, ones, row_literals, fits, tested, digit, cube_matches, cube_literals, value_of, care_of, row_of, digit_of, cube_of, number_of}
use Rattle.cube.specs.Theorems.{OneToOne}
use Rattle.numbers.proofs.Bools.{and_l, and_r, and_i, same}
use Rattle.cube.proofs.Digits.{bit, last_lt, bit_lt, is_tested, last_digit_lem, rest_digits, last_bit, rest_bits, matches_at, literals_at}
use Rattle.numbers.proofs.Below.{flag_lt}
use Rattle.cube.proofs.Spelling.{care_lt}

digit_of_lt : (v w : ℕ) → v < 2 → digit_of v w < 3
digit_of_lt v w l = go (eqb w 0)
  where
    go : (b : Bool) → cond b 2 v < 3
    go true = lit< tt
    go false = omega arith

pub cube_lt : (n v w : ℕ) → cube_of n v w < 3 ^ n
unfolding cube_of
cube_lt zero v w = lit< tt
cube_lt (suc n) v w = omega (arith, pow-suc 3 n, cube_lt n (v / 2) (w / 2), digit_of_lt (v % 2) (w % 2) (bit_lt v))

-- what formed says
pub record Formed (n v w : ℕ) : Type 0 where
  pub care : w < 2 ^ n
  pub inside : bit_and v w ≡ v

pub formed_means : (n : ℕ) (r : Row) → T (formed n r) → Formed n r.value r.care
unfolding formed
formed_means n r h =
    let below : Bool = ltb r.care (2 ^ n) in
    let kept : Bool = eqb (bit_and r.value r.care) r.value in
    record { care = ltb→lt _ _ (and_l below kept h); inside = eqb→eq _ _ (and_r below kept h) }

module _ (n v w : ℕ) (f : Formed (suc n) v w) where
  formed_rest : Formed n (v / 2) (w / 2)
  formed_rest = record { care = omega (arith, f.care, pow-suc 2 n); inside = omega (arith, and_step v w, f.inside) }

  formed_last : v % 2 ≤ w % 2
  formed_last = omega (arith, and_step v w, f.inside)

-- ---- from a row to its cube

-- the cube of a row with one more variable
module _ (n v w : ℕ) where
  rest_cube : ℕ
  rest_cube = cube_of n (v / 2) (w / 2)

  its_digit : ℕ
  its_digit = digit_of (v % 2) (w % 2)

  cube_matches_lem : (c : ℕ) → cube_matches (suc n) (cube_of (suc n) v w) c ≡ (fits its_digit (c % 2) && cube_matches n rest_cube (c / 2))
  unfolding cube_of rest_cube its_digit
  cube_matches_lem c = matches_at n (cube_of n (v / 2) (w / 2)) (digit_of (v % 2) (w % 2)) (digit_of_lt (v % 2) (w % 2) (bit_lt v)) c

-- the cube of those bits of v where w has a one matches the codes that agree with v there
bit-agrees : (v w c : ℕ) → v < 2 → w < 2 → c < 2 → fits (digit_of v w) c ≡ eqb (min c w) (min v w)
bit-agrees v zero c a b l = sym (eq-eqb (min c 0) (min v 0) (omega arith))
bit-agrees v (suc zero) c a b l =
    let mine : min c 1 ≡ c = omega arith in
    let its : min v 1 ≡ v = omega arith in
    ap (λ (t : Bool). t || eqb v c) (ne_eqb v 2 (λ e. omega arith))
    ∙ same (eqb v c) (eqb c v) (λ h. yes_eqb (sym (eqb→eq v c h))) (λ h. yes_eqb (sym (eqb→eq c v h))) ∙ sym (ap₂ eqb mine its)
bit-agrees v (suc (suc w)) c a b l = absurd (omega arith)

-- two sums of a double and a bit are equal exactly when the parts are
parts_equal : (x y a b : ℕ) → a < 2 → b < 2 → (eqb a b && eqb x y) ≡ eqb (x * 2 + a) (y * 2 + b)
parts_equal x y a b l m = same (eqb a b && eqb x y) (eqb (x * 2 + a) (y * 2 + b)) to from
  where
    to : T (eqb a b && eqb x y) → T (eqb (x * 2 + a) (y * 2 + b))
    to h = yes_eqb (omega (arith, eqb→eq a b (and_l (eqb a b) (eqb x y) h), eqb→eq x y (and_r (eqb a b) (eqb x y) h)))

    from : T (eqb (x * 2 + a) (y * 2 + b)) → T (eqb a b && eqb x y)
    from h =
        let e : x * 2 + a ≡ y * 2 + b = eqb→eq (x * 2 + a) (y * 2 + b) h in
        and_i (eqb a b) (eqb x y) (yes_eqb (omega arith)) (yes_eqb (omega arith))

pub agrees_is_cube : (n v w c : ℕ) → w < 2 ^ n → cube_matches n (cube_of n v w) c ≡ eqb (bit_and c w) (bit_and v w)
unfolding cube_matches rest_cube its_digit
agrees_is_cube zero v w c l =
    let z : w ≡ 0 = omega arith in
    sym (eq-eqb (bit_and c w) (bit_and v w) (ap (bit_and c) z ∙ and_zero_r c ∙ sym (ap (bit_and v) z ∙ and_zero_r v)))
agrees_is_cube (suc n) v w c l =
    cube_matches_lem n v w c
    ∙ ap₂ ◌&&◌ (bit-agrees (v % 2) (w % 2) (c % 2) (bit_lt v) (bit_lt w) (bit_lt c)) (agrees_is_cube n (v / 2) (w / 2) (c / 2) (omega (arith, pow-suc 2 n)))
    ∙ parts_equal (bit_and (c / 2) (w / 2)) (bit_and (v / 2) (w / 2)) (min (c % 2) (w % 2)) (min (v % 2) (w % 2)) (omega (arith, bit_lt c)) (omega (arith, bit_lt v))
    ∙ sym (ap₂ eqb (and_step c w) (and_step v w))

pub row_is_cube : (n : ℕ) (r : Row) → T (formed n r) → (c : ℕ) → row_matches r c ≡ cube_matches n (number_of n r) c
unfolding row_matches
row_is_cube n r f c =
    let m = formed_means n r f in
    ap (eqb (bit_and c r.care)) (sym m.inside) ∙ sym (agrees_is_cube n r.value r.care c m.care)

-- the digit of a bit is tested exactly where care has a one
digit_care : (v w : ℕ) → v < 2 → w < 2 → flag (tested (digit_of v w)) ≡ w
digit_care v zero a b = refl
digit_care v (suc zero) a b = is_tested v (λ e. omega arith)
digit_care v (suc (suc w)) a b = absurd (omega arith)

pub row_literals_lem : (n v w : ℕ) → cube_literals n (cube_of n v w) ≡ ones n w
unfolding cube_literals cube_of ones
row_literals_lem zero v w = refl
row_literals_lem (suc n) v w =
    omega (
      arith,
      literals_at n (cube_of n (v / 2) (w / 2)) (digit_of (v % 2) (w % 2)) (digit_of_lt (v % 2) (w % 2) (bit_lt v)),
      row_literals_lem n (v / 2) (w / 2),
      digit_care (v % 2) (w % 2) (bit_lt v) (bit_lt w),
    )

-- the row of the cube of a formed row is that row
back_value : (v w : ℕ) → v ≤ w → w < 2 → flag (eqb (digit_of v w) 1) ≡ v
back_value zero zero a b = refl
back_value (suc v) zero a b = absurd (omega arith)
back_value zero (suc zero) a b = refl
back_value (suc zero) (suc zero) a b = refl
back_value (suc (suc v)) (suc zero) a b = absurd (omega arith)
back_value v (suc (suc w)) a b = absurd (omega arith)

module _ (n v w : ℕ) where
  cube_last : cube_of (suc n) v w % 3 ≡ digit_of (v % 2) (w % 2)
  unfolding cube_of
  cube_last = last_digit_lem (cube_of n (v / 2) (w / 2)) (digit_of (v % 2) (w % 2)) (digit_of_lt (v % 2) (w % 2) (bit_lt v))

  cube_rest : cube_of (suc n) v w / 3 ≡ cube_of n (v / 2) (w / 2)
  unfolding cube_of
  cube_rest = rest_digits (cube_of n (v / 2) (w / 2)) (digit_of (v % 2) (w % 2)) (digit_of_lt (v % 2) (w % 2) (bit_lt v))

-- the digits of the cube of a row
pub cube_digit : (n v w k : ℕ) → k < n → digit k (cube_of n v w) ≡ digit_of (bit k v) (bit k w)
unfolding digit bit
cube_digit zero v w k l = absurd (not-suc-le-zero l)
cube_digit (suc n) v w zero l = cube_last n v w
cube_digit (suc n) v w (suc k) l = ap (digit k) (cube_rest n v w) ∙ cube_digit n (v / 2) (w / 2) k (le_of_suc-le-suc l)

value_back : (n v w : ℕ) → Formed n v w → value_of n (cube_of n v w) ≡ v
unfolding value_of
value_back zero v w f = let z : w ≡ 0 = omega (arith, f.care) in sym (ap (bit_and v) z ∙ and_zero_r v) ∙ f.inside
value_back (suc n) v w f =
    ap₂ (λ (i j : ℕ). value_of n i * 2 + flag (eqb j 1)) (cube_rest n v w) (cube_last n v w)
    ∙ ap₂ (λ (i j : ℕ). i * 2 + j) (value_back n (v / 2) (w / 2) (formed_rest n v w f)) (back_value (v % 2) (w % 2) (formed_last n v w f) (bit_lt w))
    ∙ omega arith

care_back : (n v w : ℕ) → Formed n v w → care_of n (cube_of n v w) ≡ w
unfolding care_of
care_back zero v w f = omega (arith, f.care)
care_back (suc n) v w f =
    ap₂ (λ (i j : ℕ). care_of n i * 2 + flag (tested j)) (cube_rest n v w) (cube_last n v w)
    ∙ ap₂ (λ (i j : ℕ). i * 2 + j) (care_back n (v / 2) (w / 2) (formed_rest n v w f)) (digit_care (v % 2) (w % 2) (bit_lt v) (bit_lt w))
    ∙ omega arith

pub row_back : (n : ℕ) (r : Row) → T (formed n r) → row_of n (number_of n r) ≡ r
row_back n r f =
    ap₂ (λ (v w : ℕ). record { value = v; care = w }) (value_back n r.value r.care (formed_means n r f)) (care_back n r.value r.care (formed_means n r f))

-- ---- from a cube to its row

pub spells_digit : (d : ℕ) → d < 3 → digit_of (flag (eqb d 1)) (flag (tested d)) ≡ d
spells_digit zero l = refl
spells_digit (suc zero) l = refl
spells_digit (suc (suc zero)) l = refl
spells_digit (suc (suc (suc d))) l = absurd (omega arith)

value_in_care : (d : ℕ) → d < 3 → flag (eqb d 1) ≤ flag (tested d)
value_in_care zero l = omega arith
value_in_care (suc zero) l = omega arith
value_in_care (suc (suc zero)) l = omega arith
value_in_care (suc (suc (suc d))) l = absurd (omega arith)

-- the last bits of a cube's value and care
module _ (n q : ℕ) where
  value_last : value_of (suc n) q % 2 ≡ flag (eqb (q % 3) 1)
  unfolding value_of
  value_last = last_bit (value_of n (q / 3)) (flag (eqb (q % 3) 1)) (flag_lt (eqb (q % 3) 1))

  value_rest : value_of (suc n) q / 2 ≡ value_of n (q / 3)
  unfolding value_of
  value_rest = rest_bits (value_of n (q / 3)) (flag (eqb (q % 3) 1)) (flag_lt (eqb (q % 3) 1))

  care_last : care_of (suc n) q % 2 ≡ flag (tested (q % 3))
  unfolding care_of
  care_last = last_bit (care_of n (q / 3)) (flag (tested (q % 3))) (flag_lt (tested (q % 3)))

  care_rest : care_of (suc n) q / 2 ≡ care_of n (q / 3)
  unfolding care_of
  care_rest = rest_bits (care_of n (q / 3)) (flag (tested (q % 3))) (flag_lt (tested (q % 3)))

spelled_inside : (n q : ℕ) → bit_and (value_of n q) (care_of n q) ≡ value_of n q
unfolding value_of
spelled_inside zero q = refl
spelled_inside (suc n) q =
    and_step (value_of (suc n) q) (care_of (suc n) q)
    ∙ ap₂ (λ (i j : ℕ). i * 2 + j) (ap₂ bit_and (value_rest n q) (care_rest n q) ∙ spelled_inside n (q / 3)) (ap₂ min (value_last n q) (care_last n q))
    ∙ ap (λ (i : ℕ). value_of n (q / 3) * 2 + i) least
  where
    least : min (flag (eqb (q % 3) 1)) (flag (tested (q % 3))) ≡ flag (eqb (q % 3) 1)
    least = omega (arith, value_in_care (q % 3) (last_lt q))

pub row_formed : (n q : ℕ) → T (formed n (row_of n q))
unfolding formed
row_formed n q =
    and_i (ltb (care_of n q) (2 ^ n)) (eqb (bit_and (value_of n q) (care_of n q)) (value_of n q)) (lt→ltb _ _ (care_lt n q)) (yes_eqb (spelled_inside n q))

pub number_of_row : (n q : ℕ) → q < 3 ^ n → number_of n (row_of n q) ≡ q
unfolding cube_of
number_of_row zero q l = omega arith
number_of_row (suc n) q l =
    let e : 3 ^ suc n ≡ 3 ^ n * 3 = pow-suc 3 n in
    ap₂ (λ (i j : ℕ). i * 3 + j) (ap₂ (cube_of n) (value_rest n q) (care_rest n q) ∙ number_of_row n (q / 3) (omega arith))
    (ap₂ digit_of (value_last n q) (care_last n q) ∙ spells_digit (q % 3) (last_lt q))
    ∙ omega arith

-- ---- both ways

pub one_to_one : (n : ℕ) → OneToOne n
one_to_one n = record {
  row_formed = row_formed n;
  number_below = λ r. cube_lt n r.value r.care;
  there = number_of_row n;
  back = row_back n;
  same_codes = row_is_cube n;
  same_literals = λ r. row_literals_lem n r.value r.care;
}

-- so the row of a cube matches what the cube matches, with as many literals
pub row_of_matches : (n q c : ℕ) → q < 3 ^ n → row_matches (row_of n q) c ≡ cube_matches n q c
row_of_matches n q c l =
    let o = one_to_one n in o.same_codes (row_of n q) (o.row_formed q) c ∙ ap (λ (p : ℕ). cube_matches n p c) (o.there q l)

pub row_of_literals : (n q : ℕ) → q < 3 ^ n → row_literals n (row_of n q) ≡ cube_literals n q
row_of_literals n q l = let o = one_to_one n in sym (o.same_literals (row_of n q)) ∙ ap (cube_literals n) (o.there q l)

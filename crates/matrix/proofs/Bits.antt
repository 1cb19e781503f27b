-- Words as sets of bits: what each operation on words does to a bit, as an equation of flags. Each goes by the quotient by 2 ^ c, under which the
-- operations on words stay what they are, and then by the lowest digit. A set of columns is one word, so this holds of columns too. Assumes nothing.
use mathlib.Core.Path.{◌≡◌, refl, sym, ap, subst, subst₂, ◌∙◌}
use mathlib.Core.Bool.{Bool, true, false, not, ◌&&◌, ◌||◌}
use Prim.Native.Nat.{ℕ, zero, suc, ◌+◌, ◌-◌, ◌*◌, ◌/◌, ◌%◌, ◌^◌, ◌≤◌, ◌<◌, min, max}
use native.Mathlib.Nat.{zero-lt-suc, pow-suc, div-lt_iff_lt-mul, div-div-eq-div-mul, div-one, zero-div, zero-add, lt_of_lt_of_le, lt_of_le_of_lt, div-le_self, div-eq_of_lt, div_self, mul-mod_left, mul_assoc, one-mul, mod-eq_of_lt, mod-lt}
use native.Mathlib.Omega.{arith}
use native.Mathlib.Decide.{dec_lt}
use lib.Dec.{eqb, ltb, leb}
use lib.Pow.{pow_mono, pow-lt, pow_pos, pow-add, shl-shr, field, mod-mod-pow}
use lib.Bits.{bit_and, bit_or, bit_xor, differ, and_step, or_step, xor_step, and_shr, or_shr, xor_shr, and_mask, and_self, and_le_l, and_le_r, or_lt, xor_lt, xor_add_and, shifted_even}
use lib.Count.{count_trailing_zeros, under}
use Rattle.std.specs.Prelude.{Some, None}
use borrow.Author.Tests.{eq-eqb, ne_eqb, lt-ltb, le-ltb, le-leb, lt-leb, eqb-true, eqb-false}
use Rattle.std.proofs.lemmas.Bool.{false_from_ne_true, and_parts}
use Rattle.numbers.proofs.Flags.{clash, kept_of_lem}
use Rattle.matrix.specs.Sets.{word_bits, has_bit, has, no_column, has_raised, In, Emptiness, Inclusion, Next, NextIfAny}

abbrev digit : ℕ → ℕ → ℕ
digit x c = x / 2 ^ c % 2

digit_lt : (x c : ℕ) → digit x c < 2
digit_lt x c = omega arith

-- ---- the operations, at the lowest digits x and y of two words

-- what holds of both digits, and of the four pairs of them
each : (P : ℕ → Type 0) → P 0 → P 1 → (x : ℕ) → x < 2 → P x
each P a b zero h = a
each P a b (suc zero) h = b
each P a b (suc (suc x)) h = absurd (omega arith)

pairs : (P : ℕ → ℕ → Type 0) → P 0 0 → P 0 1 → P 1 0 → P 1 1 → (x y : ℕ) → x < 2 → y < 2 → P x y
pairs P a b c d x y h k = each (λ x. P x y) (each (P 0) a b y k) (each (P 1) c d y k) x h

and-flag : (x y : ℕ) → x < 2 → y < 2 → eqb (min x y) 1 ≡ (eqb x 1 && eqb y 1)
and-flag = pairs (λ x y. eqb (min x y) 1 ≡ (eqb x 1 && eqb y 1)) refl refl refl refl

or-flag : (x y : ℕ) → x < 2 → y < 2 → eqb (max x y) 1 ≡ (eqb x 1 || eqb y 1)
or-flag = pairs (λ x y. eqb (max x y) 1 ≡ (eqb x 1 || eqb y 1)) refl refl refl refl

without_flag : (x y : ℕ) → x < 2 → y < 2 → eqb (differ x (min x y)) 1 ≡ (eqb x 1 && not (eqb y 1))
without_flag = pairs (λ x y. eqb (differ x (min x y)) 1 ≡ (eqb x 1 && not (eqb y 1))) refl refl refl refl

differ_lt : (x y : ℕ) → x < 2 → y < 2 → differ x y < 2
differ_lt = pairs (λ x y. differ x y < 2) (omega arith) (omega arith) (omega arith) (omega arith)

and-odd : (a b : ℕ) → bit_and a b % 2 ≡ min (a % 2) (b % 2)
and-odd a b = omega (arith, and_step a b)

or-odd : (a b : ℕ) → bit_or a b % 2 ≡ max (a % 2) (b % 2)
or-odd a b = omega (arith, or_step a b)

xor-odd : (a b : ℕ) → bit_xor a b % 2 ≡ differ (a % 2) (b % 2)
xor-odd a b = omega (arith, xor_step a b, differ_lt (a % 2) (b % 2) (omega arith) (omega arith))

pub digit_and : (a b c : ℕ) → digit (bit_and a b) c ≡ min (digit a c) (digit b c)
digit_and a b c = ap (λ (x : ℕ). x % 2) (and_shr a b c) ∙ and-odd (a / 2 ^ c) (b / 2 ^ c)

-- ---- a & b, a | b, a ^ (a & b)

pub has_and : (a b c : ℕ) → has_bit (bit_and a b) c ≡ (has_bit a c && has_bit b c)
unfolding has_bit
has_and a b c = ap (λ (x : ℕ). eqb x 1) (digit_and a b c) ∙ and-flag (digit a c) (digit b c) (digit_lt a c) (digit_lt b c)

pub has_or : (a b c : ℕ) → has_bit (bit_or a b) c ≡ (has_bit a c || has_bit b c)
unfolding has_bit
has_or a b c = ap (λ (x : ℕ). eqb x 1) (ap (λ (x : ℕ). x % 2) (or_shr a b c) ∙ or-odd (a / 2 ^ c) (b / 2 ^ c)) ∙ or-flag (digit a c) (digit b c) (digit_lt a c) (digit_lt b c)

pub has_without : (a b c : ℕ) → has_bit (bit_xor a (bit_and a b)) c ≡ (has_bit a c && not (has_bit b c))
unfolding has_bit
has_without a b c =
    ap (λ (x : ℕ). eqb x 1)
    (ap (λ (x : ℕ). x % 2) (xor_shr a (bit_and a b) c) ∙ xor-odd (a / 2 ^ c) (bit_and a b / 2 ^ c) ∙ ap (differ (digit a c)) (digit_and a b c))
    ∙ without_flag (digit a c) (digit b c) (digit_lt a c) (digit_lt b c)

-- x >> c & 1
pub has_shifted : (x c : ℕ) → eqb (bit_and (x / 2 ^ c) 1) 1 ≡ has_bit x c
unfolding has_bit
has_shifted x c = ap (λ (y : ℕ). eqb y 1) (and_mask (x / 2 ^ c) 1)

-- ---- 0

pub has_zero : (c : ℕ) → has_bit 0 c ≡ false
unfolding has_bit
has_zero c = ap (λ (x : ℕ). eqb (x % 2) 1) (zero-div (2 ^ c))

pub has_none : (c : ℕ) → has no_column c ≡ false
has_none c = has_zero c

-- ---- 1 << d

even_below : (e c : ℕ) → 2 ^ (suc e + c) / 2 ^ c % 2 ≡ 0
even_below e c =
    ap (λ (y : ℕ). y / 2 ^ c % 2) (pow-add 2 (suc e) c) ∙ ap (λ (y : ℕ). y % 2) (shl-shr (2 ^ suc e) c)
    ∙ ap (λ (y : ℕ). y % 2) (pow-suc 2 e) ∙ mul-mod_left (2 ^ e) 2

below_even : (d c : ℕ) → c < d → 2 ^ d / 2 ^ c % 2 ≡ 0
below_even d c l = let e : d ≡ suc (d - c - 1) + c = omega arith in ap (λ (y : ℕ). 2 ^ y / 2 ^ c % 2) e ∙ even_below (d - c - 1) c

pub has_one : (d c : ℕ) → has_bit (2 ^ d) c ≡ eqb c d
unfolding has_bit
has_one d c = go (dec_lt c d) (dec_lt d c)
  where
    go : Dec (c < d) → Dec (d < c) → eqb (2 ^ d / 2 ^ c % 2) 1 ≡ eqb c d
    go (yes l) e = ap (λ (x : ℕ). eqb x 1) (below_even d c l) ∙ sym (ne_eqb c d (λ z. omega arith))
    go (no n) (yes l) = ap (λ (x : ℕ). eqb (x % 2) 1) (div-eq_of_lt (pow-lt l)) ∙ sym (ne_eqb c d (λ z. omega arith))
    go (no n) (no m) = let e : c ≡ d = omega arith in
        ap (λ (x : ℕ). eqb (2 ^ d / 2 ^ x % 2) 1) e ∙ ap (λ (x : ℕ). eqb (x % 2) 1) (div_self (pow_pos d)) ∙ sym (eq-eqb c d e)

pub shifted_one : (d : ℕ) → d < word_bits → 1 * 2 ^ d % 2 ^ word_bits ≡ 2 ^ d
shifted_one d h = ap (λ (y : ℕ). y % 2 ^ word_bits) (one-mul (2 ^ d)) ∙ mod-eq_of_lt (pow-lt h)

pub has_only : (d : ℕ) → d < word_bits → (c : ℕ) → has_bit (1 * 2 ^ d % 2 ^ word_bits) c ≡ eqb c d
has_only d h c = ap (λ (y : ℕ). has_bit y c) (shifted_one d h) ∙ has_one d c

-- ---- a word's bits end at its width

pub in_below : (x c d : ℕ) → x < 2 ^ d → has_bit x c ≡ true → c < d
unfolding has_bit
in_below x c d h i = go (dec_lt c d)
  where
    high : d ≤ c → eqb (x / 2 ^ c % 2) 1 ≡ false
    high l = ap (λ (y : ℕ). eqb (y % 2) 1) (div-eq_of_lt (lt_of_lt_of_le h (pow_mono l)))

    go : Dec (c < d) → c < d
    go (yes l) = l
    go (no n) = clash i (high (omega arith))

pub bits_within : (x y b : ℕ) → has_bit x b ≡ true → y ≡ x → y < 2 ^ word_bits → b < word_bits
bits_within x y b h e l = in_below y b word_bits l (ap (λ (n : ℕ). has_bit n b) e ∙ h)

-- ---- x >> f

pub has_shr : (x f c : ℕ) → has_bit (x / 2 ^ f) c ≡ has_bit x (f + c)
unfolding has_bit
has_shr x f c = ap (λ (y : ℕ). eqb (y % 2) 1) (div-div-eq-div-mul x (2 ^ f) (2 ^ c) ∙ ap (λ (y : ℕ). x / y) (sym (pow-add 2 f c)))

-- ---- x << d

-- what stands at bit d and above is x, and below it there is nothing
shifted_above : (x d c : ℕ) → has_bit (x * 2 ^ d) (d + c) ≡ has_bit x c
shifted_above x d c = sym (has_shr (x * 2 ^ d) d c) ∙ ap (λ (y : ℕ). has_bit y c) (shl-shr x d)

shifted_below : (x e c : ℕ) → has_bit (x * 2 ^ (suc e + c)) c ≡ false
unfolding has_bit
shifted_below x e c =
    ap (λ (y : ℕ). eqb (y / 2 ^ c % 2) 1) (ap (λ (y : ℕ). x * y) (pow-add 2 (suc e) c) ∙ sym (mul_assoc x (2 ^ suc e) (2 ^ c)))
    ∙ ap (λ (y : ℕ). eqb (y % 2) 1) (shl-shr (x * 2 ^ suc e) c)
    ∙ ap (λ (y : ℕ). eqb y 1) (shifted_even x e)

has_shl : (x d c : ℕ) → has_bit (x * 2 ^ d) c ≡ (leb d c && has_bit x (c - d))
has_shl x d c = go (dec_lt c d)
  where
    go : Dec (c < d) → has_bit (x * 2 ^ d) c ≡ (leb d c && has_bit x (c - d))
    go (yes l) = let e : d ≡ suc (d - c - 1) + c = omega arith in
        ap (λ (y : ℕ). has_bit (x * 2 ^ y) c) e ∙ shifted_below x (d - c - 1) c ∙ sym (ap (λ (b : Bool). b && has_bit x (c - d)) (lt-leb d c l))
    go (no n) = let e : c ≡ d + (c - d) = omega arith in
        ap (has_bit (x * 2 ^ d)) e ∙ shifted_above x d (c - d) ∙ sym (ap (λ (b : Bool). b && has_bit x (c - d)) (le-leb d c (omega arith)))

-- ---- a word keeps its low bits

kept : (x j c : ℕ) → has_bit (x % 2 ^ (j + 1 + c)) c ≡ has_bit x c
unfolding has_bit
kept x j c = ap (λ (y : ℕ). eqb (y % 2) 1) (field x (j + 1) c) ∙ ap (λ (y : ℕ). eqb y 1) (mod-mod-pow (x / 2 ^ c) j 1)

has_mod : (x w c : ℕ) → has_bit (x % 2 ^ w) c ≡ (ltb c w && has_bit x c)
has_mod x w c = go (dec_lt c w)
  where
    go : Dec (c < w) → has_bit (x % 2 ^ w) c ≡ (ltb c w && has_bit x c)
    go (yes l) = let e : w ≡ w - c - 1 + 1 + c = omega arith in
        ap (λ (y : ℕ). has_bit (x % 2 ^ y) c) e ∙ kept x (w - c - 1) c ∙ sym (ap (λ (b : Bool). b && has_bit x c) (lt-ltb c w l))
    go (no n) =
        false_from_ne_true (has_bit (x % 2 ^ w) c) (λ h. n (in_below (x % 2 ^ w) c w (mod-lt x (pow_pos w)) h))
        ∙ sym (ap (λ (b : Bool). b && has_bit x c) (le-ltb c w (omega arith)))

pub has_raised_lem : (x d c : ℕ) → has_bit (x * 2 ^ d % 2 ^ word_bits) c ≡ has_raised x d c
has_raised_lem x d c = has_mod (x * 2 ^ d) word_bits c ∙ ap (λ (b : Bool). ltb c word_bits && b) (has_shl x d c)

-- ---- the lowest bit

has_half : (x c : ℕ) → has_bit (x / 2) c ≡ has_bit x (suc c)
has_half x c = has_shr x 1 c ∙ ap (has_bit x) (omega arith)

has_lowest : (x : ℕ) → has_bit x 0 ≡ eqb (x % 2) 1
unfolding has_bit
has_lowest x = ap (λ (y : ℕ). eqb (y % 2) 1) (div-one x)

-- from the trailing zeros of x / 2 to those of x
lowest_step : (t x r : ℕ) → x % 2 ≡ r → (r ≡ 0 → has_bit (x / 2) t ≡ true) → has_bit x (under r t) ≡ true
lowest_step t x zero e h = sym (has_half x t) ∙ h refl
lowest_step t x (suc zero) e h = has_lowest x ∙ ap (λ (y : ℕ). eqb y 1) e
lowest_step t x (suc (suc r)) e h = absurd (omega arith)

half_pos : (x : ℕ) → 0 < x → x % 2 ≡ 0 → 0 < x / 2
half_pos x h e = omega arith

half_lt : (d x : ℕ) → x < 2 ^ suc d → x / 2 < 2 ^ d
half_lt d x k = (div-lt_iff_lt-mul (zero-lt-suc 1)).1 (subst (λ (y : ℕ). x < y) (pow-suc 2 d) k)

pub lowest_in : (d x : ℕ) → 0 < x → x < 2 ^ d → has_bit x (count_trailing_zeros d x) ≡ true
unfolding count_trailing_zeros
lowest_in zero x h k = absurd (omega arith)
lowest_in (suc d) x h k = lowest_step (count_trailing_zeros d (x / 2)) x (x % 2) refl (λ e. lowest_in d (x / 2) (half_pos x h e) (half_lt d x k))

-- no bit stands below the lowest
before_step : (t x r : ℕ) → x % 2 ≡ r → ((c : ℕ) → c < t → has_bit (x / 2) c ≡ false) → (c : ℕ) → c < under r t → has_bit x c ≡ false
before_step t x zero e h zero l = has_lowest x ∙ ap (λ (y : ℕ). eqb y 1) e
before_step t x zero e h (suc c) l = sym (has_half x c) ∙ h c (omega arith)
before_step t x (suc r) e h c l = absurd (omega arith)

pub before_lowest : (d x c : ℕ) → c < count_trailing_zeros d x → has_bit x c ≡ false
unfolding count_trailing_zeros
before_lowest zero x c l = absurd (omega arith)
before_lowest (suc d) x c l = before_step (count_trailing_zeros d (x / 2)) x (x % 2) refl (λ c k. before_lowest d (x / 2) c k) c l

-- a word that is not within another has a column that the other lacks
pub first_lacking : (d a b : ℕ) → a < 2 ^ d → (bit_and a b ≡ a → ⊥) → (c : ℕ) × In a c × (In b c → ⊥)
first_lacking d a b l n =
    let m = and_le_l a b in
    let x = xor_lt d a (bit_and a b) l (lt_of_le_of_lt m l) in
    let p : 0 < bit_xor a (bit_and a b) = omega (arith, xor_add_and a (bit_and a b), and_le_r a (bit_and a b)) in
    let c = count_trailing_zeros d (bit_xor a (bit_and a b)) in
    let k = kept_of_lem (has_bit a c) (has_bit b c) (has_without a b c) (lowest_in d (bit_xor a (bit_and a b)) p x) in
    (c, k.0, k.1)

-- ---- the first bit from f on, of what is shifted down by f

from_shifted : (x f i : ℕ) → f ≤ i → has_bit (x / 2 ^ f) (i - f) ≡ has_bit x i
from_shifted x f i l = let e : f + (i - f) ≡ i = omega arith in has_shr x f (i - f) ∙ ap (has_bit x) e

pub next_none : (x f : ℕ) → f ≤ word_bits → x / 2 ^ f ≡ 0 → Next (has_bit x) f word_bits word_bits
next_none x f l e = record {
  above = l;
  within = omega arith;
  before = λ i m o. sym (from_shifted x f i m) ∙ ap (λ (y : ℕ). has_bit y (i - f)) e ∙ has_zero (i - f);
  here = λ h. absurd (omega arith);
}

module _ (x f : ℕ) (l : x < 2 ^ word_bits) (n : x / 2 ^ f ≡ 0 → ⊥) where
  next_bit : has_bit x (f + count_trailing_zeros word_bits (x / 2 ^ f)) ≡ true
  next_bit =
      sym (has_shr x f (count_trailing_zeros word_bits (x / 2 ^ f))) ∙ lowest_in word_bits (x / 2 ^ f) (omega arith) (lt_of_le_of_lt (div-le_self x (2 ^ f)) l)

  next_below : f + count_trailing_zeros word_bits (x / 2 ^ f) < word_bits
  next_below = in_below x (f + count_trailing_zeros word_bits (x / 2 ^ f)) word_bits l next_bit

  pub next_some : (f + count_trailing_zeros word_bits (x / 2 ^ f) < word_bits) × Next (has_bit x) f word_bits (f + count_trailing_zeros word_bits (x / 2 ^ f))
  next_some = (
    next_below,
    record {
      above = omega arith;
      within = omega (arith, next_below);
      before = λ i m o. sym (from_shifted x f i m) ∙ before_lowest word_bits (x / 2 ^ f) (i - f) (omega arith);
      here = λ h. next_bit;
    },
  )

-- the first column of a set that has one
pub first_in : (x : ℕ) {r : ℕ} → x < 2 ^ word_bits → (c : ℕ) × In x c → Next (has_bit x) 0 word_bits r → In x r
first_in x {r} l i n = go (dec_lt r word_bits)
  where
    go : Dec (r < word_bits) → In x r
    go (yes h) = n.here h
    go (no h) = let b = in_below x i.0 word_bits l i.1 in clash i.1 (n.before i.0 (omega arith) (omega (arith, n.within)))

-- ---- a word without its lowest bit, x & (x - 1)

-- the digits of x & (x - 1): where x is odd, the others stay; where it is even, the same is done with x / 2
cleared_odd : (x : ℕ) → 0 < x → x % 2 ≡ 1 → bit_and x (x - 1) / 2 ≡ x / 2
cleared_odd x l e = let h : (x - 1) / 2 ≡ x / 2 = omega arith in
    omega (arith, and_step x (x - 1), ap (bit_and (x / 2)) h, and_self (x / 2))

cleared_even : (x : ℕ) → 0 < x → x % 2 ≡ 0 → bit_and x (x - 1) / 2 ≡ bit_and (x / 2) (x / 2 - 1)
cleared_even x l e = let h : (x - 1) / 2 ≡ x / 2 - 1 = omega arith in omega (arith, and_step x (x - 1), ap (bit_and (x / 2)) h)

cleared_first : (x : ℕ) → 0 < x → bit_and x (x - 1) % 2 ≡ 0
cleared_first x l = omega (arith, and_step x (x - 1))

cleared_step : (t x r : ℕ) → 0 < x → x % 2 ≡ r → (r ≡ 0 → (c : ℕ) → has_bit (bit_and (x / 2) (x / 2 - 1)) c ≡ (ltb t c && has_bit (x / 2) c))
    → (c : ℕ) → has_bit (bit_and x (x - 1)) c ≡ (ltb (under r t) c && has_bit x c)
cleared_step t x r l e h zero =
    has_lowest (bit_and x (x - 1)) ∙ ap (λ (y : ℕ). eqb y 1) (cleared_first x l) ∙ sym (ap (λ (b : Bool). b && has_bit x 0) (le-ltb (under r t) 0 (omega arith)))
cleared_step t x zero l e h (suc c) =
    sym (has_half (bit_and x (x - 1)) c) ∙ ap (λ (y : ℕ). has_bit y c) (cleared_even x l e) ∙ h refl c ∙ ap (λ (b : Bool). ltb t c && b) (has_half x c)
    ∙ ap (λ (b : Bool). b && has_bit x (suc c)) (grind arith)
cleared_step t x (suc zero) l e h (suc c) =
    sym (has_half (bit_and x (x - 1)) c) ∙ ap (λ (y : ℕ). has_bit y c) (cleared_odd x l e) ∙ has_half x c
    ∙ sym (ap (λ (b : Bool). b && has_bit x (suc c)) (lt-ltb zero (suc c) (omega arith)))
cleared_step t x (suc (suc r)) l e h c = absurd (omega arith)

pub cleared : (d x : ℕ) → 0 < x → x < 2 ^ d → (c : ℕ) → has_bit (bit_and x (x - 1)) c ≡ (ltb (count_trailing_zeros d x) c && has_bit x c)
unfolding count_trailing_zeros
cleared zero x h k = absurd (omega arith)
cleared (suc d) x h k = cleared_step (count_trailing_zeros d (x / 2)) x (x % 2) h refl (λ e. cleared d (x / 2) (half_pos x h e) (half_lt d x k))

-- ---- what tests of a word tell, where y is the number of the word x

pub emptiness : {x y : ℕ} → y ≡ x → y < 2 ^ word_bits → Emptiness x (eqb y 0)
emptiness {x} {y} e l = record {
  none = λ z i h. clash h (ap (λ (n : ℕ). has_bit n i) (sym e ∙ eqb-true y 0 z) ∙ has_zero i);
  some = λ z. let n = eqb-false y 0 z in (_, subst (λ (n : ℕ). has_bit n (count_trailing_zeros word_bits y) ≡ true) e (lowest_in word_bits y (omega arith) l));
}

pub inclusion : {a b x y : ℕ} → x ≡ a → y ≡ b → x < 2 ^ word_bits → Inclusion a b (eqb (bit_and x y) x)
inclusion {x = x} {y} e f l = subst₂ (λ (a b : ℕ). Inclusion a b (eqb (bit_and x y) x)) e f (record {
  all = λ z i h. ap (λ (t : Bool). t && has_bit y i) (sym h) ∙ sym (has_and x y i) ∙ ap (λ (n : ℕ). has_bit n i) (eqb-true _ _ z) ∙ h;
  some = λ z. first_lacking word_bits x y l (eqb-false _ _ z);
})

-- the first bit from f on, or from 0 on
module _ (x y f : ℕ) (e : y ≡ x) where
  pub next_where_none : f ≤ word_bits → y / 2 ^ f ≡ 0 → NextIfAny (has_bit x) f word_bits None
  next_where_none l z = subst (λ (n : ℕ). Next (has_bit n) f word_bits word_bits) e (next_none y f l z)

  pub next_where_some : y < 2 ^ word_bits → (y / 2 ^ f ≡ 0 → ⊥) → NextIfAny (has_bit x) f word_bits (Some (f + count_trailing_zeros word_bits (y / 2 ^ f)))
  next_where_some l z = let i : ℕ = f + count_trailing_zeros word_bits (y / 2 ^ f) in
      subst (λ (n : ℕ). (i < word_bits) × Next (has_bit n) f word_bits i) e (next_some y f l z)

module _ (x y : ℕ) (e : y ≡ x) where
  pub first_where_none : y ≡ 0 → NextIfAny (has_bit x) 0 word_bits None
  first_where_none z = next_where_none x y 0 e (omega arith) (omega (arith, div-one y))

  pub first_where_some : y < 2 ^ word_bits → (y ≡ 0 → ⊥) → NextIfAny (has_bit x) 0 word_bits (Some (count_trailing_zeros word_bits y))
  first_where_some l z =
      subst (λ (n : ℕ). NextIfAny (has_bit x) 0 word_bits (Some n)) (zero-add _ ∙ ap (count_trailing_zeros word_bits) (div-one y))
      (next_where_some x y 0 e l (λ k. z (sym (div-one y) ∙ k)))

-- one number is the first
next_same : (p : ℕ → Bool) (end i j : ℕ) → i < end → Next p 0 end i → Next p 0 end j → i ≡ j
next_same p end i j l m n = go (dec_lt i j) (dec_lt j i)
  where
    go : Dec (i < j) → Dec (j < i) → i ≡ j
    go (yes a) d = clash (m.here l) (n.before i (omega arith) a)
    go (no a) (yes b) = clash (n.here (omega arith)) (m.before j (omega arith) b)
    go (no a) (no b) = omega arith

-- x & (x - 1), as it is computed, has the bits above the first
pub without_first : (x y b : ℕ) → y ≡ x → y < 2 ^ word_bits → Next (has_bit x) 0 word_bits b → (c : ℕ)
    → has_bit (bit_and y ((y + (2 ^ word_bits - 1)) % 2 ^ word_bits)) c ≡ (ltb b c && has_bit x c)
without_first x y b e l n c = go (dec_lt 0 y)
  where
    go : Dec (0 < y) → has_bit (bit_and y ((y + (2 ^ word_bits - 1)) % 2 ^ word_bits)) c ≡ (ltb b c && has_bit x c)
    go (yes h) =
        let m = first_where_some x y e l (λ z. omega arith) in
        let d : (y + (2 ^ word_bits - 1)) % 2 ^ word_bits ≡ y - 1 = omega arith in
        ap (λ (z : ℕ). has_bit (bit_and y z) c) d ∙ cleared word_bits y h l c
        ∙ ap (λ (z : ℕ). ltb z c && has_bit y c) (next_same (has_bit x) word_bits (count_trailing_zeros word_bits y) b m.0 m.1 n)
        ∙ ap (λ (z : ℕ). ltb b c && has_bit z c) e
    go (no h) =
        let z : y ≡ 0 = omega arith in
        let none : has_bit x c ≡ false = ap (λ (i : ℕ). has_bit i c) (sym e ∙ z) ∙ has_zero c in
        false_from_ne_true _ (λ k. clash (and_parts _ _ (sym (has_and y ((y + (2 ^ word_bits - 1)) % 2 ^ word_bits) c) ∙ k)).0 (ap (λ (i : ℕ). has_bit i c) z ∙ has_zero c))
        ∙ sym (false_from_ne_true _ (λ k. clash (and_parts _ _ k).1 none))

-- a word that is v | w, or v ^ (v & w), is no wider
pub or_fits : (a b : ℕ) → a < 2 ^ word_bits → b < 2 ^ word_bits → bit_or a b < 2 ^ word_bits
or_fits a b l m = or_lt word_bits a b l m

pub without_fits : (a b : ℕ) → a < 2 ^ word_bits → bit_xor a (bit_and a b) < 2 ^ word_bits
without_fits a b l = xor_lt word_bits a (bit_and a b) l (lt_of_le_of_lt (and_le_l a b) l)

-- The numbers whose bits tell which numbers below a bound pass: such a number of m bits is below 2^m, bit c of it is the test of c, the same tests give
-- the same number, and it is 0 where none passes. Assumes nothing.
use mathlib.Core.Path.{◌≡◌, refl, sym, ap, ap₂, ◌∙◌}
use mathlib.Core.Logic.{⊎_elim}
use mathlib.Core.Bool.{Bool, true, false, ◌&&◌, ◌||◌}
use Prim.Native.Nat.{ℕ, zero, suc, ◌+◌, ◌*◌, ◌-◌, ◌^◌, ◌/◌, ◌%◌, ◌<◌, ◌≤◌}
use native.Mathlib.Nat.{not-suc-le-zero, le_of_suc-le-suc, eq-or-lt_of_le, lt-suc_self, pow-suc, mul_assoc, div-eq_of_lt, add-mul-div_right, mod-eq_of_lt, zero-add, lt_of_lt_of_le}
use native.Mathlib.Numerals.{add-one}
use native.Mathlib.Omega.{arith}
use lib.Dec.{ltb, lit<}
use lib.Pow.{pow_pos, pow-add, pow_mono}
use borrow.Author.Tests.{lt-ltb, le-ltb}
use Rattle.std.proofs.lemmas.Bool.{cases_lt}
use Rattle.numbers.specs.Below.{flag, some, word_of}
use Rattle.numbers.proofs.Below.{flag_lt}

flag_times : (b : Bool) (x : ℕ) → flag b * x ≤ x
flag_times true x = omega arith
flag_times false x = omega arith

pub word_lt : (m : ℕ) (f : ℕ → Bool) → word_of m f < 2 ^ m
unfolding word_of
word_lt zero f = lit< tt
word_lt (suc m) f = omega (arith, pow-suc 2 m, word_lt m f, flag_times (f m) (2 ^ m))

-- one more number, as a loop has it
pub word_more : (m : ℕ) (f : ℕ → Bool) {w w' : ℕ} → w ≡ word_of m f → w' ≡ w + flag (f m) * 2 ^ m → w' ≡ word_of (m + 1) f
unfolding word_of
word_more m f e g = g ∙ ap (λ (i : ℕ). i + flag (f m) * 2 ^ m) e ∙ sym (ap (λ (i : ℕ). word_of i f) (add-one m))

pub word_same : (m : ℕ) (f g : ℕ → Bool) → ((c : ℕ) → c < m → f c ≡ g c) → word_of m f ≡ word_of m g
unfolding word_of
word_same zero f g e = refl
word_same (suc m) f g e = ap₂ (λ (i : ℕ) (x : Bool). i + flag x * 2 ^ m) (word_same m f g (λ c l. e c (omega arith))) (e m (lt-suc_self m))

-- it is not 0 exactly when some number passes
pub word_some : (m : ℕ) (f : ℕ → Bool) → some m f ≡ ltb 0 (word_of m f)
unfolding word_of some
word_some zero f = refl
word_some (suc m) f = go (f m) (word_some m f)
  where
    go : (b : Bool) → some m f ≡ ltb 0 (word_of m f) → (b || some m f) ≡ ltb 0 (word_of m f + flag b * 2 ^ m)
    go true e = sym (lt-ltb 0 (word_of m f + flag true * 2 ^ m) (omega (arith, pow_pos m)))
    go false e = let same : word_of m f ≡ word_of m f + flag false * 2 ^ m = omega arith in e ∙ ap (ltb 0) same

-- ---- bit c is the test of c

even : (x y : ℕ) → (x + y * 2) % 2 ≡ x % 2
even x y = omega arith

pub bit_of : (m : ℕ) (f : ℕ → Bool) (c : ℕ) → c < m → word_of m f / 2 ^ c % 2 ≡ flag (f c)
unfolding word_of
bit_of zero f c l = absurd (not-suc-le-zero l)
bit_of (suc m) f c l = ⊎_elim here (λ k. there k (bit_of m f c k)) (eq-or-lt_of_le (le_of_suc-le-suc l))
  where
    here : c ≡ m → (word_of m f + flag (f m) * 2 ^ m) / 2 ^ c % 2 ≡ flag (f c)
    here e =
        ap (λ (i : ℕ). (word_of m f + flag (f m) * 2 ^ m) / 2 ^ i % 2) e
        ∙ ap (λ (i : ℕ). i % 2) (add-mul-div_right (word_of m f) (flag (f m)) (pow_pos m) ∙ ap (λ (i : ℕ). i + flag (f m)) (div-eq_of_lt (word_lt m f)) ∙ zero-add (flag (f m)))
        ∙ mod-eq_of_lt (flag_lt (f m)) ∙ ap (λ (i : ℕ). flag (f i)) (sym e)

    there : c < m → word_of m f / 2 ^ c % 2 ≡ flag (f c) → (word_of m f + flag (f m) * 2 ^ m) / 2 ^ c % 2 ≡ flag (f c)
    there k ih =
        let i : ℕ = m - suc c in
        let b : ℕ = flag (f m) in
        let m_is : m ≡ suc i + c = omega arith in
        let p : 2 ^ m ≡ 2 ^ i * 2 * 2 ^ c = ap (λ (x : ℕ). 2 ^ x) m_is ∙ pow-add 2 (suc i) c ∙ ap (λ (x : ℕ). x * 2 ^ c) (pow-suc 2 i) in
        let q : b * 2 ^ m ≡ b * 2 ^ i * 2 * 2 ^ c = ap (λ (x : ℕ). b * x) p ∙ sym (mul_assoc b (2 ^ i * 2) (2 ^ c)) ∙ ap (λ (x : ℕ). x * 2 ^ c) (sym (mul_assoc b (2 ^ i) 2)) in
        let d : (word_of m f + b * 2 ^ m) / 2 ^ c ≡ word_of m f / 2 ^ c + b * 2 ^ i * 2 = ap (λ (x : ℕ). (word_of m f + x) / 2 ^ c) q ∙ add-mul-div_right (word_of m f) (b * 2 ^ i * 2) (pow_pos c) in
        ap (λ (x : ℕ). x % 2) d ∙ even (word_of m f / 2 ^ c) (b * 2 ^ i) ∙ ih

pub bit_word : (m : ℕ) (f : ℕ → Bool) (c : ℕ) → word_of m f / 2 ^ c % 2 ≡ flag (ltb c m && f c)
bit_word m f c = ⊎_elim inside outside (cases_lt c m)
  where
    inside : c < m → word_of m f / 2 ^ c % 2 ≡ flag (ltb c m && f c)
    inside l = bit_of m f c l ∙ sym (ap (λ (b : Bool). flag (b && f c)) (lt-ltb c m l))

    outside : m ≤ c → word_of m f / 2 ^ c % 2 ≡ flag (ltb c m && f c)
    outside l =
        ap (λ (i : ℕ). i % 2) (div-eq_of_lt (lt_of_lt_of_le (word_lt m f) (pow_mono l))) ∙ sym (ap (λ (b : Bool). flag (b && f c)) (le-ltb c m l))

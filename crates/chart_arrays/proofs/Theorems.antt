-- The theorem of `specs/Theorems.antt`, from the law of words; and that the words of the primes that serve are those of all primes. Assumes nothing.
use mathlib.Core.Path.{◌≡◌, refl, sym, ap, ◌∙◌, subst, subst⁻¹}
use mathlib.Core.Bool.{Bool, true, false, cond, ◌&&◌}
use mathlib.Core.List.{List}
use Prim.Native.Nat.{ℕ, zero, suc, ◌^◌}
use native.Mathlib.Omega.{arith}
use lib.Dec.{T, ltb, ltb→lt, lt→ltb}
use borrow.Author.Tests.{lt-ltb}
use Rattle.numbers.specs.Below.{flag}
use Rattle.cube.specs.Words.{on_set, cube_matches, prime, serves, serving_prime, column}
use Rattle.numbers.proofs.Bools.{and_l, and_r}
use Rattle.numbers.proofs.Bits.{word_lt, word_some, bit_word}
use Rattle.chart_arrays.specs.Columns.{columns_of}
use Rattle.chart_arrays.specs.Theorems.{WordTells}

one_holds : (b : Bool) → flag b ≡ 1 → T b
one_holds true e = tt
one_holds false e = absurd (omega arith)

module _ (n : ℕ) (t : List ℕ) (q : ℕ) where
  serves_word : serves n t q ≡ ltb 0 (columns_of n t q)
  unfolding serves
  serves_word = word_some (2 ^ n) (column n t q)

  -- so a prime that does not serve has the word of a cube that is no prime
  pub serving_word : cond (serving_prime n t q) (columns_of n t q) 0 ≡ cond (prime n t q) (columns_of n t q) 0
  serving_word = ap (λ (s : Bool). cond (prime n t q && s) (columns_of n t q) 0) serves_word ∙ go (prime n t q) (columns_of n t q)
    where
      go : (p : Bool) (w : ℕ) → cond (p && ltb 0 w) w 0 ≡ cond p w 0
      go true zero = refl
      go true (suc w) = ap (λ (b : Bool). cond b (suc w) 0) (lt-ltb 0 (suc w) (omega arith))
      go false w = refl

pub word_tells : (n : ℕ) (t : List ℕ) (q : ℕ) → WordTells n t q
word_tells n t q = record {
  below = word_lt (2 ^ n) (column n t q);
  tells = bit_word (2 ^ n) (column n t q);
  only_wanted = λ c e.
      let both = one_holds (ltb c (2 ^ n) && column n t q c) (sym (bit_word (2 ^ n) (column n t q) c) ∙ e) in
      let is_column = and_r (ltb c (2 ^ n)) (column n t q c) both in
      (ltb→lt c (2 ^ n) (and_l (ltb c (2 ^ n)) (column n t q c) both), and_l (on_set t c) (cube_matches n q c) is_column, and_r (on_set t c) (cube_matches n q c) is_column);
  not_empty = (λ h. ltb→lt 0 (columns_of n t q) (subst T (serves_word n t q) h), λ l. subst⁻¹ T (serves_word n t q) (lt→ltb 0 (columns_of n t q) l));
}

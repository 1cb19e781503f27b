-- The words of codes as sets of columns: a set has a column exactly when the bit of that column is one; the word with one code more; and the wanted codes,
-- which a row without tested bits matches. Assumes nothing.
use Rattle.std.proofs.Common.{◌≡◌, ℕ, ◌+◌, ◌*◌, ◌^◌, ◌/◌, ◌%◌, Bool, true, false, ◌&&◌, cond, List, refl, sym, ap, ◌∙◌, arith}
use lib.Bits.{and_zero_r}
use lib.Dec.{eqb, ltb}
use Rattle.numbers.specs.Below.{flag, word_of}
use Rattle.numbers.proofs.Bits.{word_more, word_same, bit_word}
use Rattle.cube.specs.Words.{on_set, Row, row_matches}
use Rattle.matrix.specs.Sets.{has_bit, has}
use Rattle.chart_arrays.specs.Steps.{row_column}

-- a bit that tells something tells whether the set has the column
pub bit-has : (x c : ℕ) (b : Bool) → x / 2 ^ c % 2 ≡ flag b → has x c ≡ b
unfolding has_bit
bit-has x c b e = ap (λ (i : ℕ). eqb i 1) e ∙ go b
  where
    go : (b : Bool) → eqb (flag b) 1 ≡ b
    go true = refl
    go false = refl

pub has_word : (m : ℕ) (f : ℕ → Bool) (c : ℕ) → has (word_of m f) c ≡ (ltb c m && f c)
has_word m f c = bit-has (word_of m f) c (ltb c m && f c) (bit_word m f c)

-- ---- one code more

pub column_turn : (t : List ℕ) (r : Row) (m word : ℕ) (b : Bool) → word ≡ word_of m (row_column t r) → b ≡ row_column t r m
    → word_of (m + 1) (row_column t r) ≡ word + cond b (2 ^ m) 0
column_turn t r m word b e f = sym (word_more m (row_column t r) e (go b f))
  where
    go : (b : Bool) → b ≡ row_column t r m → word + cond b (2 ^ m) 0 ≡ word + flag (row_column t r m) * 2 ^ m
    go true f = rw (sym f) (omega arith)
    go false f = rw (sym f) (omega arith)

-- ---- a row that tests nothing matches every code

pub wanted_columns : (t : List ℕ) (m : ℕ) → word_of m (row_column t (record { value = 0; care = 0 })) ≡ word_of m (on_set t)
unfolding row_matches
wanted_columns t m = word_same m _ (on_set t) (λ c l. ap (λ (i : ℕ). on_set t c && eqb i 0) (and_zero_r c) ∙ and_true (on_set t c))
  where
    and_true : (b : Bool) → (b && true) ≡ b
    and_true true = refl
    and_true false = refl

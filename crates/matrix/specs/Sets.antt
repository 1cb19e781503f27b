-- Sets as bits of words: columns as one word, by `ColumnSets`, and rows as a list of words. Definitions only. Assumes nothing.
use Rattle.std.specs.Prelude.{◌≡◌, List, Bool, true, false, ◌&&◌, ℕ, ◌-◌, ◌*◌, ◌/◌, ◌%◌, ◌≤◌, ◌<◌, ltb, leb, get_or, Option, MatchOption}
pub use Rattle.matrix.specs.ColumnSets.{ColumnSet, has}
unfoldable pub use Rattle.matrix.specs.ColumnSets.{has_bit}

-- the bits of a word
abbrev pub word_bits : ℕ
word_bits = 64

-- ---- sets of columns

-- the columns of a set are below this number
abbrev pub column_limit : ℕ
column_limit = word_bits

abbrev pub In : ColumnSet → ℕ → Type 0
In x c = has x c ≡ true

-- b tells whether a set has no column
pub record Emptiness (x : ColumnSet) (b : Bool) : Type 0 where
  pub none : b ≡ true → (c : ℕ) → In x c → ⊥
  pub some : b ≡ false → (c : ℕ) × In x c

-- b tells whether two sets have a column in common
pub record Meeting (x y : ColumnSet) (b : Bool) : Type 0 where
  pub some : b ≡ true → (c : ℕ) × In x c × In y c
  pub none : b ≡ false → (c : ℕ) → In x c → In y c → ⊥

-- b tells whether every column of x is one of y
pub record Inclusion (x y : ColumnSet) (b : Bool) : Type 0 where
  pub all : b ≡ true → (c : ℕ) → In x c → In y c
  pub some : b ≡ false → (c : ℕ) × In x c × (In y c → ⊥)

-- the set without a column
abbrev pub no_column : ColumnSet
no_column = 0

-- the column c, below the limit, is in the set x raised by d: x has the column that is d lower
abbrev pub has_raised : ColumnSet → ℕ → ℕ → Bool
has_raised x d c = ltb c column_limit && (leb d c && has x (c - d))

-- ---- sets of rows

-- a set of rows is a list of words
abbrev pub RowSet : Type 0
RowSet = List ℕ

-- and has this many of them
abbrev pub row_words : ℕ
row_words = 12

-- the rows of a set are below this number
abbrev pub row_limit : ℕ
row_limit = row_words * word_bits

-- the row i is in the set s: bit i % 64 of word i / 64 is set
unfoldable pub member : RowSet → ℕ → Bool
member s i = has_bit (get_or s (i / word_bits) 0) (i % word_bits)

abbrev pub Member : RowSet → ℕ → Type 0
Member s i = member s i ≡ true

-- ---- going through a set

-- r is the first number from `from` up to `end` that p holds of, or `end` where it holds of none
pub record Next (p : ℕ → Bool) (from end r : ℕ) : Type 0 where
  pub above : from ≤ r
  pub within : r ≤ end
  pub before : (i : ℕ) → from ≤ i → i < r → p i ≡ false
  pub here : r < end → p r ≡ true

-- the same, as an option: r is the first number from `from` on and before `end` that p holds of, or `None` where it holds of none
abbrev pub NextIfAny : (ℕ → Bool) → ℕ → ℕ → Option ℕ → Type 0
NextIfAny p from end r = MatchOption r (Next p from end end) (λ i. (i < end) × Next p from end i)
